-- What a call answers, in document 01's terms: a value, or a refusal by its number alone.
use Rattle.std.specs.Prelude.{ℕ}

pub data Answer (A : Type 0) : Type 0 where
  answer : A → Answer A
  refused : ℕ → Answer A

-- what is made of a value; a refusal stays
abbrev pub mapped : {A B : Type 0} → (A → B) → Answer A → Answer B
mapped f (answer a) = answer (f a)
mapped f (refused n) = refused n

-- the same where what is made of the value may be refused too
abbrev pub then_answer : {A B : Type 0} → Answer A → (A → Answer B) → Answer B
then_answer (answer a) k = k a
then_answer (refused n) k = refused n

-- what is made of a value, and this in place of any refusal
abbrev pub on_refusal : {A B : Type 0} → B → Answer A → (A → B) → B
on_refusal other (answer a) k = k a
on_refusal other (refused n) k = other
