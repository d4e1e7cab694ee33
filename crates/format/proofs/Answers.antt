-- Laws about answers, and what a `?` hands on.
use Prim.Native.Nat.{ℕ}
use mathlib.Core.Path.{◌≡◌, refl, ap, ◌∙◌}
use native.Mathlib.Omega.{arith}
use Rattle.std.specs.Prelude.{Result, Err}
use Rattle.std.specs.Result.{IsErrAnd}
use Rattle.std.proofs.lemmas.Result.{err_from_is_err_and}
use Rattle.format.specs.Answer.{Answer, answer, refused, mapped}
use Rattle.format.specs.Answers.{answer_of}
use Rattle.format.specs.Refusal.{number_of}
use Rattle.format.specs.declared.refusal.Refusal.{Refusal}

pub mapped_answer : {A B : Type 0} (f : A → B) (a : Answer A) (b : B) → mapped f a ≡ answer b → (x : A) × (a ≡ answer x) × (f x ≡ b)
mapped_answer {A} {B} f (answer x) b e = (x, refl, let q : f x ≡ b = cc in q)
mapped_answer f (refused n) b e = let z : ◌≡◌ {A = ℕ} 0 1 = cc in absurd (omega arith)

pub mapped_refused : {A B : Type 0} (f : A → B) (a : Answer A) (n : ℕ) → mapped f a ≡ refused n → a ≡ refused n
mapped_refused f (answer x) n e = let z : ◌≡◌ {A = ℕ} 0 1 = cc in absurd (omega arith)
mapped_refused f (refused m) n e = cc

pub handed_on : {A : Type 0} {q : Result A Refusal} {e : Refusal} → IsErrAnd q (λ d. d ≡ e) → q ≡ Err e
handed_on {q = q} h = let (d, t, s) = err_from_is_err_and q h in t ∙ ap Err s

-- the same, of the answer that the result stands for
pub handed_answer : {A : Type 0} (q : Result A Refusal) (e : Refusal) → IsErrAnd q (λ d. d ≡ e) → answer_of q ≡ refused (number_of e)
handed_answer q e h = ap answer_of (handed_on h)
