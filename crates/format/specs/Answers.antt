-- What the results of the functions stand for: the value, or the number of the refusal. A reader of the calls may leave this file out.
use Rattle.std.specs.Prelude.{ℕ, Result, Ok, Err}
use Rattle.format.specs.Step.{Step, ok, refused}
use Rattle.format.specs.Refusal.{number_of}
use Rattle.format.specs.Answer.{Answer, answer}
use Rattle.format.specs.declared.refusal.Refusal.{Refusal}

abbrev pub step_of : {A : Type 0} → Result (A × ℕ) Refusal → Step A
step_of (Ok (v, p)) = ok v p
step_of (Err e) = refused (number_of e)

abbrev pub answer_of : {A : Type 0} → Result A Refusal → Answer A
answer_of (Ok v) = answer v
answer_of (Err e) = Answer.refused (number_of e)
