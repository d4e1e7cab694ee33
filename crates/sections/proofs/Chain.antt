-- What `search` goes by where a read gave the position after it, and where it refused and `?` handed the refusal on.
-- Assumes nothing.
use mathlib.Core.Path.{◌≡◌, sym}
use Rattle.std.specs.Prelude.{ℕ, Result}
use Rattle.std.specs.Result.{IsErrAnd}
use Rattle.format.proofs.Answers.{handed_on}
use Rattle.format.specs.Step.{Step, refused, and_then}
use Rattle.format.specs.Refusal.{number_of}
use Rattle.format.specs.declared.refusal.Refusal.{Refusal}
use Rattle.sections.specs.Answers.{position_step}

-- a position that was reached is a step with no value, so that `step_ok` of format/proofs/Chain.antt serves it; a refusal that is handed on
-- as a position is
pub position_no : {A : Type 0} (k : A → ℕ → Step (Unit {0})) (x : Step A) (e : Refusal) (q : Result ℕ Refusal) → refused (number_of e) ≡ x → IsErrAnd q (λ d. d ≡ e) → position_step q ≡ and_then x k
position_no k x e q i h = rw (handed_on h, sym i)
