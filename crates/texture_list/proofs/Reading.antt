-- What a reader gave, where any refusal of it stands for 23.
-- Assumes nothing.
use Rattle.std.specs.Prelude.{ℕ, ◌≡◌}
use Rattle.std.proofs.Common.{sym}
use Rattle.format.specs.Answer.{Answer, answer}
use Rattle.format.specs.Step.{Step, ok, refused}
use Rattle.records.specs.Access.{reading}

module _ {A : Type 0} (x : Step A) where
  pub read : (v : A) (p : ℕ) → ok v p ≡ x → answer v ≡ reading x
  read v p e = rw (sym e)

  pub unread : (n : ℕ) → refused n ≡ x → Answer.refused 23 ≡ reading x
  unread n e = rw (sym e)

pub ruleset reads = (read, unread)
