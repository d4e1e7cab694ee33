-- The text of the entity section: how many bytes it has.
-- Assumes nothing.
use Prim.Native.Nat.{ℕ, zero, suc, ◌-◌, ◌≤◌}
use mathlib.Core.Path.{◌≡◌, refl}
use mathlib.Core.List.{List, []}
use native.Mathlib.Omega.{arith}
use lib.ListN.{length, take, drop, drop_of_length-le, length-take, length-drop}
use Rattle.models.specs.Text.{text_end}
use Rattle.models.proofs.Texts.{through_le}
use Rattle.load.specs.Entities.{text_of}

none : (n : ℕ) → ◌≡◌ {A = List ℕ} (take n []) []
none zero = refl
none (suc n) = refl

module _ (s : List ℕ) (at : ℕ) where
  pub none_is : length s ≤ at → text_of s at ≡ []
  none_is h = rw (drop_of_length-le s h) (none (text_end s at - at))

  -- the text has as many bytes as there are from its start to its end
  pub long : length (text_of s at) ≡ text_end s at - at
  unfolding text_end
  long = simp (length-take, length-drop) (omega (arith, through_le (drop at s), length-drop at s))

  -- past the file's end it is empty
  pub empty : length s ≤ at → text_end s at - at ≡ 0
  unfolding text_end
  empty h = omega (arith, through_le (drop at s), length-drop at s)
