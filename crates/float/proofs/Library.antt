-- What the library's methods say, in the words of `specs/`.
-- Assumes nothing.
use Rattle.std.specs.Prelude.{ℕ, ◌+◌, ◌-◌, ◌*◌, ◌/◌, ◌<◌, ◌≡◌, true, false, Float}
use Rattle.std.proofs.Common.{refl, ap, arith}
use Rattle.std.specs.Float.{nan, inf, fin, binary32, float_is_finite, round_with}
use Rattle.std.specs.Float as Std
use Rattle.std.specs.Float.Ieee.{up, down, round}
use Rattle.std.specs.Float.Ieee.Scale.{finite}
use lib.Ieee.Fits.{down_pos}
use Rattle.float.specs.Whole.{of_whole, floor_of, ceil_of, raised}

-- rounded up, in either way of writing it
raised_is : (a b : ℕ) → 0 < b → (a + b - 1) / b ≡ raised a b
raised_is a b h = ap (λ n. n / b) (omega arith)

pub floor_is : (x : Float) → Std.floor binary32 x ≡ floor_of x
unfolding round_with floor_of of_whole
floor_is nan = refl
floor_is (inf s) = refl
floor_is (fin false m e) = refl
floor_is (fin true m e) = ap (λ n. round binary32 true n 1) (raised_is (m * up e) (down e) (down_pos e))

pub ceil_is : (x : Float) → Std.ceil binary32 x ≡ ceil_of x
unfolding round_with ceil_of of_whole
ceil_is nan = refl
ceil_is (inf s) = refl
ceil_is (fin false m e) = ap (λ n. round binary32 false n 1) (raised_is (m * up e) (down e) (down_pos e))
ceil_is (fin true m e) = refl

pub finite_is : (x : Float) → float_is_finite x ≡ finite x
unfolding float_is_finite
finite_is nan = refl
finite_is (inf s) = refl
finite_is (fin s m e) = refl
