-- The test of a version's bits is the test of the version.
-- Assumes nothing.
use mathlib.Core.Path.{◌≡◌, refl}
use mathlib.Core.Bool.{true, false}
use native.Mathlib.Omega.{arith}
use borrow.Author.Tests.{eq-eqb, ne_eqb}
use lib.IntN.{ℤ, pos, negsuc}
use mir.Syntax.{w32}
use mir.Val.{SFits, of_z}
use Rattle.sections.specs.Table.{is_version}

pub yes_29 : (z : ℤ) → SFits w32 z → of_z w32 z ≡ 29 → is_version z ≡ true
unfolding is_version
yes_29 (pos n) f e = eq-eqb n 29 e
yes_29 (negsuc n) f e = absurd (omega (arith, f.sfits, e))

pub no_29 : (z : ℤ) → SFits w32 z → (of_z w32 z ≡ 29 → ⊥) → is_version z ≡ false
unfolding is_version
no_29 (pos n) f e = ne_eqb n 29 e
no_29 (negsuc n) f e = refl
