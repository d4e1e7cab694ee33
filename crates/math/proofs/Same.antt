-- What `==` says of sides. (Of vectors it says `Vec.same` as it stands.)
-- Assumes nothing.
use mathlib.Core.Path.{◌≡◌, refl}
use denote.Enum.Bare.{sameb}
use Rattle.math.specs.Plane.{same_side}
use Rattle.math.specs.contracts.plane.HyperplaneSide.{the_type}
use Rattle.math.specs.declared.plane.HyperplaneSide.{HyperplaneSide}
use Rattle.math.specs.declared.plane.HyperplaneSide.TheVariants.{Positive, Negative}

pub equal_sides : (a b : HyperplaneSide) → sameb the_type a b ≡ same_side a b
equal_sides Positive Positive = refl
equal_sides Positive Negative = refl
equal_sides Negative Positive = refl
equal_sides Negative Negative = refl
