-- The negated axis plane. Assumes nothing.
use mathlib.Core.Path.{◌≡◌, refl}
use lib.Ieee as Ieee
use lib.Ieee.{Float}
use Rattle.math.specs.Vector as Vec
use Rattle.math.specs.Plane as Pl
use Rattle.math.specs.declared.vector.Axis.{Axis as AxisT}
use Rattle.math.specs.declared.vector.Axis.TheVariants.{X, Y, Z}
use Rattle.math.specs.declared.plane.Alignment.TheVariants.{Axis}
use Rattle.float.specs.Root as Root

-- a normal of -1 and zeros, which normalising twice leaves as it is, the zeros' signs too

pub negated_axis : (a : AxisT) (d : Float) → Pl.negated (Pl.plane (Axis a) d) ≡ Pl.with_normal (Pl.turned (Axis a)) (Ieee.neg d)
unfolding Pl.new_plane Vec.normalize Root.sqrt Root.root_of_units Root.nearest_root Root.digits Ieee.of_bits Ieee.neg Ieee.add Ieee.mul Ieee.div Ieee.eq
negated_axis X d = refl
negated_axis Y d = refl
negated_axis Z d = refl
