-- Planes, in the order of math.rs: a side, the planes and how they are made, on which side of one a point lies, and where a segment crosses one.
-- Assumes nothing.
use Rattle.std.specs.Prelude.{Bool, true, false, cond, Float}
use Rattle.std.specs.Float.Ieee as Ieee
use Rattle.std.specs.Float.{binary32}
use Rattle.math.specs.Vector as Vec
use Rattle.math.specs.declared.vector.Vector3.{Vector3}
use Rattle.math.specs.declared.vector.Axis.TheVariants.{X, Y, Z}
use Rattle.math.specs.declared.plane.Alignment.{Alignment}
use Rattle.math.specs.declared.plane.Alignment.TheVariants.{Axis, Normal}
use Rattle.math.specs.declared.plane.Hyperplane.{Hyperplane}
use Rattle.math.specs.declared.plane.HyperplaneSide.{HyperplaneSide}
use Rattle.math.specs.declared.plane.HyperplaneSide.TheVariants.{Positive, Negative}
use Rattle.math.specs.declared.plane.PointIntersection.{PointIntersection as Crossing}
use Rattle.math.specs.declared.plane.LinePlaneIntersect.{LinePlaneIntersect}
use Rattle.math.specs.declared.plane.LinePlaneIntersect.TheVariants.{NoIntersection, PointIntersection}
pub use Rattle.math.specs.Vector.{zero32, minus_one32}

-- ---- the sides

-- Positive if the test holds
abbrev pub side_if : Bool → HyperplaneSide
side_if true = Positive
side_if false = Negative

-- the other side
abbrev pub negated_side : HyperplaneSide → HyperplaneSide
negated_side Positive = Negative
negated_side Negative = Positive

abbrev pub same_side : HyperplaneSide → HyperplaneSide → Bool
same_side Positive Positive = true
same_side Positive Negative = false
same_side Negative Positive = false
same_side Negative Negative = true

-- at least 0; a NaN is Negative
abbrev pub from_dist : Float → HyperplaneSide
from_dist d = side_if (Ieee.le zero32 d)

-- ---- the planes

abbrev pub plane : Alignment → Float → Hyperplane
plane a d = record { alignment = a; dist = d }

abbrev pub axis_x : Float → Hyperplane
axis_x d = plane (Axis X) d

abbrev pub axis_y : Float → Hyperplane
axis_y d = plane (Axis Y) d

abbrev pub axis_z : Float → Hyperplane
axis_z d = plane (Axis Z) d

-- a plane that holds the normal as it is given
abbrev pub with_normal : Vector3 → Float → Hyperplane
with_normal n d = plane (Normal n) d

-- `from_normal`: the normal is normalised once
abbrev pub from_normal : Vector3 → Float → Hyperplane
from_normal n d = with_normal (Vec.normalize n) d

-- `new`: a normal that equals a unit vector makes an axis plane, as floats compare, so that -0 serves for 0; any other is normalised twice
unfoldable pub new_plane : Vector3 → Float → Hyperplane
new_plane n d =
    cond (Vec.same n Vec.unit_x) (axis_x d)
    (cond (Vec.same n Vec.unit_y) (axis_y d)
    (cond (Vec.same n Vec.unit_z) (axis_z d)
    (from_normal (Vec.normalize n) d)))

-- `normal`, by the plane's alignment
abbrev pub normal_at : Alignment → Vector3
normal_at (Axis X) = Vec.unit_x
normal_at (Axis Y) = Vec.unit_y
normal_at (Axis Z) = Vec.unit_z
normal_at (Normal n) = n

abbrev pub normal_of : Hyperplane → Vector3
normal_of h = normal_at h.alignment

-- the normal turned round
abbrev pub turned : Alignment → Vector3
turned (Axis X) = Vec.vector minus_one32 zero32 zero32
turned (Axis Y) = Vec.vector zero32 minus_one32 zero32
turned (Axis Z) = Vec.vector zero32 zero32 minus_one32
turned (Normal n) = Vec.negated n

abbrev pub negated : Hyperplane → Hyperplane
negated h = new_plane (turned h.alignment) (Ieee.neg h.dist)

-- ---- a point and a plane

-- by the plane's alignment and its distance
abbrev pub dist_of : Alignment → Float → Vector3 → Float
dist_of (Axis a) d p = Ieee.sub binary32 (Vec.along p a) d
dist_of (Normal n) d p = Ieee.sub binary32 (Vec.dot p n) d

abbrev pub point_dist : Hyperplane → Vector3 → Float
point_dist h p = dist_of h.alignment h.dist p

abbrev pub side_of : Alignment → Float → Vector3 → HyperplaneSide
side_of (Axis a) d p = side_if (Ieee.le d (Vec.along p a))
side_of (Normal n) d p = side_if (Ieee.le zero32 (Ieee.sub binary32 (Vec.dot p n) d))

abbrev pub point_side : Hyperplane → Vector3 → HyperplaneSide
point_side h p = side_of h.alignment h.dist p

-- ---- a segment and a plane

-- the plane, or the plane turned round for the negative side
abbrev pub facing : HyperplaneSide → Hyperplane → Hyperplane
facing Positive h = h
facing Negative h = negated h

-- the start's distance over the difference of the two distances
abbrev pub ratio_of : Float → Float → Float
ratio_of a b = Ieee.div binary32 a (Ieee.sub binary32 a b)

-- start + k * (end - start)
abbrev pub between : Vector3 → Vector3 → Float → Vector3
between s e k = Vec.sum s (Vec.scaled k (Vec.difference e s))

abbrev pub crossing : Hyperplane → Vector3 → Vector3 → Float → Float → HyperplaneSide → Crossing
crossing h s e a b side = record { ratio = ratio_of a b; point = between s e (ratio_of a b); plane = facing side h }

-- what a segment from s to e does, whose ends are at the distances a and b
abbrev pub segment_at : Hyperplane → Vector3 → Vector3 → Float → Float → LinePlaneIntersect
segment_at h s e a b =
    cond (same_side (from_dist a) (from_dist b))
    (NoIntersection (from_dist a))
    (PointIntersection (crossing h s e a b (from_dist a)))

-- `line_segment_intersection`
unfoldable pub line_segment : Hyperplane → Vector3 → Vector3 → LinePlaneIntersect
line_segment h s e = segment_at h s e (point_dist h s) (point_dist h e)
