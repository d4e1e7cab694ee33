-- Vectors, planes and crossings as numbers, for calls that take and give nothing but numbers. A float is its 32 bits, every NaN 0x7fc00000.
-- Assumes nothing.
use Rattle.std.specs.Prelude.{ℕ, cond, List, [], ◌∷◌, eqb, get_or, Float}
use Rattle.std.specs.Float.{binary32}
use Rattle.std.specs.Float.Ieee.{to_bits}
use Rattle.math.specs.Vector.{vector, zero32}
use Rattle.math.specs.Plane.{axis_x, axis_y, axis_z, with_normal, normal_of}
use Rattle.math.specs.declared.vector.Vector3.{Vector3}
use Rattle.math.specs.declared.plane.Hyperplane.{Hyperplane}
use Rattle.math.specs.declared.plane.HyperplaneSide.{HyperplaneSide}
use Rattle.math.specs.declared.plane.HyperplaneSide.TheVariants.{Positive, Negative}
use Rattle.math.specs.declared.plane.PointIntersection.{PointIntersection as Crossing}
use Rattle.math.specs.declared.plane.LinePlaneIntersect.{LinePlaneIntersect}
use Rattle.math.specs.declared.plane.LinePlaneIntersect.TheVariants.{NoIntersection, PointIntersection}
pub use Rattle.words.specs.Words.{kind_of}

-- the coordinate number n, and 0 for an n above 2
unfoldable pub coordinate_of : Vector3 → ℕ → Float
coordinate_of v n = get_or (v.x ∷ v.y ∷ v.z ∷ []) n zero32

-- the axis plane number n: x, y, and z for any other
unfoldable pub axis_plane : ℕ → Float → Hyperplane
axis_plane n d = cond (eqb n 0) (axis_x d) (cond (eqb n 1) (axis_y d) (axis_z d))

-- the plane of a kind: 0, 1, 2 an axis plane, any other a plane with the normal as it is given
unfoldable pub plane_given : ℕ → Float → Float → Float → Float → Hyperplane
plane_given kind x y z d =
    cond (eqb kind 0) (axis_x d) (cond (eqb kind 1) (axis_y d) (cond (eqb kind 2) (axis_z d) (with_normal (vector x y z) d)))

abbrev pub bits : Float → ℕ
bits x = to_bits binary32 x

-- kind, normal, distance
unfoldable pub plane_words : Hyperplane → List ℕ
plane_words h = kind_of h.alignment ∷ bits (normal_of h).x ∷ bits (normal_of h).y ∷ bits (normal_of h).z ∷ bits h.dist ∷ []

abbrev pub side_word : HyperplaneSide → ℕ
side_word Positive = 0
side_word Negative = 1

-- 1, the ratio, the point, and the plane's words
unfoldable pub point_words : Crossing → List ℕ
point_words x = 1 ∷ bits x.ratio ∷ bits x.point.x ∷ bits x.point.y ∷ bits x.point.z ∷ plane_words x.plane

-- 0 and the side, or the words of a crossing
abbrev pub crossing_words : LinePlaneIntersect → List ℕ
crossing_words (NoIntersection s) = 0 ∷ side_word s ∷ []
crossing_words (PointIntersection x) = point_words x
