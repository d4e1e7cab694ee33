-- A box of points, by its least coordinates `lo` and its greatest `hi`: which points are in it, its eight corners, and to which side of a plane it goes.
-- Assumes nothing.
use Rattle.std.specs.Prelude.{Bool, true, false, not, ◌&&◌, cond, T, Float}
use Rattle.std.specs.Float.Ieee as Ieee
use Rattle.std.specs.Float.Ieee.Scale.{finite}
use Rattle.math.specs.Vector as Vec
use Rattle.math.specs.Plane as Pl
use Rattle.math.specs.declared.vector.Vector3.{Vector3}
use Rattle.math.specs.declared.plane.Alignment.{Alignment}
use Rattle.math.specs.declared.plane.Alignment.TheVariants.{Axis, Normal}
use Rattle.math.specs.declared.plane.Hyperplane.{Hyperplane}
use Rattle.math.specs.declared.plane.HyperplaneSide.TheVariants.{Positive, Negative}
use Rattle.math.specs.declared.bounds.BoxSide.{BoxSide}
use Rattle.math.specs.declared.bounds.BoxSide.TheVariants.{One, Both}

-- on one axis: both bounds are finite, and the least is not above the greatest
abbrev pub is_span : Float → Float → Bool
is_span lo hi = finite lo && (finite hi && Ieee.le lo hi)

abbrev pub is_box : Vector3 → Vector3 → Bool
is_box lo hi = is_span lo.x hi.x && (is_span lo.y hi.y && is_span lo.z hi.z)

-- the point is in the box, the bounds counted
pub record InBox (lo hi p : Vector3) : Type 0 where
  pub x_least : T (Ieee.le lo.x p.x)
  pub x_most : T (Ieee.le p.x hi.x)
  pub y_least : T (Ieee.le lo.y p.y)
  pub y_most : T (Ieee.le p.y hi.y)
  pub z_least : T (Ieee.le lo.z p.z)
  pub z_most : T (Ieee.le p.z hi.z)

-- a corner: on each axis the greatest coordinate if the test holds, else the least
abbrev pub corner : Vector3 → Vector3 → Bool → Bool → Bool → Vector3
corner lo hi a b c = Vec.vector (cond a hi.x lo.x) (cond b hi.y lo.y) (cond c hi.z lo.z)

-- the test holds at both ends of an axis
abbrev pub at_both : (Bool → Bool) → Bool
at_both t = t false && t true

-- the test holds at all eight corners
abbrev pub at_corners : (Vector3 → Bool) → Vector3 → Vector3 → Bool
at_corners t lo hi = at_both (λ a. at_both (λ b. at_both (λ c. t (corner lo hi a b c))))

-- the rounded distance is at least 0; a NaN is below
abbrev pub is_front : Hyperplane → Vector3 → Bool
is_front h p = Ieee.le Pl.zero32 (Pl.point_dist h p)

-- the side on which the corners' distances all fall, or both sides
unfoldable pub box_side : Hyperplane → Vector3 → Vector3 → BoxSide
box_side h lo hi =
    cond (at_corners (is_front h) lo hi) (One Positive)
    (cond (at_corners (λ c. not (is_front h c)) lo hi) (One Negative) Both)

-- the corner whose distance is least, by the normal's signs; with the bounds in each other's place it is the one whose distance is greatest
abbrev pub least_of : Alignment → Vector3 → Vector3 → Vector3
least_of (Axis a) lo hi = lo
least_of (Normal n) lo hi = corner lo hi (Ieee.lt n.x Pl.zero32) (Ieee.lt n.y Pl.zero32) (Ieee.lt n.z Pl.zero32)

-- the side by these two corners alone; in a box it is `box_side` (`box_side_by_two` of proofs/Boxes.antt)
abbrev pub side_by_two : Hyperplane → Vector3 → Vector3 → BoxSide
side_by_two h lo hi =
    cond (is_front h (least_of h.alignment lo hi)) (One Positive)
    (cond (is_front h (least_of h.alignment hi lo)) Both (One Negative))
