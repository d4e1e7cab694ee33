-- Vectors and planes of f32: the results of the definitions hold values that an f32 has. Assumes nothing.
use mathlib.Core.Path.{◌≡◌}
use mathlib.Core.Bool.{Bool, true, false, cond}
use lib.Dec.{T}
use lib.Ieee as Ieee
use lib.Ieee.{Float, binary32, fits}
use lib.Ieee.Fits.{add-fits, mul-fits}
use lib.Ieee.Bits.{of_bits-fits}
use Rattle.float.proofs.Compare.{T_of}
use Rattle.math.specs.Vector as Vec
use Rattle.math.specs.Plane as Pl
use Rattle.math.specs.declared.vector.Vector3.{Vector3}
use Rattle.math.specs.declared.vector.Axis.{Axis as AxisT}
use Rattle.math.specs.declared.vector.Axis.TheVariants.{X, Y, Z}
use Rattle.math.specs.declared.plane.Alignment.TheVariants.{Axis}
use Rattle.math.specs.declared.plane.Hyperplane.{Hyperplane}

-- ---- vectors

-- each coordinate is an f32
pub record Fits3 (v : Vector3) : Type 0 where
  pub x_fits : T (fits binary32 v.x)
  pub y_fits : T (fits binary32 v.y)
  pub z_fits : T (fits binary32 v.z)

-- what a function is told of a vector that it is given
pub told_fits : {A B C D : Type 0} {v : Vector3} → (A × (fits binary32 v.x ≡ true)) × ((B × (fits binary32 v.y ≡ true)) × ((C × (fits binary32 v.z ≡ true)) × D)) → Fits3 v
told_fits g = record { x_fits = T_of g.0.1; y_fits = T_of g.1.0.1; z_fits = T_of g.1.1.0.1 }

pub along_fits : (v : Vector3) → Fits3 v → (a : AxisT) → T (fits binary32 (Vec.along v a))
along_fits v f X = f.x_fits
along_fits v f Y = f.y_fits
along_fits v f Z = f.z_fits

-- what an operation gives is rounded to an f32, whatever it is given
pub sum_fits : (v w : Vector3) → Fits3 (Vec.sum v w)
sum_fits v w = record { x_fits = add-fits binary32 v.x w.x; y_fits = add-fits binary32 v.y w.y; z_fits = add-fits binary32 v.z w.z }

pub scaled_fits : (k : Float) (v : Vector3) → Fits3 (Vec.scaled k v)
scaled_fits k v = record { x_fits = mul-fits binary32 k v.x; y_fits = mul-fits binary32 k v.y; z_fits = mul-fits binary32 k v.z }

pub dot_fits : (v w : Vector3) → T (fits binary32 (Vec.dot v w))
dot_fits v w =
    add-fits binary32 (Ieee.add binary32 (Ieee.mul binary32 v.x w.x) (Ieee.mul binary32 v.y w.y)) (Ieee.mul binary32 v.z w.z)

pub normalize_fits : (v : Vector3) → Fits3 (Vec.normalize v)
unfolding Vec.normalize
normalize_fits v = scaled_fits (Ieee.div binary32 Vec.one32 (Vec.magnitude v)) v

-- ---- planes

-- the normal's floats and the distance are f32
pub record FitsPlane (h : Hyperplane) : Type 0 where
  pub normal_fits : Fits3 (Pl.normal_of h)
  pub dist_fits : T (fits binary32 h.dist)

zero_fits : T (fits binary32 Pl.zero32)
zero_fits = of_bits-fits binary32 0

one_fits : T (fits binary32 Vec.one32)
one_fits = of_bits-fits binary32 0x3f80_0000

unit_fits : (a : AxisT) → Fits3 (Pl.normal_at (Axis a))
unit_fits X = record { x_fits = one_fits; y_fits = zero_fits; z_fits = zero_fits }
unit_fits Y = record { x_fits = zero_fits; y_fits = one_fits; z_fits = zero_fits }
unit_fits Z = record { x_fits = zero_fits; y_fits = zero_fits; z_fits = one_fits }

pub axis_plane_fits : (a : AxisT) (d : Float) → T (fits binary32 d) → FitsPlane (Pl.plane (Axis a) d)
axis_plane_fits a d D = record { normal_fits = unit_fits a; dist_fits = D }

pub from_normal_fits : (n : Vector3) (d : Float) → T (fits binary32 d) → FitsPlane (Pl.from_normal n d)
from_normal_fits n d D = record { normal_fits = normalize_fits n; dist_fits = D }

pub new_plane_fits : (n : Vector3) (d : Float) → T (fits binary32 d) → FitsPlane (Pl.new_plane n d)
unfolding Pl.new_plane
new_plane_fits n d D =
    either (Vec.same n Vec.unit_x) (axis_plane_fits X d D)
    (either (Vec.same n Vec.unit_y) (axis_plane_fits Y d D) (either (Vec.same n Vec.unit_z) (axis_plane_fits Z d D) (from_normal_fits (Vec.normalize n) d D)))
  where
    either : (t : Bool) {g h : Hyperplane} → FitsPlane g → FitsPlane h → FitsPlane (cond t g h)
    either true G H = G
    either false G H = H

-- ---- distances, ratios and points of a segment

pub between_fits : (s e : Vector3) (k : Float) → Fits3 (Pl.between s e k)
between_fits s e k = sum_fits s (Vec.scaled k (Vec.difference e s))
