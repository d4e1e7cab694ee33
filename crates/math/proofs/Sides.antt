-- The two side tests of a plane: `point_side`, which on an axis is p >= d, and the side of the distance p - d. They agree but for a point
-- and an axis plane at one infinity: there `point_side` is Positive, and the distance is a NaN, which is Negative.
-- Assumes nothing.
use mathlib.Core.Path.{◌≡◌, refl, sym, ap, ◌∙◌}
use mathlib.Core.Bool.{Bool, true, false, false≢true}
use lib.Dec.{T}
use lib.Ieee.{Float, nan, binary32, fits, is_nan, of_bits}
use Rattle.float.proofs.Compare.{same_infinity, ge_agree, ge_same_infinity, le_nan_r}
use Rattle.math.specs.Vector as Vec
use Rattle.math.specs.Plane as Pl
use Rattle.math.specs.declared.vector.Vector3.{Vector3}
use Rattle.math.specs.declared.plane.Alignment.{Alignment}
use Rattle.math.specs.declared.plane.Alignment.TheVariants.{Axis, Normal}
use Rattle.math.specs.declared.plane.Hyperplane.{Hyperplane}
use Rattle.math.specs.declared.plane.HyperplaneSide.TheVariants.{Positive, Negative}
use Rattle.math.proofs.Fits.{Fits3, along_fits}

-- the point's coordinate and the plane's distance are one infinity, on an axis plane
abbrev pub at_infinity : Alignment → Float → Vector3 → Bool
at_infinity (Axis a) d p = same_infinity (Vec.along p a) d
at_infinity (Normal n) d p = false

differ_at : (a : Alignment) (d : Float) (p : Vector3) → at_infinity a d p ≡ true → (Pl.side_of a d p ≡ Positive) × (Pl.dist_of a d p ≡ nan)
differ_at (Axis a) d p h = let g = ge_same_infinity binary32 (Vec.along p a) d h in (ap Pl.side_if g.0, g.1)
differ_at (Normal n) d p h = absurd (false≢true h)

pub sides_differ : (h : Hyperplane) (p : Vector3) → at_infinity h.alignment h.dist p ≡ true → (Pl.point_side h p ≡ Positive) × (Pl.from_dist (Pl.point_dist h p) ≡ Negative)
sides_differ h p i =
    let g = differ_at h.alignment h.dist p i in
    (g.0, ap Pl.from_dist g.1 ∙ ap Pl.side_if (le_nan_r Pl.zero32))

agree_at : (a : Alignment) (d : Float) (p : Vector3) → T (fits binary32 d) → Fits3 p → at_infinity a d p ≡ false → Pl.from_dist (Pl.dist_of a d p) ≡ Pl.side_of a d p
unfolding of_bits
agree_at (Axis a) d p D P h = ap Pl.side_if (ge_agree binary32 (Vec.along p a) d (along_fits p P a) D h)
agree_at (Normal n) d p D P h = refl

pub sides_agree : (h : Hyperplane) (p : Vector3) → T (fits binary32 h.dist) → Fits3 p → at_infinity h.alignment h.dist p ≡ false → Pl.from_dist (Pl.point_dist h p) ≡ Pl.point_side h p
sides_agree h p D P i = agree_at h.alignment h.dist p D P i

-- so they agree wherever the distance is no NaN
pub sides_agree_at_number : (h : Hyperplane) (p : Vector3) → T (fits binary32 h.dist) → Fits3 p → is_nan (Pl.point_dist h p) ≡ false → Pl.from_dist (Pl.point_dist h p) ≡ Pl.point_side h p
unfolding is_nan
sides_agree_at_number h p D P n = go (at_infinity h.alignment h.dist p) refl
  where
    go : (b : Bool) → at_infinity h.alignment h.dist p ≡ b → Pl.from_dist (Pl.point_dist h p) ≡ Pl.point_side h p
    go true i = absurd (false≢true (sym n ∙ ap is_nan (differ_at h.alignment h.dist p i).1))
    go false i = sides_agree h p D P i
