-- A segment that crosses a plane has its ends on two sides, also by `point_side`, unless the crossing is no point: where `point_side` gives
-- both ends one side, the distance of an end is a NaN, and so is every coordinate of the crossing, which then equals nothing. So a trace that
-- goes on to the far part goes on to the other child.
-- Assumes nothing.
use mathlib.Core.Path.{◌≡◌, refl, sym, ap, ◌∙◌}
use mathlib.Core.Bool.{Bool, true, false, cond, false≢true}
use mathlib.Core.Logic.{◌⊎◌, inl, inr}
use Prim.Native.Nat.{ℕ}
use native.Mathlib.Omega.{arith}
use lib.Dec.{T}
use lib.Ieee as Ieee
use lib.Ieee.{Float, nan, inf, fin, binary32, fits, is_nan}
use Rattle.float.proofs.Compare.{add_nan_r, sub_nan_l, sub_nan_r, mul_nan_l, div_nan_r}
use Rattle.math.specs.Vector as Vec
use Rattle.math.specs.Plane as Pl
use Rattle.math.specs.declared.vector.Vector3.{Vector3}
use Rattle.math.specs.declared.plane.Hyperplane.{Hyperplane}
use Rattle.math.specs.declared.plane.HyperplaneSide.{HyperplaneSide}
use Rattle.math.specs.declared.plane.HyperplaneSide.TheVariants.{Positive, Negative}
use Rattle.math.specs.declared.plane.PointIntersection.{PointIntersection as Meeting}
use Rattle.math.specs.declared.plane.LinePlaneIntersect.TheVariants.{NoIntersection, PointIntersection}
use Rattle.math.proofs.Sides.{sides_agree_at_number}
pub use Rattle.math.proofs.Fits.{Fits3, between_fits}

-- ---- a NaN distance makes the ratio and the point a NaN

abbrev pub no_point : Vector3
no_point = Vec.vector nan nan nan

is_nan_lem : (x : Float) → is_nan x ≡ true → x ≡ nan
unfolding is_nan
is_nan_lem nan e = refl
is_nan_lem (inf s) e = absurd (false≢true e)
is_nan_lem (fin s m d) e = absurd (false≢true e)

eq_nan : (x : Float) → Ieee.eq x nan ≡ false
unfolding Ieee.eq
eq_nan nan = refl
eq_nan (inf s) = refl
eq_nan (fin s m e) = refl

ratio_nan : (a b : Float) → (is_nan a ≡ true) ⊎ (is_nan b ≡ true) → Pl.ratio_of a b ≡ nan
ratio_nan a b (inl h) = rw (is_nan_lem a h, sub_nan_l, div_nan_r)
ratio_nan a b (inr h) = rw (is_nan_lem b h, sub_nan_r, div_nan_r)

between_nan : (s e : Vector3) (k : Float) → k ≡ nan → Pl.between s e k ≡ no_point
between_nan s e k h = simp (h, mul_nan_l, add_nan_r)

-- no point equals it
pub nowhere : (p : Vector3) → Vec.same p no_point ≡ false
nowhere p = simp (eq_nan)

-- ---- what a crossing says

pub crossing_is : (h : Hyperplane) (s e : Vector3) (x : Meeting) → Pl.line_segment h s e ≡ PointIntersection x
    → (Pl.same_side (Pl.from_dist (Pl.point_dist h s)) (Pl.from_dist (Pl.point_dist h e)) ≡ false)
    × (Pl.crossing h s e (Pl.point_dist h s) (Pl.point_dist h e) (Pl.from_dist (Pl.point_dist h s)) ≡ x)
unfolding Pl.line_segment
crossing_is h s e x q = go (Pl.same_side (Pl.from_dist (Pl.point_dist h s)) (Pl.from_dist (Pl.point_dist h e))) (Pl.from_dist (Pl.point_dist h s)) (Pl.crossing h s e (Pl.point_dist h s) (Pl.point_dist h e) (Pl.from_dist (Pl.point_dist h s))) q
  where
    go : (t : Bool) (i : HyperplaneSide) (m : Meeting) → cond t (NoIntersection i) (PointIntersection m) ≡ PointIntersection x → (t ≡ false) × (m ≡ x)
    go true i m r = let z : ◌≡◌ {A = ℕ} 0 1 = cc in absurd (omega arith)
    go false i m r = (refl, cc)

-- ---- the theorem

pub same_refl : (s : HyperplaneSide) → Pl.same_side s s ≡ true
same_refl Positive = refl
same_refl Negative = refl

pub one_side_nan : (h : Hyperplane) (s e : Vector3) (x : Meeting) → T (fits binary32 h.dist) → Fits3 s → Fits3 e → Pl.line_segment h s e ≡ PointIntersection x → Pl.point_side h s ≡ Pl.point_side h e → x.point ≡ no_point
one_side_nan h s e x D S E q one = go (is_nan (Pl.point_dist h s)) refl (is_nan (Pl.point_dist h e)) refl
  where
    nan_case : (is_nan (Pl.point_dist h s) ≡ true) ⊎ (is_nan (Pl.point_dist h e) ≡ true) → x.point ≡ no_point
    nan_case w =
        sym (ap (λ (m : Meeting). m.point) (crossing_is h s e x q).1)
        ∙ between_nan s e (Pl.ratio_of (Pl.point_dist h s) (Pl.point_dist h e)) (ratio_nan (Pl.point_dist h s) (Pl.point_dist h e) w)

    go : (a : Bool) → is_nan (Pl.point_dist h s) ≡ a → (b : Bool) → is_nan (Pl.point_dist h e) ≡ b → x.point ≡ no_point
    go true u b v = nan_case (inl u)
    go false u true v = nan_case (inr v)
    go false u false v =
        let i : Pl.from_dist (Pl.point_dist h s) ≡ Pl.from_dist (Pl.point_dist h e) = sides_agree_at_number h s D S u ∙ one ∙ sym (sides_agree_at_number h e D E v) in
        let j = ap (λ (y : HyperplaneSide). Pl.same_side y (Pl.from_dist (Pl.point_dist h e))) i ∙ same_refl (Pl.from_dist (Pl.point_dist h e)) in
        absurd (false≢true (sym (crossing_is h s e x q).0 ∙ j))

pub one_side_nowhere : (h : Hyperplane) (s e : Vector3) (x : Meeting) → T (fits binary32 h.dist) → Fits3 s → Fits3 e → Pl.line_segment h s e ≡ PointIntersection x → Pl.point_side h s ≡ Pl.point_side h e → (p : Vector3) → Vec.same p x.point ≡ false
one_side_nowhere h s e x D S E q one p = ap (Vec.same p) (one_side_nan h s e x D S E q one) ∙ nowhere p
