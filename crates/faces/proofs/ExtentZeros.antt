-- No texture min and no extent depends on which of two zeros a minimum or a maximum picks: with any two functions that agree with
-- `minimum` and `maximum` but for the sign of a zero, each face has the same surface.
-- Assumes nothing.
use Prim.Native.Nat.{ℕ, zero, suc, ◌+◌}
use mathlib.Core.Path.{◌≡◌, refl, ap}
use mathlib.Core.Bool.{Bool, true, false, cond}
use mathlib.Core.List.{List}
use lib.Dec.{ltb}
use lib.Ieee.{Float, binary32, add}
use Rattle.float.specs.Whole.{minimum, maximum, times16}
use Rattle.math.specs.Vector.{dot}
use Rattle.math.specs.declared.vector.Vector3.{Vector3}
use Rattle.format.specs.Answer.{Answer, answer, refused, then_answer, on_refusal}
use Rattle.format.specs.Section.{record_count}
use Rattle.format.specs.declared.section.BspData.{BspData}
use Rattle.format.specs.declared.section.BspFileSectionId.TheVariants.{EdgeList}
use Rattle.records.specs.Texinfo.{texinfo_of}
use Rattle.records.specs.declared.texinfo.BspTexInfo.{BspTexInfo}
use Rattle.faces.specs.Extents.{corner_of, unbounded, widened, span_over, span_of, texture_min, extent, surface_in, surface_of}
use Rattle.faces.specs.declared.face.BspFace.{BspFace}
use Rattle.faces.specs.declared.extents.Span.{Span}
use Rattle.faces.specs.declared.extents.Surface.{Surface}
use Rattle.faces.proofs.Zeros.{Alike, same, join, min_alike, max_alike, div_alike, floor_alike, ceil_alike, sub_alike, cast_alike}

min_same : {x y : Float} → Alike x y → texture_min x ≡ texture_min y
unfolding texture_min
min_same h = ap times16 (cast_alike (floor_alike (div_alike _ _ h)))

extent_same : {x y z w : Float} → Alike x y → Alike z w → extent x z ≡ extent y w
unfolding extent
extent_same h g = ap times16 (cast_alike (sub_alike (ceil_alike (div_alike _ _ g)) (floor_alike (div_alike _ _ h))))

-- two spans that differ at most in the signs of zeros
record AlikeSpan (w v : Span) : Type 0 where
  s_min_lem : Alike w.s_min v.s_min
  s_max_lem : Alike w.s_max v.s_max
  t_min_lem : Alike w.t_min v.t_min
  t_max_lem : Alike w.t_max v.t_max

surface_same : (w v : Span) (special : Bool) → AlikeSpan w v → surface_in w special ≡ surface_in v special
unfolding surface_in
surface_same w v special h = rw (min_same h.s_min_lem, min_same h.t_min_lem, extent_same h.s_min_lem h.s_max_lem, extent_same h.t_min_lem h.t_max_lem) refl

data AlikeAnswer : Answer Span → Answer Span → Type 0 where
  answers : {w v : Span} → AlikeSpan w v → AlikeAnswer (answer w) (answer v)
  refusals : {n : ℕ} → AlikeAnswer (refused n) (refused n)

-- The definitions with another minimum and another maximum.
module _ (lesser greater : Float → Float → Float) where
  unfoldable pub widened_by : BspTexInfo → Vector3 → Span → Span
  widened_by info v w =
      let s = add binary32 (dot info.s_vector v) info.s_offset in
      let t = add binary32 (dot info.t_vector v) info.t_offset in
      record {
        s_min = lesser w.s_min s;
        s_max = greater w.s_max s;
        t_min = lesser w.t_min t;
        t_max = greater w.t_max t;
      }

  unfoldable pub span_over_by : List ℕ → BspData → BspTexInfo → ℕ → ℕ → Span → Answer Span
  span_over_by s m info zero i w = answer w
  span_over_by s m info (suc n) i w = then_answer (corner_of s m i) (λ v. span_over_by s m info n (i + 1) (widened_by info v w))

  unfoldable pub span_of_by : List ℕ → BspData → BspTexInfo → ℕ → ℕ → Answer Span
  span_of_by s m info first count =
      cond (ltb (record_count EdgeList m.edgelist) (first + count)) (refused 23)
      (span_over_by s m info count first unbounded)

  unfoldable pub surface_of_by : List ℕ → BspData → BspFace → Answer Surface
  surface_of_by s m f =
      on_refusal (refused 23) (texinfo_of s m f.texinfo_id) (λ info.
      then_answer (span_of_by s m info f.edge_id f.edge_count) (λ w.
      answer (surface_in w info.special)))

module _ (lesser greater : Float → Float → Float)
    (is-min : (a b : Float) → Alike (lesser a b) (minimum a b)) (is-max : (a b : Float) → Alike (greater a b) (maximum a b)) where
  widened_alike : (info : BspTexInfo) (v : Vector3) (w u : Span) → AlikeSpan w u → AlikeSpan (widened_by lesser greater info v w) (widened info v u)
  unfolding widened_by widened
  widened_alike info v w u h = record {
    s_min_lem = join (is-min _ _) (min_alike _ _ _ h.s_min_lem);
    s_max_lem = join (is-max _ _) (max_alike _ _ _ h.s_max_lem);
    t_min_lem = join (is-min _ _) (min_alike _ _ _ h.t_min_lem);
    t_max_lem = join (is-max _ _) (max_alike _ _ _ h.t_max_lem);
  }

  over_alike : (s : List ℕ) (m : BspData) (info : BspTexInfo) (n i : ℕ) (w u : Span) → AlikeSpan w u
      → AlikeAnswer (span_over_by lesser greater s m info n i w) (span_over s m info n i u)
  unfolding span_over_by span_over
  over_alike s m info zero i w u h = answers h
  over_alike s m info (suc n) i w u h = by (over_alike s m info n) (corner_of s m i)
    where
      by : ((i : ℕ) (w u : Span) → AlikeSpan w u → AlikeAnswer (span_over_by lesser greater s m info n i w) (span_over s m info n i u))
          → (x : Answer Vector3)
          → AlikeAnswer (then_answer x (λ v. span_over_by lesser greater s m info n (i + 1) (widened_by lesser greater info v w))) (then_answer x (λ v. span_over s m info n (i + 1) (widened info v u)))
      by again (answer v) = again (i + 1) (widened_by lesser greater info v w) (widened info v u) (widened_alike info v w u h)
      by again (refused e) = refusals

  surfaces : (special : Bool) (x y : Answer Span) → AlikeAnswer x y → then_answer x (λ w. answer (surface_in w special)) ≡ then_answer y (λ w. answer (surface_in w special))
  surfaces special x y (answers {w} {v} h) = ap answer (surface_same w v special h)
  surfaces special x y refusals = refl

  alike_itself : (w : Span) → AlikeSpan w w
  alike_itself w = record { s_min_lem = same; s_max_lem = same; t_min_lem = same; t_max_lem = same }

  of_alike : (s : List ℕ) (m : BspData) (info : BspTexInfo) (first count : ℕ) → AlikeAnswer (span_of_by lesser greater s m info first count) (span_of s m info first count)
  unfolding span_of_by span_of
  of_alike s m info first count = by (ltb (record_count EdgeList m.edgelist) (first + count))
    where
      by : (t : Bool) → AlikeAnswer (cond t (refused 23) (span_over_by lesser greater s m info count first unbounded)) (cond t (refused 23) (span_over s m info count first unbounded))
      by true = refusals
      by false = over_alike s m info count first unbounded unbounded (alike_itself unbounded)

  -- the surface is the same whichever zero is picked
  pub any_zero : (s : List ℕ) (m : BspData) (f : BspFace) → surface_of_by lesser greater s m f ≡ surface_of s m f
  unfolding surface_of_by surface_of
  any_zero s m f = by (texinfo_of s m f.texinfo_id)
    where
      by : (x : Answer BspTexInfo)
          → on_refusal (refused 23) x (λ info. then_answer (span_of_by lesser greater s m info f.edge_id f.edge_count) (λ w. answer (surface_in w info.special)))
          ≡ on_refusal (refused 23) x (λ info. then_answer (span_of s m info f.edge_id f.edge_count) (λ w. answer (surface_in w info.special)))
      by (answer info) = surfaces info.special _ _ (of_alike s m info f.edge_id f.edge_count)
      by (refused n) = refl
