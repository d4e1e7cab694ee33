-- Where records lie: a record of the count ends within its section, so that no sum or product of a place wraps, and what each refusal of
-- `place` says.
-- Assumes nothing.
use Prim.Native.Nat.{ℕ, ◌+◌, ◌*◌, ◌≤◌, ◌<◌}
use mathlib.Core.Path.{◌≡◌, refl, sym, ap, ◌∙◌}
use mathlib.Core.Bool.{Bool, true, false, cond}
use native.Mathlib.Nat.{le-div_iff_mul-le}
use native.Mathlib.Omega.{arith}
use borrow.Author.Tests.{le-leb, lt-leb, leb-true, leb-false}
use lib.Dec.{leb, lit<}
use Rattle.format.specs.Answer.{answer, refused}
use Rattle.format.specs.Section.{element_size, within_limit, record_count, place}
use Rattle.format.specs.declared.section.BspFileSection.{BspFileSection}
use Rattle.format.specs.declared.section.BspFileSectionId.{BspFileSectionId}
use Rattle.format.specs.declared.section.BspFileSectionId.TheVariants.{Entities, Planes, Textures, Vertices, Visibility, RenderNodes, TextureInfo, Faces, Lightmaps, CollisionNodes, Leaves, FaceList, Edges, EdgeList, Models}

-- each element has some bytes
pub some_bytes : (id : BspFileSectionId) → 0 < element_size id
some_bytes Entities = lit< tt
some_bytes Planes = lit< tt
some_bytes Textures = lit< tt
some_bytes Vertices = lit< tt
some_bytes Visibility = lit< tt
some_bytes RenderNodes = lit< tt
some_bytes TextureInfo = lit< tt
some_bytes Faces = lit< tt
some_bytes Lightmaps = lit< tt
some_bytes CollisionNodes = lit< tt
some_bytes Leaves = lit< tt
some_bytes FaceList = lit< tt
some_bytes Edges = lit< tt
some_bytes EdgeList = lit< tt
some_bytes Models = lit< tt

module _ (id : BspFileSectionId) (z : BspFileSection) (i : ℕ) where
  -- a record of the count ends within its section
  pub ends_within : i < record_count id z → i * element_size id + element_size id ≤ z.size
  unfolding record_count
  ends_within h = omega (arith, (le-div_iff_mul-le (some_bytes id)).0 h)

-- The four ways through `place`: `count`, `within` and `k` are what the calls on the way answer.
module _ (id : BspFileSectionId) (z : BspFileSection) (n i : ℕ) {count : ℕ} (is-count : count ≡ record_count id z) where
  pub none : count ≤ i → refused 20 ≡ place id z n i
  unfolding place
  none h = simp (← is-count, le-leb _ _ h)

  module _ {within : Bool} (is_within : within ≡ within_limit id count) (h : i < count) where
    pub above : within ≡ false → refused 23 ≡ place id z n i
    unfolding place
    above e = simp (← is-count, lt-leb _ _ h, ← is_within, e)

    module _ {k : ℕ} (is-k : k ≡ element_size id) where
      module _ (e : within ≡ true) where
        pub outside : n < z.offset + i * k + k → refused 23 ≡ place id z n i
        unfolding place
        outside g = simp (← is-count, lt-leb _ _ h, ← is_within, e, ← is-k, lt-leb _ _ g)

        pub inside : z.offset + i * k + k ≤ n → answer (z.offset + i * k) ≡ place id z n i
        unfolding place
        inside g = simp (← is-count, lt-leb _ _ h, ← is_within, e, ← is-k, le-leb _ _ g)

-- What a place that was found says, whichever way it was asked for.
pub record Found (id : BspFileSectionId) (z : BspFileSection) (n i p : ℕ) : Type 0 where
  pub counted : i < record_count id z
  pub limited : within_limit id (record_count id z) ≡ true
  pub is : p ≡ z.offset + i * element_size id
  pub fits : p + element_size id ≤ n

pub found : (id : BspFileSectionId) (z : BspFileSection) (n i p : ℕ) → place id z n i ≡ answer p → Found id z n i p
unfolding place
found id z n i p e = by (leb (record_count id z) i) (within_limit id (record_count id z)) (leb (z.offset + i * element_size id + element_size id) n) refl refl refl e
  where
    by : (a b c : Bool) → leb (record_count id z) i ≡ a → within_limit id (record_count id z) ≡ b → leb (z.offset + i * element_size id + element_size id) n ≡ c
        → cond a (refused 20) (cond b (cond c (answer (z.offset + i * element_size id)) (refused 23)) (refused 23)) ≡ answer p → Found id z n i p
    by true b c g h k e = let q : ◌≡◌ {A = ℕ} 0 1 = cc in absurd (omega arith)
    by false false c g h k e = let q : ◌≡◌ {A = ℕ} 0 1 = cc in absurd (omega arith)
    by false true false g h k e = let q : ◌≡◌ {A = ℕ} 0 1 = cc in absurd (omega arith)
    by false true true g h k e =
        let q : z.offset + i * element_size id ≡ p = cc in
        record {
          counted = leb-false (record_count id z) i g;
          limited = h;
          is = sym q;
          fits = omega (arith, leb-true (z.offset + i * element_size id + element_size id) n k);
        }

-- and back
pub found_at : (id : BspFileSectionId) (z : BspFileSection) (n i p : ℕ) → Found id z n i p → place id z n i ≡ answer p
found_at id z n i p f =
    let h : z.offset + i * element_size id + element_size id ≤ n = omega (arith, f.is, f.fits) in
    sym (inside id z n i refl refl f.counted refl f.limited h) ∙ ap answer (sym f.is)
