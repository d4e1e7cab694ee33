-- Planes by their number: each way through the readers, and that they are the file's planes.
-- Assumes nothing.
use Rattle.std.proofs.Common.{◌≡◌, ℕ, zero, suc, ◌+◌, ◌-◌, ◌*◌, ◌/◌, ◌<◌, ◌≤◌, min, Bool, true, false, cond, leb, List, [], ◌∷◌, length, get_or, drop, sym, refl, ap, ◌∙◌, arith, length-drop, length-take, get_or-drop, get_or-take, le-ltb, lt-ltb, le-leb, leb-false, leb-true}
use mathlib.Core.Path.{fun_ext}
use borrow.Author.Tests.{lt-leb}
use lib.Ieee.{Float}
use Rattle.format.specs.Answer.{Answer, answer, refused, then_answer}
use Rattle.format.specs.declared.section.BspData.{BspData}
use Rattle.format.specs.declared.section.BspFileSection.{BspFileSection}
use Rattle.math.specs.Plane as Pl
use Rattle.math.specs.declared.vector.Vector3.{Vector3}
use Rattle.math.specs.declared.plane.Hyperplane.{Hyperplane}
use Rattle.nodes.specs.Fast.{Within, along, side_from, part_of, place_in, plane_here, plane_read, plane_of_index, tables_of}
use Rattle.nodes.specs.Numbered.{allowed, readable, plane_among, plane_numbered, side_of, picked_by}
use Rattle.nodes.specs.declared.table.Part.{Part}
use Rattle.nodes.specs.declared.table.HullTable.TheVariants.{Clip}
use Rattle.nodes.proofs.Places.{none, unreadable, inside, outside}
use Rattle.nodes.proofs.Planes.{plane_is}
use Rattle.nodes.proofs.Sections.{plane_within}

-- ---- by the tests of the code

module _ (bs : List ℕ) (count i : ℕ) where
  pub outside_30 : count ≤ i → plane_numbered bs count i ≡ refused 30
  unfolding plane_numbered
  outside_30 h = simp (le-ltb i count h)

  module _ (h : i < count) where
    pub unread_23 : length bs < i * 20 + 20 → plane_numbered bs count i ≡ refused 23
    unfolding plane_numbered plane_among
    unread_23 g = simp (lt-ltb i count h, lt-leb count i h, lt-leb (i * 20 + 20) (length bs) g)

    pub there : i * 20 + 20 ≤ length bs → plane_numbered bs count i ≡ answer (plane_here bs (i * 20))
    unfolding plane_numbered plane_among
    there g = simp (lt-ltb i count h, lt-leb count i h, le-leb (i * 20 + 20) (length bs) g)

  -- one of two numbers by the side of a point; so many planes are known to be there
  module _ (p : Vector3) (f b : ℕ) where
    abbrev all : Answer ℕ
    all = picked_by f b (side_from p (plane_numbered bs count i))

    pub picked_30 : count ≤ i → refused 30 ≡ all
    picked_30 h = sym (ap (λ (a : Answer Hyperplane). picked_by f b (side_from p a)) (outside_30 h))

    module _ (known : ℕ) (is_known : known ≡ min count (length bs / 20)) where
      pub picked_23 : known ≤ i → i < count → refused 23 ≡ all
      picked_23 h g = sym (ap (λ (a : Answer Hyperplane). picked_by f b (side_from p a)) (unread_23 g (omega (arith, is_known, h, g))))

      pub picked : i < known → (h : Hyperplane) → h ≡ plane_here bs (i * 20) → (x : Bool) → Pl.side_if x ≡ Pl.point_side h p → (w : ℕ) → w ≡ cond x f b → answer w ≡ all
      picked l h is-h x e w is-w =
          ap answer (is-w ∙ go x ∙ ap (side_of f b) (e ∙ ap (λ y. Pl.point_side y p) is-h))
          ∙ sym (ap (λ (a : Answer Hyperplane). picked_by f b (side_from p a)) (there (omega (arith, is_known, l)) (omega (arith, is_known, l))))
        where
          go : (x : Bool) → cond x f b ≡ side_of f b (Pl.side_if x)
          go true = refl
          go false = refl

-- a point's coordinates by axis
pub coordinate : (p : Vector3) (k : ℕ) (d : Float) → k < 3 → get_or (p.x ∷ p.y ∷ p.z ∷ []) k d ≡ along p k
coordinate p zero d h = refl
coordinate p (suc zero) d h = refl
coordinate p (suc (suc zero)) d h = refl
coordinate p (suc (suc (suc k))) d h = absurd (omega arith)

-- ---- the bytes that can be read

module _ (s : List ℕ) (z : BspFileSection) where
  -- how many there are
  pub readable_length : length (readable s z) ≡ min (allowed (z.size / 20) * 20) (length s - z.offset)
  unfolding readable
  readable_length = length-take (allowed (z.size / 20) * 20) (drop z.offset s) ∙ ap (min (allowed (z.size / 20) * 20)) (length-drop z.offset s)

-- ---- they are the planes of the file

module _ (s : List ℕ) (z : BspFileSection) (i : ℕ) where
  abbrev p : Part
  p = part_of z 20 8192

  abbrev c : ℕ
  c = z.size / 20

  abbrev m : ℕ
  m = allowed c

  abbrev bs : List ℕ
  bs = readable s z

  same_bytes : z.offset ≤ length s → Within bs s z.offset
  unfolding readable
  same_bytes h =
      record {
        inside = omega (arith, h, readable_length s z);
        same = λ j g. get_or-take (m * 20) (drop z.offset s) j 0 (omega (arith, g, readable_length s z)) ∙ get_or-drop z.offset s j 0;
      }

  past : c ≤ i → plane_among bs c i ≡ refused 20
  unfolding plane_among
  past h = simp (le-leb c i h)

  module _ (h : i < c) where
    unread : length bs < i * 20 + 20 → plane_among bs c i ≡ refused 23
    unfolding plane_among
    unread g = simp (lt-leb c i h, lt-leb (i * 20 + 20) (length bs) g)

    read : i * 20 + 20 ≤ length bs → plane_among bs c i ≡ answer (plane_here bs (i * 20))
    unfolding plane_among
    read g = simp (lt-leb c i h, le-leb (i * 20 + 20) (length bs) g)

  by_tests : (a b d : Bool) → leb c i ≡ a → leb m i ≡ b → leb (i * 20 + 20) (length bs) ≡ d
      → plane_among bs c i ≡ then_answer (place_in p 20 (length s) i) (plane_read s)
  by_tests true b d q r t =
      let h = leb-true c i q in
      past h ∙ ap (λ (x : Answer ℕ). then_answer x (plane_read s)) (none p 20 (length s) i h)
  by_tests false true d q r t =
      let h = leb-false c i q in
      let g = leb-true m i r in
      unread h (omega (arith, g, readable_length s z)) ∙ ap (λ (x : Answer ℕ). then_answer x (plane_read s)) (unreadable p 20 (length s) i h g)
  by_tests false false true q r t =
      let h = leb-false c i q in
      let g = leb-false m i r in
      let l = leb-true (i * 20 + 20) (length bs) t in
      let o : z.offset ≤ length s = omega (arith, l, readable_length s z) in
      let n : z.offset + i * 20 + 20 ≤ length s = omega (arith, l, readable_length s z) in
      read h l ∙ ap answer (plane_within bs s z.offset (same_bytes o) (i * 20) l)
      ∙ sym (plane_is s (z.offset + i * 20) n) ∙ ap (λ (x : Answer ℕ). then_answer x (plane_read s)) (inside p 20 (length s) i h g n)
  by_tests false false false q r t =
      let h = leb-false c i q in
      let g = leb-false m i r in
      let l = leb-false (i * 20 + 20) (length bs) t in
      unread h l ∙ ap (λ (x : Answer ℕ). then_answer x (plane_read s)) (outside p 20 (length s) i h g (omega (arith, l, g, readable_length s z)))

  plane_there : plane_among bs c i ≡ then_answer (place_in p 20 (length s) i) (plane_read s)
  plane_there = by_tests (leb c i) (leb m i) (leb (i * 20 + 20) (length bs)) refl refl refl

pub numbered_is : (s : List ℕ) (m : BspData) (mins maxs : Vector3) → plane_among (readable s m.planes) (m.planes.size / 20) ≡ plane_of_index s (tables_of m Clip mins maxs)
unfolding plane_of_index
numbered_is s m mins maxs = fun_ext (plane_there s m.planes)
