-- A render node as its words: what the reader at a position makes of them.
-- Assumes nothing.
use Rattle.std.proofs.Common.{◌≡◌, ℕ, zero, suc, ◌+◌, ◌-◌, ◌/◌, ◌%◌, ◌<◌, ◌≤◌, Bool, true, false, ltb, List, length, pos, negsuc, ◌-ℤ◌, sym, refl, ap, ◌∙◌, arith, w16, to_z, ltb-false, ltb-true, le-ltb}
use Rattle.format.specs.Answer as Ans
use Rattle.format.specs.Answer.{answer}
use Rattle.format.specs.Step.{ok, refused}
use Rattle.records.specs.Triple.{point_at}
use Rattle.records.specs.Node as Rec
use Rattle.records.specs.Node.{render_child_at, render_node_end_at, render_node_at}
use Rattle.records.specs.declared.triple.Point.{Point}
use Rattle.records.specs.declared.node.BspRenderNodeChild.{BspRenderNodeChild}
use Rattle.records.specs.declared.node.BspRenderNodeChild.TheVariants as R
use Rattle.records.specs.declared.node.BspRenderNode.{BspRenderNode}
use Rattle.walk.specs.Table.{end}
use Rattle.nodes.specs.Tables.{leaf, render_child, render_node}
use Rattle.nodes.specs.Fast.{u16, u32, Pair, Within, child_of, node_of, render_node_here}
use Rattle.nodes.specs.declared.table.HullTable.TheVariants.{Render}
use Rattle.nodes.proofs.Numbers.{low, high, i16_is, u16_is, index_is, index_not, index16_is, index16_not}
use Rattle.nodes.proofs.Sections.{within_u16, within_u32}

-- -1 - f of the negative f
mirrored : (k : ℕ) → negsuc 0 -ℤ negsuc k ≡ pos k
mirrored zero = refl
mirrored (suc k) = simp (le-ltb (suc (suc k)) 1 (omega arith)) (ap pos (omega arith))

-- a child's word w
module _ (s : List ℕ) (at w : ℕ) (e : w ≡ u16 s at) (h : at + 2 ≤ length s) where
  abbrev pub Child : Type 0
  Child = (ch : BspRenderNodeChild) × (render_child_at s at ≡ ok ch (at + 2)) × (render_child ch ≡ child_of Render w)

  by_half : (b : Bool) → ltb w 32768 ≡ b → Child
  unfolding render_child_at Rec.render_child
  by_half true q =
      (R.Node w, rw (i16_is s at h, ← e) (rw (low w16 w (ltb-true w 32768 q)) (simp (le-ltb w 0 (omega arith)))), simp q)
  by_half false q =
      (R.Leaf (65536 - suc w), rw (i16_is s at h, ← e) (rw (high w16 w (ltb-false w 32768 q)) (rw (mirrored (65536 - suc w)))), simp q (ap (λ (n : ℕ). end (leaf n)) same))
    where
      same : 65536 - suc w ≡ 65535 - w
      same = omega arith

  pub child : Child
  child = by_half (ltb w 32768) refl

-- six bytes are a point
module _ (s : List ℕ) (at : ℕ) (h : at + 6 ≤ length s) where
  there : at + 2 + 2 + 2 ≡ at + 6
  there = omega arith

  pub point : (v : Point) × (point_at s at ≡ ok v (at + 6))
  unfolding point_at
  point =
      (record { x = to_z w16 (u16 s at); y = to_z w16 (u16 s (at + 2)); z = to_z w16 (u16 s (at + 2 + 2)) }, rw (i16_is s at (omega arith), i16_is s (at + 2) (omega arith), i16_is s (at + 2 + 2) (omega arith), there))

-- the box and the faces
module _ (s : List ℕ) (at p : ℕ) (f b : BspRenderNodeChild) (h : at + 16 ≤ length s) where
  face_place : at + 6 + 6 ≡ at + 12
  face_place = omega arith

  pub bad_end : 32768 ≤ u16 s (at + 12) → render_node_end_at p f b s at ≡ refused 10
  unfolding render_node_end_at
  bad_end l =
      rw ((point s at (omega arith)).1, (point s (at + 6) (omega arith)).1, face_place, index16_not s (at + 12) (omega arith) l)

  pub good_end : u16 s (at + 12) < 32768 → (n : BspRenderNode) × (render_node_end_at p f b s at ≡ ok n (at + 12 + 2 + 2)) × (render_node n ≡ record { plane = p; front = render_child f; back = render_child b })
  unfolding render_node_end_at
  good_end l = (
    record {
      plane_id = p;
      front = f;
      back = b;
      min = (point s at (omega arith)).0;
      max = (point s (at + 6) (omega arith)).0;
      face_id = u16 s (at + 12);
      face_count = u16 s (at + 12 + 2);
    },
    rw ((point s at (omega arith)).1, (point s (at + 6) (omega arith)).1, face_place, index16_is s (at + 12) (omega arith) l, u16_is s (at + 12 + 2) (omega arith)),
    refl,
  )

-- the node at a place of the bytes n, which are a part of s
module _ (n s : List ℕ) (a at p : ℕ) (w : Within n s a) (h : at + 24 ≤ length n) (is-p : p ≡ u32 n at) where
  room : a + at + 24 ≤ length s
  room = omega (arith, w.inside)

  plane : p ≡ u32 s (a + at)
  plane = is-p ∙ within_u32 n s a w at (omega arith)

  -- the word j places on
  word : (j : ℕ) → at + j + 2 ≤ length n → u16 n (at + j) ≡ u16 s (a + at + j)
  word j g = within_u16 n s a w (at + j) g ∙ ap (u16 s) (omega arith)

  pub bad_plane : 2147483648 ≤ p → Ans.refused 23 ≡ render_node_here s (a + at)
  unfolding render_node_here render_node_at
  bad_plane l = rw (index_not s (a + at) 10 (omega (arith, room)) (rw plane at l))

  -- refused for its plane's number, or for what is read besides
  pub unless_plane : (p < 2147483648 → Ans.refused 23 ≡ render_node_here s (a + at)) → Ans.refused 23 ≡ render_node_here s (a + at)
  unless_plane k = by_sign (ltb p 2147483648) refl
    where
      by_sign : (c : Bool) → ltb p 2147483648 ≡ c → Ans.refused 23 ≡ render_node_here s (a + at)
      by_sign true q = k (ltb-true p 2147483648 q)
      by_sign false q = bad_plane (ltb-false p 2147483648 q)

  module _ (l : p < 2147483648) (v : ℕ) (is-v : v ≡ u16 n (at + 20)) where
    back_place : a + at + 4 + 2 ≡ a + at + 6
    back_place = omega arith

    end_place : a + at + 6 + 2 ≡ a + at + 8
    end_place = omega arith

    face_at_lem : a + at + 8 + 12 ≡ a + at + 20
    face_at_lem = omega arith

    face : v ≡ u16 s (a + at + 8 + 12)
    face = is-v ∙ word 20 (omega arith) ∙ ap (u16 s) (sym face_at_lem)

    pub bad_face : 32768 ≤ v → Ans.refused 23 ≡ render_node_here s (a + at)
    unfolding render_node_here render_node_at
    bad_face t =
        let g = child s (a + at + 4) (u16 s (a + at + 4)) refl (omega (arith, room)) in
        let k = child s (a + at + 6) (u16 s (a + at + 6)) refl (omega (arith, room)) in
        rw (index_is s (a + at) 10 (omega (arith, room)) (rw plane at l), g.1, back_place, k.1, end_place, bad_end s (a + at + 8) (u32 s (a + at)) g.0 k.0 (omega (arith, room)) (rw face at t))

    pub all_good : v < 32768 → (c : ℕ) → Pair n (at + 4) c → answer (node_of Render (record { plane = p; both = c })) ≡ render_node_here s (a + at)
    unfolding render_node_here render_node_at
    all_good t c is_c =
        let x : c % 65536 ≡ u16 s (a + at + 4) = is_c.0 ∙ word 4 (omega arith) in
        let y : c / 65536 ≡ u16 s (a + at + 6) = is_c.1 ∙ ap (u16 n) (omega arith) ∙ word 6 (omega arith) in
        let g = child s (a + at + 4) (c % 65536) x (omega (arith, room)) in
        let k = child s (a + at + 6) (c / 65536) y (omega (arith, room)) in
        let e = good_end s (a + at + 8) (u32 s (a + at)) g.0 k.0 (omega (arith, room)) (rw face at t) in
        rw (index_is s (a + at) 10 (omega (arith, room)) (rw plane at l), g.1, back_place, k.1, end_place, e.1) (rw (e.2, g.2, k.2, plane))
