-- The bytes of a table that is whole: its nodes are as many, its planes and its leaves are those of the file.
-- Assumes nothing.
use Rattle.std.specs.Prelude.{Option, Some, None}
use Rattle.std.proofs.Common.{◌≡◌, ℕ, ◌+◌, ◌-◌, ◌*◌, ◌/◌, ◌<◌, ◌≤◌, Bool, true, false, cond, ltb, List, length, ℤ, negsuc, sym, refl, ap, ◌∙◌, arith, w32, to_z, ltb-false, ltb-true, lt-ltb}
use lib.Signed.{lt_z}
use Rattle.format.specs.Answer as Ans
use Rattle.format.specs.Answer.{Answer, answer, mapped, then_answer}
use Rattle.format.specs.Step.{ok, refused, and_then}
use Rattle.format.specs.Code.{contents_of, negated_contents}
use Rattle.format.specs.declared.contents.BspLeafContents.{BspLeafContents}
use Rattle.math.specs.Plane as Pl
use Rattle.math.specs.declared.plane.HyperplaneSide.{HyperplaneSide}
use Rattle.math.specs.declared.vector.Vector3.{Vector3}
use Rattle.math.specs.declared.plane.Hyperplane.{Hyperplane}
use Rattle.records.specs.Access.{reading}
use Rattle.records.specs.Node.{with_contents}
use Rattle.records.specs.Number.{offset_of, offset_at}
use Rattle.records.specs.Leaf.{contents_at, leaf_end_at, leaf_at}
use Rattle.walk.specs.Walk.{meet}
use Rattle.nodes.specs.Tables.{is_box, leaf_contents}
use Rattle.nodes.specs.Fast.{Within, u32, is_render, node_size, end_of, coded, place_in, plane_in, plane_of_index, leaf_contents_here, contents_met}
use Rattle.nodes.specs.Fast as Fast
use Rattle.nodes.specs.Walks.{all_bytes}
use Rattle.nodes.specs.Owned.{two_sides, plane_of, end_among, Owned}
use Rattle.nodes.specs.Quick.{said, word_contents}
use Rattle.nodes.specs.declared.table.HullTable.{HullTable}
use Rattle.nodes.specs.declared.table.HullTable.TheVariants.{Render, Clip, Box}
use Rattle.nodes.specs.declared.table.Tables.{Tables}
use Rattle.nodes.proofs.Leaves.{rest_is}
use Rattle.nodes.proofs.Making.{is_m, is_whole, planes_counted, nodes_counted, plane_of_lem, whole_planes, at_place}
use Rattle.nodes.proofs.Numbering.{outside_30, there}
use Rattle.nodes.proofs.Numbers.{i32_is}
use Rattle.nodes.proofs.Planes.{no_plane}
use Rattle.nodes.proofs.Sections.{within_u32, plane_within}
use Rattle.nodes.proofs.Wholes.{whole_is, all_whole, all_taken, bytes_length, bytes_within}

-- ---- by the tests of the code

pub with_sides : (p q : Vector3) (h : Hyperplane) (x y : Bool) → Pl.side_if x ≡ Pl.point_side h p → Pl.side_if y ≡ Pl.point_side h q → ◌≡◌ {A = HyperplaneSide × HyperplaneSide} (Pl.side_if x, Pl.side_if y) (two_sides p q h)
with_sides p q h x y e f = rw (e, f)

-- ---- a leaf's contents by two numbers of its record: the code and the visibility offset

abbrev by_offset : BspLeafContents → Bool → Answer BspLeafContents
by_offset c true = Ans.refused 23
by_offset c false = answer c

abbrev by_code : Option BspLeafContents → ℤ → Answer BspLeafContents
by_code (Some c) y = by_offset c (lt_z y (negsuc 0))
by_code None y = Ans.refused 23

module _ (s : List ℕ) (at : ℕ) (h : at + 28 ≤ length s) where
  box_place : at + 4 + 4 ≡ at + 8
  box_place = omega arith

  with_offset : (c : BspLeafContents) (y : ℤ) (b : Bool) → lt_z y (negsuc 0) ≡ b
      → mapped leaf_contents (reading (and_then (cond b (refused 10) (ok (offset_of y) (at + 4 + 4))) (λ o q. leaf_end_at c o s q))) ≡ by_offset c b
  with_offset c y true e = refl
  with_offset c y false e = rw box_place (rest_is c (offset_of y) s (at + 8) (omega arith))

  with_code : (k : Option BspLeafContents)
      → mapped leaf_contents (reading (and_then (with_contents k (λ c. ok c (at + 4))) (λ c p. and_then (offset_at s p) (λ o q. leaf_end_at c o s q)))) ≡ by_code k (to_z w32 (u32 s (at + 4)))
  unfolding offset_at
  with_code (Some c) = rw (i32_is s (at + 4) (omega arith)) (with_offset c (to_z w32 (u32 s (at + 4))) (lt_z (to_z w32 (u32 s (at + 4))) (negsuc 0)) refl)
  with_code None = refl

  by_numbers : leaf_contents_here s at ≡ by_code (negated_contents w32 (to_z w32 (u32 s at))) (to_z w32 (u32 s (at + 4)))
  unfolding leaf_contents_here leaf_at contents_at
  by_numbers = rw (i32_is s at (omega arith)) (with_code (negated_contents w32 (to_z w32 (u32 s at))))

-- it is the same in the bytes l, which are a part of s
leaf_within : (l s : List ℕ) (a : ℕ) → Within l s a → (at : ℕ) → at + 28 ≤ length l → leaf_contents_here l at ≡ leaf_contents_here s (a + at)
leaf_within l s a w at h =
    let e : u32 l (at + 4) ≡ u32 s (a + at + 4) = within_u32 l s a w (at + 4) (omega arith) ∙ ap (u32 s) (omega arith) in
    by_numbers l at h ∙ rw (within_u32 l s a w at (omega arith), e) (sym (by_numbers s (a + at) (omega (arith, w.inside, h))))

-- ---- of a table that is whole

module _ (s : List ℕ) (t : Tables) (render : Bool) (n m l : List ℕ) (own : Owned s t render n m l) where
  pub own_count : length n / node_size render ≡ t.nodes.count
  own_count = nodes_counted s t n m true own.read refl render own.its_table

  -- its planes
  plane_there : (i : ℕ) → i < t.planes.count → plane_in s t i ≡ answer (Fast.plane_here s (t.planes.at + i * 20))
  unfolding plane_in plane_of_index
  plane_there i k = simp (lt-ltb i t.planes.count k) (plane_of_lem s t (is_whole s t n m true own.read refl) t.table (all_whole t (length s) (is_whole s t n m true own.read refl)).0 i k)

  by_count : (i : ℕ) (b : Bool) → ltb i t.planes.count ≡ b → plane_of m i ≡ plane_in s t i
  by_count i true q =
      let k = ltb-true i t.planes.count q in
      let c = planes_counted s t n m true own.read refl in
      let wm : Within m s t.planes.at = rw (is_m s t n m true own.read refl) (bytes_within s t.planes 20 (whole_planes s t (is_whole s t n m true own.read refl)).1) in
      there m (length m / 20) i (omega (arith, c, k)) (omega (arith, c, k))
      ∙ ap answer (plane_within m s t.planes.at wm (i * 20) (omega (arith, c, k)))
      ∙ sym (plane_there i k)
  by_count i false q =
      let k = ltb-false i t.planes.count q in
      let c = planes_counted s t n m true own.read refl in
      outside_30 m (length m / 20) i (omega (arith, c, k)) ∙ sym (no_plane s t i k)

  pub own_plane : (i : ℕ) → plane_of m i ≡ plane_in s t i
  own_plane i = by_count i (ltb i t.planes.count) refl

  -- its leaves
  abbrev leaves_there : (t.leaves.count ≤ t.leaves.readable) × (t.leaves.at + t.leaves.count * 28 ≤ length s)
  leaves_there = whole_is t.leaves 28 (length s) own.leaves_whole

  is_l : l ≡ all_bytes s t.leaves 28
  is_l = own.its_leaves ∙ all_taken s t.leaves 28 true refl true (sym own.leaves_whole) refl

  leaves_counted : length l / 28 ≡ t.leaves.count
  leaves_counted = rw (is_l, bytes_length s t.leaves 28 leaves_there.1) (omega arith)

  leaf_there : (j : ℕ) → j < t.leaves.count → leaf_contents_here l (j * 28) ≡ then_answer (place_in t.leaves 28 (length s) j) (leaf_contents_here s)
  leaf_there j k =
      let wl : Within l s t.leaves.at = rw is_l (bytes_within s t.leaves 28 leaves_there.1) in
      leaf_within l s t.leaves.at wl (j * 28) (omega (arith, leaves_counted, k))
      ∙ sym (ap (λ (x : Answer ℕ). then_answer x (leaf_contents_here s)) (at_place s t (is_whole s t n m true own.read refl) t.leaves 28 j leaves_there.0 leaves_there.1 k))

  at_leaf : (w : ℕ) (b : Bool) → ltb (65535 - w) t.leaves.count ≡ b
      → cond b (leaf_contents_here l ((65535 - w) * 28)) (Ans.refused 30)
      ≡ cond b (then_answer (place_in t.leaves 28 (length s) (65535 - w)) (leaf_contents_here s)) (Ans.refused 30)
  at_leaf w true q = leaf_there (65535 - w) (ltb-true (65535 - w) t.leaves.count q)
  at_leaf w false q = refl

  by_coded : (k : Option BspLeafContents) → said k ≡ meet (Fast.table s t) (coded k)
  unfolding meet
  by_coded (Some c) = refl
  by_coded None = refl

  by_table : (w : ℕ) (tab : HullTable) → is_box tab ≡ false
      → cond (is_render tab) (cond (ltb (65535 - w) (length l / 28)) (leaf_contents_here l ((65535 - w) * 28)) (Ans.refused 30)) (word_contents w)
      ≡ meet (Fast.table s t) (end_of tab w)
  unfolding meet
  by_table w Render e = rw leaves_counted (at_leaf w (ltb (65535 - w) t.leaves.count) refl)
  by_table w Clip e = by_coded (contents_of (65536 - w))
  by_table w Box e = let z : ◌≡◌ {A = ℕ} 0 1 = cc in absurd (omega arith)

  pub own_end : (w : ℕ) → end_among render l w ≡ contents_met s t w
  unfolding end_among contents_met
  own_end w = rw own.its_table (by_table w t.table (all_whole t (length s) (is_whole s t n m true own.read refl)).0)
