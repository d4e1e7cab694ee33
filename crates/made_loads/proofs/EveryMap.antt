-- Every made-up map loads, is accepted, and reads back.
-- Assumes nothing.
use Prim.Native.Nat.{ℕ, zero, suc, ◌+◌, ◌^◌, ◌<◌, ◌≤◌}
use mathlib.Core.Path.{◌≡◌, refl, ap, ◌∙◌}
use mathlib.Core.Bool.{Bool, true, false, cond}
use mathlib.Core.List.{List, [], ◌++◌}
use native.Mathlib.Omega.{arith}
use lib.Dec.{eqb, leb, ltb}
use lib.ListN.{length, take, drop, replicate, length-replicate}
use lib.Seq.{take_at}
use Rattle.format.specs.Answer.{Answer, answer, refused, mapped}
use Rattle.format.specs.Listed.{Listed, listed, into}
use Rattle.format.specs.Section.{record_count}
use Rattle.format.specs.declared.contents.BspLeafContents.TheVariants.{Empty, Solid}
use Rattle.format.specs.declared.section.BspFileSectionId.TheVariants.{Faces, Leaves, FaceList, Models}
use Rattle.models.specs.Model.{with_rest}
use Rattle.walk.specs.Table as Table
use Rattle.walk.specs.Table.{Child, Nodes, end}
use Rattle.nodes.specs.Tables as Tables
use Rattle.nodes.specs.Tables.{End, contents, leaf, nodes_of}
use Rattle.nodes.specs.declared.table.HullTable.{HullTable}
use Rattle.nodes.specs.declared.table.HullTable.TheVariants.{Render, Clip}
use Rattle.tree.proofs.Size.{passed_count}
use Rattle.vis.specs.Pvs.{pvs_of}
use Rattle.accept.specs.Accept.{marks_for, accept}
use Rattle.accept.specs.Accepted.{LeafIn, ModelIn, Accepted}
use Rattle.accept.proofs.Exactly.{exactly}
use Rattle.written.proofs.Chain.{behind, Chained, chain}
use Rattle.made.specs.Map.{node_number, Side, node, solid, empty, front_of, back_of}
use Rattle.made.specs.File.{made_map, file_of, is_node_count, made_up}
use Rattle.made.proofs.Sizes.{file_size}
use Rattle.made.proofs.Whole.{count_within}
use Rattle.made_loads.specs.Said.{render_side, clip_side, model_said}
use Rattle.made_loads.specs.EveryMap.{ReadsBack, TreeSaid, accepted, Sound, EveryMap, EveryBuffer}
use Rattle.made_loads.proofs.Loads as Loads
use Rattle.made_loads.proofs.ReadsBack as Back

-- a node's child in a table whose ends for Solid and Empty are given
abbrev child_of : End → End → Side → Child End
child_of a e (node k) = Table.node k
child_of a e solid = end a
child_of a e empty = end e

abbrev front_end : End → End → ℕ → End
front_end a e number = cond (leb (2 ^ 31) number) a e

front_is : (a e : End) (number : ℕ) → child_of a e (front_of number) ≡ end (front_end a e number)
front_is a e number = by (leb (2 ^ 31) number)
  where
    by : (t : Bool) → child_of a e (cond t solid empty) ≡ end (cond t a e)
    by true = refl
    by false = refl

back_is : (a e : End) (n i : ℕ) → child_of a e (back_of n i) ≡ behind e n i
back_is a e n i = by (eqb (i + 1) n)
  where
    by : (t : Bool) → child_of a e (cond t empty (node (i + 1))) ≡ cond t (end e) (Table.node (i + 1))
    by true = refl
    by false = refl

render_child_lem : (x : Side) → Tables.render_child (render_side x) ≡ child_of (leaf 0) (leaf 1) x
render_child_lem (node k) = refl
render_child_lem solid = refl
render_child_lem empty = refl

clip_child_lem : (x : Side) → Tables.clip_child (clip_side x) ≡ child_of (contents Solid) (contents Empty) x
clip_child_lem (node k) = refl
clip_child_lem solid = refl
clip_child_lem empty = refl

-- a table that holds the chain, whatever its ends: both tables do
module _ (N : Nodes End) (a e : End) (seed n : ℕ) (low : 1 ≤ n) (high : n ≤ 500) (count : N.count ≡ n) (planes : N.planes ≡ n)
    (ha : N.leaf_in a ≡ true) (he : N.leaf_in e ≡ true)
    (reads : (i : ℕ) → i < n → N.node_at i ≡ answer (record { plane = i; front = child_of a e (front_of (node_number seed i)); back = child_of a e (back_of n i) })) where
  abbrev fronts : ℕ → End
  fronts i = front_end a e (node_number seed i)

  within : (t : Bool) → N.leaf_in (cond t a e) ≡ true
  within true = ha
  within false = he

  as_chain : (i : ℕ) → i < n → N.node_at i ≡ answer (record { plane = i; front = end (fronts i); back = behind e n i })
  as_chain i h = reads i h ∙ rw (front_is a e (node_number seed i), back_is a e n i) refl

  chained : Chained N n
  chained = chain (λ i. i) fronts e N n count as_chain (λ i h. omega arith) (λ i h. within (leb (2 ^ 31) (node_number seed i))) he low (omega arith)

-- as the statement has it
tree_said : (s : List ℕ) (n : ℕ) (table : HullTable) → Chained (nodes_of s (made_map n) table) n → TreeSaid n s (made_map n) table
tree_said s n table c =
    let marks : List ℕ = replicate n 0 in
    let room : n ≤ length marks = omega (arith, length-replicate {A = ℕ} n 0) in
    record { nodes = rw c.size at (passed_count (nodes_of s (made_map n) table) 0 marks n (c.passes marks room)); height = c.height }

module _ (seed n : ℕ) (low : 1 ≤ n) (high : n ≤ 500) where
  abbrev s : List ℕ
  s = file_of seed n

  two_leaves_lem : record_count Leaves (made_map n).leaves ≡ 2
  unfolding record_count made_map
  two_leaves_lem = refl

  render_chained : Chained (nodes_of s (made_map n) Render) n
  render_chained =
      chained (nodes_of s (made_map n) Render) (leaf 0) (leaf 1) seed n low high (Back.render_count n) (Back.plane_count n) (rw two_leaves_lem refl) (rw two_leaves_lem refl)
      (λ i h. ap (mapped Tables.render_node) (Back.render_nodes seed n high i h) ∙ rw (render_child_lem (front_of (node_number seed i)), render_child_lem (back_of n i)) refl)

  clip_chained : Chained (nodes_of s (made_map n) Clip) n
  clip_chained =
      chained (nodes_of s (made_map n) Clip) (contents Solid) (contents Empty) seed n low high (Back.clip_count n) (Back.plane_count n) refl refl
      (λ i h. ap (mapped Tables.clip_node) (Back.clip_nodes seed n high i h) ∙ rw (clip_child_lem (front_of (node_number seed i)), clip_child_lem (back_of n i)) refl)

  reads_back : ReadsBack seed n s (made_map n)
  reads_back = record {
    plane_count = Back.plane_count n;
    render_node_count = Back.render_count n;
    clip_node_count = Back.clip_count n;
    planes = Back.planes seed n high;
    render_nodes = Back.render_nodes seed n high;
    clip_nodes = Back.clip_nodes seed n high;
    solid_leaf = Back.leaves seed n high 0 (omega arith);
    empty_leaf = Back.leaves seed n high 1 (omega arith);
    model = Back.model seed n high;
  }

  -- ---- acceptance

  no_faces : record_count Faces (made_map n).faces ≡ 0
  unfolding record_count made_map
  no_faces = refl

  one_model : record_count Models (made_map n).models ≡ 1
  unfolding record_count made_map
  one_model = refl

  leaf_in_lem : (i : ℕ) → i < record_count Leaves (made_map n).leaves → LeafIn s (made_map n) i
  leaf_in_lem i h = record { leaf = Loads.leaf_at_number i; leaf_read = Back.leaves seed n high i (omega (arith, two_leaves_lem)); faces_in = none i }
    where
      none : (i : ℕ) → (Loads.leaf_at_number i).facelist_id + (Loads.leaf_at_number i).facelist_count ≤ record_count FaceList (made_map n).facelist
      none zero = omega arith
      none (suc i) = omega arith

  model_in : (i : ℕ) → i < record_count Models (made_map n).models → ModelIn s (made_map n) i
  model_in i h =
      let z : i ≡ 0 = omega (arith, one_model) in
      rw z (record {
        own = model_said;
        own_read = Back.file_model seed n high;
        faces_in = omega arith;
        model = with_rest n 0 model_said;
        model_read = Back.model seed n high;
        leaves_in = omega (arith, two_leaves_lem);
        tree_0 = render_chained.tree;
        tree_1 = clip_chained.tree;
        tree_2 = clip_chained.tree;
      })

  -- leaf 1 has no row
  row : (i : ℕ) → 0 < i → i < record_count Leaves (made_map n).leaves → (xs : List ℕ) × (pvs_of s (made_map n) i (record_count Leaves (made_map n).leaves) ≡ answer xs)
  unfolding pvs_of
  row i h k =
      let z : i ≡ 1 = omega (arith, two_leaves_lem) in
      ([], rw (z, Back.leaves seed n high 1 (omega arith)) refl)

  all_in : Accepted s (made_map n)
  all_in = record {
    faces = λ i h. absurd (omega (arith, no_faces));
    leaves = leaf_in_lem;
    models = model_in;
    rows = row;
    node_0 = render_chained.tree;
  }

  marks_for_lem : marks_for (made_map n) ≡ n
  unfolding marks_for
  marks_for_lem = let a = Back.render_count n in let b = Back.clip_count n in omega arith

  is_accepted : (marks : List ℕ) → accept s (made_map n) marks ≡ accepted n marks
  unfolding accept
  is_accepted marks = rw (marks_for_lem, (exactly s (made_map n)).1 all_in) refl

pub every_map : EveryMap
every_map seed n low high = record {
  size = file_size seed n;
  loads = Loads.loads seed n high;
  passes_note_4 = is_accepted seed n low high;
  reads_back = reads_back seed n low high;
  render_tree = tree_said (file_of seed n) n Render (render_chained seed n low high);
  clip_tree = tree_said (file_of seed n) n Clip (clip_chained seed n low high);
}

-- ---- the call

pub every_buffer : EveryBuffer
unfolding made_up
every_buffer seed n k lent left e = by (is_node_count n) (ltb (length lent) (length (file_of seed n))) refl refl e
  where
    not_refused : {X : Type 0} (j : ℕ) → ◌≡◌ {A = Answer ℕ} (answer k) (refused j) → X
    not_refused j e = let z : ◌≡◌ {A = ℕ} 0 1 = cc in absurd (omega arith)

    by : (t u : Bool) → is_node_count n ≡ t → ltb (length lent) (length (file_of seed n)) ≡ u
        → listed (answer k) left ≡ into (cond t (answer (file_of seed n)) (refused 29)) lent → (take k left ≡ file_of seed n) × Sound seed n
    by false u h g e = not_refused 29 (ap (λ (l : Listed). l.answered) e)
    by true true h g e =
        let q : listed (answer k) left ≡ listed (refused 22) lent = e ∙ rw g refl in
        not_refused 22 (ap (λ (l : Listed). l.answered) q)
    by true false h g e =
        let b = count_within n h in
        let file = file_of seed n in
        let q : listed (answer k) left ≡ listed (answer (length file)) (file ++ drop (length file) lent) = e ∙ rw g refl in
        let w : ◌≡◌ {A = Answer ℕ} (answer k) (answer (length file)) = ap (λ (l : Listed). l.answered) q in
        let x : k ≡ length file = cc in
        let y : left ≡ file ++ drop (length file) lent = ap (λ (l : Listed). l.list) q in
        (rw (x, y) (take_at file (drop (length file) lent) (length file) refl), every_map seed n b.0 b.1)
