-- What the readers of `nodes` say of a node, of a child and of a plane, as the laws of Descents.antt and Crossings.antt ask for it.
-- Assumes nothing.
use Rattle.std.proofs.Common.{Ok, Err}
use Rattle.std.specs.Prelude.{Result}
use Prim.Native.Nat.{ℕ, ◌/◌, ◌<◌, ◌≤◌}
use mathlib.Core.Path.{◌≡◌, refl, sym, ap, ◌∙◌}
use mathlib.Core.Bool.{Bool, true, false, cond}
use mathlib.Core.List.{List}
use native.Mathlib.Omega.{arith}
use lib.Ieee.{Float}
use lib.ListN.{length}
use Rattle.format.proofs.Answers.{mapped_answer, mapped_refused}
use Rattle.format.specs.Answer as Ans
use Rattle.format.specs.Answer.{Answer, answer, mapped}
use Rattle.format.specs.Refusal.{number_of}
use Rattle.format.specs.declared.refusal.Refusal.{Refusal}
use Rattle.format.specs.declared.contents.BspLeafContents.{BspLeafContents}
use Rattle.math.specs.Plane as Pl
use Rattle.math.specs.declared.vector.Vector3.{Vector3}
use Rattle.math.specs.declared.plane.Hyperplane.{Hyperplane}
use Rattle.math.specs.declared.plane.HyperplaneSide.{HyperplaneSide}
use Rattle.walk.specs.Table.{child_on}
use Rattle.walk.specs.Walk.{enter}
use Rattle.nodes.specs.Fast.{is_render, node_of, plane_in, contents_met}
use Rattle.nodes.specs.Fast as Fast
use Rattle.nodes.specs.Walks.{made_from, node_and_dists, segment_answer, is_whole, are_whole, node_bytes, plane_bytes}
use Rattle.nodes.specs.Owned as Owned
use Rattle.nodes.specs.Owned.{two_sides, sides_answer, all_whole, leaf_bytes, Owned}
use Rattle.nodes.specs.declared.table.Tables.{Tables}
use Rattle.nodes.specs.declared.read.Words.{Words as WordsT}
use Rattle.nodes.proofs.Entering.{child_node, child_end}
use Rattle.nodes.proofs.Owning.{own_plane}
use Rattle.hull.specs.Traces.{Met, met_node, met_answer, met_end, met_child, met_on}
use Rattle.hull.specs.declared.tracing.MetChild.{MetChild}
use Rattle.hull.proofs.Descents.{seen_of, plane_of}

-- how many nodes there are in the bytes
module _ (render : Bool) (k : ℕ) where
  pub render_count : render ≡ true → k / 24 ≡ k / Fast.node_size render
  render_count e = rw e

  pub clip_count : render ≡ false → k / 8 ≡ k / Fast.node_size render
  clip_count e = rw e

-- the plane of a number
pub plane_same : (f : List ℕ) (t : Tables) (i : ℕ) → plane_in f t i ≡ plane_of (Fast.table f t) i
unfolding plane_in
plane_same f t i = refl

-- a node and the distances
module _ (f : List ℕ) (t : Tables) (i : ℕ) (s e : Vector3) (r : Result (WordsT × Float × Float) Refusal) (is-r : segment_answer t.table r ≡ made_from (node_and_dists s e) f t i) where
  pub not_seen : (x : Refusal) → r ≡ Err x → Ans.refused (number_of x) ≡ mapped (seen_of s e) (enter (Fast.table f t) i)
  not_seen x q = sym (ap (segment_answer t.table) q) ∙ is-r

  pub seen : (w : WordsT) (a b : Float) → r ≡ Ok (w, a, b) → answer (node_of t.table w, (a, b)) ≡ mapped (seen_of s e) (enter (Fast.table f t) i)
  seen w a b q = sym (ap (segment_answer t.table) q) ∙ is-r

-- the child on a side
module _ (f : List ℕ) (t : Tables) (w : WordsT) (b : Bool) where
  abbrev child : Met
  child = met_child (Fast.table f t) (child_on (node_of t.table w) (Pl.side_if b))

  pub meets : (m y : Result MetChild Refusal) → met_answer m ≡ met_on f t w b → m ≡ y → child ≡ met_answer y
  unfolding met_on
  meets m y is_m q = sym is_m ∙ ap met_answer q

  module _ (word : ℕ) (is_word : word ≡ Fast.word_on w b) where
    pub meets_node : word < 32768 → child ≡ met_node word
    meets_node h = ap (met_child (Fast.table f t)) (child_node t.table w b word is_word h)

    pub meets_end : 32768 ≤ word → (x : Answer BspLeafContents) → x ≡ contents_met f t word → child ≡ met_end x
    unfolding contents_met
    meets_end h x is_x = ap (met_child (Fast.table f t)) (child_end t.table w b word is_word h) ∙ ap met_end (sym is_x)

-- the sides of two points, by the bytes of a table that is whole
module _ (f : List ℕ) (t : Tables) (render : Bool) (n m l : List ℕ) (own : Owned f t render n m l) (i : ℕ) (p q : Vector3) (r : Result (Bool × Bool) Refusal) (is-r : sides_answer r ≡ mapped (two_sides p q) (Owned.plane_of m i)) where
  there : sides_answer r ≡ mapped (two_sides p q) (plane_in f t i)
  there = is-r ∙ ap (mapped (two_sides p q)) (own_plane f t render n m l own i)

  pub no_sides : (x : Refusal) → r ≡ Err x → plane_in f t i ≡ Ans.refused (number_of x)
  no_sides x u = mapped_refused (two_sides p q) (plane_in f t i) (number_of x) (sym there ∙ ap sides_answer u)

  pub two_sides_lem : (a b : Bool) → r ≡ Ok (a, b) → (h : Hyperplane) × (plane_in f t i ≡ answer h) × (Pl.side_if a ≡ Pl.point_side h p) × (Pl.side_if b ≡ Pl.point_side h q)
  two_sides_lem a b u =
      let g = mapped_answer (two_sides p q) (plane_in f t i) (Pl.side_if a, Pl.side_if b) (sym there ∙ ap sides_answer u) in
      (g.0, g.1, sym (ap (λ (z : HyperplaneSide × HyperplaneSide). z.0) g.2), sym (ap (λ (z : HyperplaneSide × HyperplaneSide). z.1) g.2))

-- the bytes that are taken of a file that has all nodes, planes and leaves
module _ (f : List ℕ) (t : Tables) (n m l : List ℕ) (k : Bool) where
  both : (a b : Bool) → cond a b false ≡ true → (a ≡ true) × (b ≡ true)
  both true true e = (refl, refl)
  both true false e = let z : ◌≡◌ {A = ℕ} 0 1 = cc in absurd (omega arith)
  both false b e = let z : ◌≡◌ {A = ℕ} 0 1 = cc in absurd (omega arith)

  pub owned : all_whole t (length f) ≡ true → n ≡ node_bytes true f t → m ≡ plane_bytes true f t → l ≡ leaf_bytes f t → k ≡ is_render t.table → Owned f t k n m l
  owned e is_n is_m is_l is-k =
      let w = both (are_whole t (length f)) (is_whole t.leaves 28 (length f)) e in
      record { read = record { told = sym w.0; its_nodes = is_n; its_planes = is_m }; leaves_whole = w.1; its_leaves = is_l; its_table = is-k }
