-- A node is entered: what the readers of its words and of its plane say of it.
-- Assumes nothing.
use Rattle.std.proofs.Common.{Ok, Err}
use Rattle.std.specs.Prelude.{Result}
use Rattle.nodes.specs.declared.read.Words.{Words}
use Rattle.std.proofs.Common.{◌≡◌, ℕ, ◌<◌, ◌≤◌, Bool, true, false, cond, ltb, List, sym, refl, ap, ◌∙◌, arith, le-ltb, lt-ltb}
use Rattle.format.specs.Answer as Ans
use Rattle.format.specs.Answer.{Answer, answer}
use Rattle.format.specs.Refusal.{number_of}
use Rattle.format.specs.declared.refusal.Refusal.{Refusal}
use Rattle.math.specs.Plane as Pl
use Rattle.math.specs.declared.plane.Hyperplane.{Hyperplane}
use Rattle.walk.specs.Table.{node, end, Node, Table, child_on}
use Rattle.walk.specs.Walk.{Entered, with_node, with_plane, enter}
use Rattle.walk.proofs.Steps.{enter_unread}
use Rattle.nodes.specs.Tables.{End}
use Rattle.nodes.specs.Fast.{words_answer, node_of, child_of, onto_word, onto_child, word_on, end_of, plane_in, plane_of_index}
use Rattle.nodes.specs.Fast as Fast
use Rattle.nodes.specs.declared.read.Onto.TheVariants as O
use Rattle.nodes.specs.declared.table.HullTable.{HullTable}
use Rattle.nodes.specs.declared.table.Tables.{Tables}

-- ---- the child that a word stands for

pub child_of_word : (tab : HullTable) (word : ℕ) → onto_child tab (onto_word word) ≡ child_of tab word
child_of_word tab word = go (ltb word 32768)
  where
    go : (b : Bool) → onto_child tab (cond b (O.Node word) (O.End word)) ≡ cond b (node word) (end (end_of tab word))
    go true = refl
    go false = refl

module _ (tab : HullTable) (w : Words) where
  pub child_is : (b : Bool) → child_on (node_of tab w) (Pl.side_if b) ≡ child_of tab (word_on w b)
  child_is true = refl
  child_is false = refl

  module _ (b : Bool) (word : ℕ) (e : word ≡ word_on w b) where
    pub child_node : word < 32768 → child_on (node_of tab w) (Pl.side_if b) ≡ node word
    child_node h = child_is b ∙ rw (← e) (simp (lt-ltb word 32768 h))

    pub child_end : 32768 ≤ word → child_on (node_of tab w) (Pl.side_if b) ≡ end (end_of tab word)
    child_end h = child_is b ∙ rw (← e) (simp (le-ltb word 32768 h))

-- ---- over any table with the nodes and the planes of these parts

module _ {A : Type 0} (s : List ℕ) (t : Tables) (T : Table End A) (same_nodes : T.nodes.node_at ≡ Fast.node_at s t) (same_count : T.nodes.planes ≡ t.planes.count) (same_planes : T.plane_at ≡ plane_of_index s t) (i : ℕ) (r : Result Words Refusal) (is-r : words_answer t.table r ≡ Fast.node_at s t i) where
  node_at : T.nodes.node_at i ≡ words_answer t.table r
  node_at = ap (λ (f : ℕ → Answer (Node End)). f i) same_nodes ∙ sym is-r

  pub enter_not : (x : Refusal) → r ≡ Err x → enter T i ≡ Ans.refused (number_of x)
  enter_not x q = enter_unread T i (number_of x) (node_at ∙ ap (words_answer t.table) q)

  module _ (w : Words) (q : r ≡ Ok w) where
    read_as : T.nodes.node_at i ≡ answer (node_of t.table w)
    read_as = node_at ∙ ap (words_answer t.table) q

    by_test : (b : Bool) (a : Answer Hyperplane) (h : Hyperplane) → cond b a (Ans.refused 30) ≡ answer h
        → cond b (with_plane T (node_of t.table w) a) (Ans.refused 30) ≡ answer (record { nd = node_of t.table w; plane = h })
    by_test true a h e = ap (with_plane T (node_of t.table w)) e
    by_test false a h e = let z : ◌≡◌ {A = ℕ} 0 1 = cc in absurd (omega arith)

    by_test_not : (b : Bool) (a : Answer Hyperplane) (n : ℕ) → cond b a (Ans.refused 30) ≡ Ans.refused n
        → cond b (with_plane T (node_of t.table w) a) (Ans.refused 30) ≡ Ans.refused n
    by_test_not true a n e = ap (with_plane T (node_of t.table w)) e
    by_test_not false a n e = cc

    in_table : plane_in s t w.plane ≡ cond (ltb w.plane T.nodes.planes) (T.plane_at w.plane) (Ans.refused 30)
    unfolding plane_in
    in_table = rw (same_count, same_planes)

    pub enter_is : (h : Hyperplane) → plane_in s t w.plane ≡ answer h → enter T i ≡ answer (record { nd = node_of t.table w; plane = h })
    unfolding enter
    enter_is h e = rw read_as (by_test (ltb w.plane T.nodes.planes) (T.plane_at w.plane) h (sym in_table ∙ e))

    pub enter_no_plane : (n : ℕ) → plane_in s t w.plane ≡ Ans.refused n → enter T i ≡ Ans.refused n
    unfolding enter
    enter_no_plane n e = rw read_as (by_test_not (ltb w.plane T.nodes.planes) (T.plane_at w.plane) n (sym in_table ∙ e))

-- the plane of a node that was entered
module _ (s : List ℕ) (t : Tables) (i : ℕ) where
  planed_by : (nd : Node End) (b : Bool) (a : Answer Hyperplane) (m : Entered End) → cond b (with_plane (Fast.table s t) nd a) (Ans.refused 30) ≡ answer m → (nd ≡ m.nd) × (cond b a (Ans.refused 30) ≡ answer m.plane)
  planed_by nd true (answer h) m e =
      let z : record { nd = nd; plane = h } ≡ m = cc in
      (ap (λ (x : Entered End). x.nd) z, ap (λ (x : Entered End). answer x.plane) z)
  planed_by nd true (Ans.refused n) m e = let z : ◌≡◌ {A = ℕ} 0 1 = cc in absurd (omega arith)
  planed_by nd false a m e = let z : ◌≡◌ {A = ℕ} 0 1 = cc in absurd (omega arith)

  by_node : (x : Answer (Node End)) (m : Entered End) → with_node (Fast.table s t) x ≡ answer m → plane_in s t m.nd.plane ≡ answer m.plane
  unfolding plane_in
  by_node (answer nd) m e =
      let q = planed_by nd (ltb nd.plane t.planes.count) (plane_of_index s t nd.plane) m e in
      sym (ap (λ (x : Node End). cond (ltb x.plane t.planes.count) (plane_of_index s t x.plane) (Ans.refused 30)) q.0) ∙ q.1
  by_node (Ans.refused n) m e = let z : ◌≡◌ {A = ℕ} 0 1 = cc in absurd (omega arith)

  pub planed : (m : Entered End) → enter (Fast.table s t) i ≡ answer m → plane_in s t m.nd.plane ≡ answer m.plane
  unfolding enter
  planed m e = by_node (Fast.node_at s t i) m e
