-- What the calls are refused with (specs/Refusals.antt says it): loaded/proofs/Refusals.antt and loaded/proofs/Loading.antt, and 22 and 20 for lists and tables.
-- Assumes nothing.
use Rattle.std.specs.Prelude.{Option, Some, None}
use Prim.Native.Nat.{ℕ, zero, suc, ◌<◌}
use mathlib.Core.Bool.{Bool, true, false}
use mathlib.Core.List.{List, [], ◌∷◌}
use mathlib.Core.Logic.{inl, inr}
use mathlib.Core.Path.{◌≡◌, refl, sym, subst, ◌∙◌}
use borrow.Author.Tests.{lt-ltb, ltb-true, ltb-false}
use lib.Dec.{ltb}
use lib.Ieee.{Float}
use lib.ListN.{length}
use Rattle.format.specs.Answer as Ans
use Rattle.format.specs.Answer.{Answer, answer, then_answer}
use Rattle.format.specs.declared.section.BspData.{BspData}
use Rattle.format.specs.declared.section.BspFileSectionId.TheVariants.{RenderNodes, CollisionNodes}
use Rattle.phys.specs.declared.Trace.{Trace}
use Rattle.walk.specs.Walk.{Outcome, done, refused, with_visits, point_walk}
use Rattle.walk.specs.Tracing as Tracing
use Rattle.walk.specs.Tree.{Fails, index_outside, reached_twice, too_deep, unreadable, plane_outside, end_outside}
use Rattle.walk.specs.TreeCheck.{tree_check}
use Rattle.walk.proofs.Refused.{refused_for}
use Rattle.records.specs.Node.{render_node_at, render_node_of, collision_node_at, collision_node_of}
use Rattle.nodes.specs.Tables.{render_node, clip_node, nth, box_nodes, nodes_of, leaf_table}
use Rattle.nodes.specs.declared.table.HullTable.{HullTable}
use Rattle.nodes.specs.declared.table.HullTable.TheVariants.{Render, Clip, Box}
use Rattle.hull.specs.Hull.{hull_table}
use Rattle.hull.specs.declared.collision.BspCollisionHull.{BspCollisionHull}
use Rattle.entered.specs.Lists.{nodes_entered}
use Rattle.load.specs.Load.{load_of}
use Rattle.loaded.specs.Refusals.{OneOf, of_walks, of_traces, RefusedOnly}
use Rattle.loaded.proofs.Loading.{loading_refuses}
use Rattle.loaded.proofs.Refusals as Core
use Rattle.loaded.proofs.Refusals.{answers, refuses, of_mapped, of_record}
use Rattle.words.specs.Words.{number_words, map_words, map_of}
use Rattle.served.specs.Cited.{bsp_load, bsp_tree_check, bsp_contents, bsp_find_leaf, bsp_trace, bsp_contents_nodes, bsp_find_leaf_nodes, bsp_trace_nodes, point_at, table_numbered, check_of, hull_from, hull_in, contents_words, leaf_words, trace_words}
use Rattle.served.specs.Refusals.{ZeroOr, OfLoad, of_contents, of_find_leaf, of_trace, of_tree_check, EveryRefusal}
use Rattle.served.proofs.Statuses.{of_given, at_least_lem, both, of_listed, OfWords, of_table, of_none, of_words}

-- ---- the tree check, for the tables of any file and map record

module _ (P : ℕ → Type 0) (p20 : P 20) (p22 : P 22) (p23 : P 23) (p30 : P 30) (p32 : P 32) (p34 : P 34) (s : List ℕ) (m : BspData) where
  of_nth : {A : Type 0} (l : List A) (i : ℕ) → RefusedOnly P (nth l i)
  of_nth [] i = refuses P 20 p20
  of_nth (x ∷ l) zero = answers P x
  of_nth (x ∷ l) (suc i) = of_nth l i

  of_node : (t : HullTable) (i : ℕ) → RefusedOnly P ((nodes_of s m t).node_at i)
  of_node Render i = of_mapped P render_node (render_node_of s m i) (of_record P p23 RenderNodes render_node_at s m i (λ l. p20))
  of_node Clip i = of_mapped P clip_node (collision_node_of s m i) (of_record P p23 CollisionNodes collision_node_at s m i (λ l. p20))
  of_node Box i = of_nth box_nodes i

  of_fails : (t : HullTable) (root r : ℕ) → Fails (nodes_of s m t) root r → P r
  of_fails t root r (index_outside n q i h) = rw q p30
  of_fails t root r (reached_twice n p p' q a b d) = rw q p34
  of_fails t root r (too_deep n p q a h) = rw q p32
  of_fails t root r (unreadable n i e) = of_node t n r e
  of_fails t root r (plane_outside n nd q i e h) = rw q p30
  of_fails t root r (end_outside n nd side x q i e c h) = rw q p30

  too_few : (t : HullTable) (marks : List ℕ) (root : ℕ) → length marks < (nodes_of s m t).count → (tree_check (nodes_of s m t) marks root).answer ≡ Ans.refused 22
  unfolding tree_check
  too_few t marks root h = rw (lt-ltb _ _ h)

  pub of_check : (t : HullTable) (marks : List ℕ) (root : ℕ) → RefusedOnly P (tree_check (nodes_of s m t) marks root).answer
  of_check t marks root r e = by (ltb (length marks) (nodes_of s m t).count) refl
    where
      by : (b : Bool) → ltb (length marks) (nodes_of s m t).count ≡ b → P r
      by true q = refuses P {A = ℕ} 22 p22 r (sym (too_few t marks root (ltb-true _ _ q)) ∙ e)
      by false q = of_fails t root r (refused_for (nodes_of s m t) root marks r (ltb-false _ _ q) e)

of_entered : {A : Type 0} (P : ℕ → Type 0) (o : Outcome A) → RefusedOnly P (with_visits o) → RefusedOnly P (nodes_entered o)
of_entered P (done a ns) f = answers P ns
of_entered P (refused n) f = refuses P n (f n refl)

of_hull : {A : Type 0} (P : ℕ → Type 0) → P 20 → (ws : List ℕ) (k : BspCollisionHull → Answer A) → ((h : BspCollisionHull) → RefusedOnly P (k h)) → RefusedOnly P (then_answer (hull_from ws) k)
of_hull {A} P p20 ws k f = by (of_words ws)
  where
    by : OfWords ws → RefusedOnly P (then_answer (hull_from ws) k)
    by (of_table t e) = subst (λ (x : Answer BspCollisionHull). RefusedOnly P (then_answer x k)) (sym e) (f (hull_in t ws))
    by (of_none e) = subst (λ (x : Answer BspCollisionHull). RefusedOnly P (then_answer x k)) (sym e) (refuses P {A = A} 20 p20)

wider : {A : Type 0} (P Q : ℕ → Type 0) → ((n : ℕ) → P n → Q n) → (x : Answer A) → RefusedOnly P x → RefusedOnly Q x
wider P Q g x f n e = g n (f n e)

-- ---- the calls

abbrev C : ℕ → Type 0
C = ZeroOr of_contents

abbrev F : ℕ → Type 0
F = ZeroOr of_find_leaf

abbrev T : ℕ → Type 0
T = ZeroOr of_trace

abbrev K : ℕ → Type 0
K = ZeroOr of_tree_check

module _ (s map : List ℕ) where
  abbrev m : BspData
  m = map_of map

  of_load : OfLoad (bsp_load s map).status
  unfolding bsp_load
  of_load = at_least_lem OfLoad (inl (inl refl)) (inl (inr (inl refl))) 31 map map _ (of_given OfLoad (inl (inl refl)) map_words (load_of s) map (λ n e. inr (loading_refuses s n e)))

  of_tree_check_lem : (table root : ℕ) (marks out : List ℕ) → K (bsp_tree_check s map table root marks out).status
  unfolding bsp_tree_check
  of_tree_check_lem table root marks out =
      both K (inl refl) (inr (inl refl)) 31 map marks out _ (both K (inl refl) (inr (inl refl)) 1 out marks out _ (by (table_numbered table)))
    where
      by : (x : Option HullTable) → K (check_of x s map root marks out).status
      by None = inr (inr (inl refl))
      by (Some t) =
          of_given K (inl refl) number_words (tree_check (nodes_of s m t) marks root).answer out
          (of_check K (inr (inr (inl refl))) (inr (inl refl)) (inr (inr (inr (inl refl)))) (inr (inr (inr (inr (inl refl))))) (inr (inr (inr (inr (inr (inr (inl refl)))))))
          (inr (inr (inr (inr (inr (inl refl)))))) s m t marks root)

  contents_of_lem : (hull : List ℕ) (point : List Float) → RefusedOnly C (then_answer (hull_from hull) (λ h. with_visits (point_walk (hull_table s m h) h.node_id (point_at point 0))))
  contents_of_lem hull point =
      of_hull C (inr (inr (inl refl))) hull _ (λ h. wider (OneOf of_walks) C (λ n x. inr (inr (inr x))) (with_visits (point_walk (hull_table s m h) h.node_id (point_at point 0)))
      ((Core.every_refusal s m h).contents (point_at point 0)))

  of_contents_lem : (hull : List ℕ) (point : List Float) (out : List ℕ) → C (bsp_contents s map hull point out).status
  unfolding bsp_contents
  of_contents_lem hull point out =
      at_least_lem C (inl refl) (inr (inl refl)) 31 map out _ (at_least_lem C (inl refl) (inr (inl refl)) 9 hull out _ (at_least_lem C (inl refl) (inr (inl refl)) 3 point out _
      (at_least_lem C (inl refl) (inr (inl refl)) 2 out out _ (of_given C (inl refl) contents_words _ out (contents_of_lem hull point)))))

  -- the list of nodes is refused where the walk is
  contents_listed : (hull : List ℕ) (point : List Float) → RefusedOnly C (then_answer (hull_from hull) (λ h. nodes_entered (point_walk (hull_table s m h) h.node_id (point_at point 0))))
  contents_listed hull point =
      of_hull C (inr (inr (inl refl))) hull _ (λ h. of_entered C (point_walk (hull_table s m h) h.node_id (point_at point 0))
      (wider (OneOf of_walks) C (λ n x. inr (inr (inr x))) (with_visits (point_walk (hull_table s m h) h.node_id (point_at point 0))) ((Core.every_refusal s m h).contents (point_at point 0))))

  of_contents_nodes : (hull : List ℕ) (point : List Float) (list out : List ℕ) → C (bsp_contents_nodes s map hull point list out).status
  unfolding bsp_contents_nodes
  of_contents_nodes hull point list out =
      both C (inl refl) (inr (inl refl)) 31 map list out _ (both C (inl refl) (inr (inl refl)) 9 hull list out _ (both C (inl refl) (inr (inl refl)) 3 point list out _
      (both C (inl refl) (inr (inl refl)) 1 out list out _ (of_listed C (inl refl) (inr (inl refl)) _ list out (contents_listed hull point)))))

  module _ (root : ℕ) (point : List Float) where
    leaf_of_lem : RefusedOnly F (with_visits (point_walk (leaf_table s m) root (point_at point 0)))
    leaf_of_lem = wider (OneOf of_walks) F (λ n x. inr (inr x)) (with_visits (point_walk (leaf_table s m) root (point_at point 0))) ((Core.every_refusal s m (hull_in Render [])).leaf root (point_at point 0))

    of_find_leaf_lem : (out : List ℕ) → F (bsp_find_leaf s map root point out).status
    unfolding bsp_find_leaf
    of_find_leaf_lem out =
        at_least_lem F (inl refl) (inr (inl refl)) 31 map out _ (at_least_lem F (inl refl) (inr (inl refl)) 3 point out _ (at_least_lem F (inl refl) (inr (inl refl)) 2 out out _
        (of_given F (inl refl) leaf_words _ out leaf_of_lem)))

    of_find_leaf_nodes : (list out : List ℕ) → F (bsp_find_leaf_nodes s map root point list out).status
    unfolding bsp_find_leaf_nodes
    of_find_leaf_nodes list out =
        both F (inl refl) (inr (inl refl)) 31 map list out _ (both F (inl refl) (inr (inl refl)) 3 point list out _ (both F (inl refl) (inr (inl refl)) 1 out list out _
        (of_listed F (inl refl) (inr (inl refl)) _ list out (of_entered F (point_walk (leaf_table s m) root (point_at point 0)) leaf_of_lem))))

  module _ (hull : List ℕ) (segment : List Float) where
    abbrev trace_of : BspCollisionHull → Outcome Trace
    trace_of h = Tracing.trace (hull_table s m h) h.node_id (point_at segment 0) (point_at segment 3)

    trace_one : (h : BspCollisionHull) → RefusedOnly T (with_visits (trace_of h))
    trace_one h = wider (OneOf of_traces) T (λ n x. inr (inr (inr x))) (with_visits (trace_of h)) ((Core.every_refusal s m h).trace (point_at segment 0) (point_at segment 3))

    of_trace_lem : (out : List ℕ) → T (bsp_trace s map hull segment out).status
    unfolding bsp_trace
    of_trace_lem out =
        at_least_lem T (inl refl) (inr (inl refl)) 31 map out _ (at_least_lem T (inl refl) (inr (inl refl)) 9 hull out _ (at_least_lem T (inl refl) (inr (inl refl)) 6 segment out _
        (at_least_lem T (inl refl) (inr (inl refl)) 17 out out _ (of_given T (inl refl) trace_words _ out (of_hull T (inr (inr (inl refl))) hull _ trace_one)))))

    of_trace_nodes : (list out : List ℕ) → T (bsp_trace_nodes s map hull segment list out).status
    unfolding bsp_trace_nodes
    of_trace_nodes list out =
        both T (inl refl) (inr (inl refl)) 31 map list out _ (both T (inl refl) (inr (inl refl)) 9 hull list out _ (both T (inl refl) (inr (inl refl)) 6 segment list out _
        (both T (inl refl) (inr (inl refl)) 1 out list out _ (of_listed T (inl refl) (inr (inl refl)) _ list out
        (of_hull T (inr (inr (inl refl))) hull _ (λ h. of_entered T (trace_of h) (trace_one h)))))))

pub every_refusal : EveryRefusal
every_refusal s map = record {
  load = of_load s map;
  tree_check = of_tree_check_lem s map;
  contents = of_contents_lem s map;
  find_leaf = of_find_leaf_lem s map;
  trace = of_trace_lem s map;
  contents_nodes = of_contents_nodes s map;
  find_leaf_nodes = of_find_leaf_nodes s map;
  trace_nodes = of_trace_nodes s map;
}
