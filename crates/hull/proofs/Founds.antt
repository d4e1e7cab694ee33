-- What `contents_at_point` and `find_leaf` answer, from the walk to the end and from the end that is met.
-- Assumes nothing.
use Rattle.std.proofs.Common.{Ok, Err}
use Rattle.std.specs.Prelude.{Result}
use Rattle.format.specs.Answers.{answer_of}
use Prim.Native.Nat.{ℕ, ◌-◌, ◌<◌, ◌≤◌}
use mathlib.Core.Path.{◌≡◌, sym, ap, ◌∙◌}
use mathlib.Core.List.{List}
use borrow.Author.Tests.{lt-ltb, le-ltb}
use Rattle.format.specs.Answer as Ans
use Rattle.format.specs.Answer.{Answer, answer}
use Rattle.format.specs.Refusal.{number_of}
use Rattle.format.specs.declared.refusal.Refusal.{Refusal}
use Rattle.format.specs.declared.contents.BspLeafContents.{BspLeafContents}
use Rattle.format.specs.declared.section.BspData.{BspData}
use Rattle.math.specs.declared.vector.Vector3.{Vector3}
use Rattle.walk.specs.Table.{Table}
use Rattle.phys.specs.declared.Trace.{Trace}
use Rattle.walk.specs.Walk.{with_visits, meet, point_walk}
use Rattle.walk.specs.Tracing.{trace}
use Rattle.nodes.specs.Tables.{End, table_of, leaf_table}
use Rattle.nodes.specs.Fast as Fast
use Rattle.nodes.specs.Fast.{tables_of, end_of, contents_met}
use Rattle.nodes.proofs.Equal.{table_is, leaves_are}
use Rattle.nodes.specs.declared.table.HullTable.{HullTable}
use Rattle.nodes.specs.declared.table.HullTable.TheVariants.{Render}
use Rattle.nodes.specs.declared.table.Tables.{Tables}
use Rattle.nodes.specs.Walks.{ends, walk_end_answer}
use Rattle.hull.proofs.Ends.{point_refused, point_met, point_unmet}

module _ (s : List ℕ) (m : BspData) (tab : HullTable) (mins maxs : Vector3) (t : Tables) (is-t : t ≡ tables_of m tab mins maxs) where
  pub table_same : Fast.table s t ≡ table_of s m tab mins maxs
  table_same = ap (Fast.table s) is-t ∙ table_is s m mins maxs tab

  -- a trace
  pub trace_is : (root : ℕ) (a b : Vector3) {r : Answer (Trace × ℕ)} → r ≡ with_visits (trace (Fast.table s t) root a b)
      → r ≡ with_visits (trace (table_of s m tab mins maxs) root a b)
  trace_is root a b e = e ∙ ap (λ (T : Table End BspLeafContents). with_visits (trace T root a b)) table_same

  -- the contents at a point
  pub contents_are : (root : ℕ) (p : Vector3) {r : Answer (BspLeafContents × ℕ)} → r ≡ with_visits (point_walk (Fast.table s t) root p)
      → r ≡ with_visits (point_walk (table_of s m tab mins maxs) root p)
  contents_are root p e = e ∙ ap (λ (T : Table End BspLeafContents). with_visits (point_walk T root p)) table_same

module _ (s : List ℕ) (t : Tables) (root : ℕ) (p : Vector3) (r : Result (ℕ × ℕ) Refusal) (is-r : walk_end_answer t.table r ≡ with_visits (point_walk (ends (Fast.table s t)) root p)) where
  pub contents_refused : (x : Refusal) → r ≡ Err x → Ans.refused (number_of x) ≡ with_visits (point_walk (Fast.table s t) root p)
  contents_refused x q = point_refused (Fast.table s t) p root (number_of x) (sym (ap (walk_end_answer t.table) q) ∙ is-r)

  module _ (word v : ℕ) (q : r ≡ Ok (word, v)) (x : Result BspLeafContents Refusal) (is_x : answer_of x ≡ contents_met s t word) where
    pub contents_met_lem : (c : BspLeafContents) → x ≡ Ok c → answer (c, v) ≡ with_visits (point_walk (Fast.table s t) root p)
    unfolding contents_met
    contents_met_lem c q2 = point_met (Fast.table s t) p root (end_of t.table word) v c (sym (ap (walk_end_answer t.table) q) ∙ is-r) (sym is_x ∙ ap answer_of q2)

    pub contents_unmet : (y : Refusal) → x ≡ Err y → Ans.refused (number_of y) ≡ with_visits (point_walk (Fast.table s t) root p)
    unfolding contents_met
    contents_unmet y q2 =
        point_unmet (Fast.table s t) p root (end_of t.table word) v (number_of y) (sym (ap (walk_end_answer t.table) q) ∙ is-r) (sym is_x ∙ ap answer_of q2)

module _ (s : List ℕ) (m : BspData) (mins maxs : Vector3) (t : Tables) (is-t : t ≡ tables_of m Render mins maxs) (root : ℕ) (p : Vector3) (r : Result (ℕ × ℕ) Refusal) (is-r : walk_end_answer t.table r ≡ with_visits (point_walk (ends (Fast.table s t)) root p)) where
  in_leaves : with_visits (point_walk (Fast.leaves s t) root p) ≡ with_visits (point_walk (leaf_table s m) root p)
  in_leaves = ap (λ (T : Table End ℕ). with_visits (point_walk T root p)) (ap (Fast.leaves s) is-t ∙ leaves_are s m mins maxs)

  is_render_lem : t.table ≡ Render
  is_render_lem = ap (λ (x : Tables). x.table) is-t

  pub leaf_refused : (x : Refusal) → r ≡ Err x → Ans.refused (number_of x) ≡ with_visits (point_walk (leaf_table s m) root p)
  leaf_refused x q = point_refused (Fast.leaves s t) p root (number_of x) (sym (ap (walk_end_answer t.table) q) ∙ is-r) ∙ in_leaves

  module _ (word v : ℕ) (q : r ≡ Ok (word, v)) where
    met_in : 65535 - word < t.leaves.count → meet (Fast.leaves s t) (end_of Render word) ≡ answer (65535 - word)
    unfolding meet
    met_in h = simp (lt-ltb (65535 - word) t.leaves.count h)

    met_out : t.leaves.count ≤ 65535 - word → meet (Fast.leaves s t) (end_of Render word) ≡ Ans.refused 30
    unfolding meet
    met_out h = simp (le-ltb (65535 - word) t.leaves.count h)

    pub leaf_met : 65535 - word < t.leaves.count → answer (65535 - word, v) ≡ with_visits (point_walk (leaf_table s m) root p)
    leaf_met h =
        point_met (Fast.leaves s t) p root (end_of t.table word) v (65535 - word) (sym (ap (walk_end_answer t.table) q) ∙ is-r) found ∙ in_leaves
      where
        found : meet (Fast.leaves s t) (end_of t.table word) ≡ answer (65535 - word)
        found = ap (λ (x : HullTable). meet (Fast.leaves s t) (end_of x word)) is_render_lem ∙ met_in h

    pub leaf_outside : t.leaves.count ≤ 65535 - word → Ans.refused 30 ≡ with_visits (point_walk (leaf_table s m) root p)
    leaf_outside h =
        point_unmet (Fast.leaves s t) p root (end_of t.table word) v 30 (sym (ap (walk_end_answer t.table) q) ∙ is-r) none ∙ in_leaves
      where
        none : meet (Fast.leaves s t) (end_of t.table word) ≡ Ans.refused 30
        none = ap (λ (x : HullTable). meet (Fast.leaves s t) (end_of x word)) is_render_lem ∙ met_out h
