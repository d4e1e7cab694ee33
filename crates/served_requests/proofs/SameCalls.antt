-- Note 11 about the calls for C (specs/SameCalls.antt says it). Assumes nothing.
use Prim.Native.Nat.{ℕ, ◌≤◌}
use native.Mathlib.Omega.{arith}
use mathlib.Core.Bool.{Bool, true, false, cond}
use mathlib.Core.List.{List}
use mathlib.Core.Path.{◌≡◌, refl, sym, ap, ◌∙◌, subst}
use borrow.Author.Tests.{le-ltb}
use lib.Dec.{ltb}
use lib.IntN.{ℤ}
use lib.ListN.{length, get_or}
use Rattle.format.specs.Answer.{Answer, answer, mapped, then_answer}
use Rattle.format.specs.declared.contents.BspLeafContents.{BspLeafContents}
use Rattle.phys.specs.declared.Trace.{Trace}
use Rattle.words.specs.Words.{given, at_least, number_words, map_length, map_of}
use Rattle.walk.specs.Table.{Table}
use Rattle.walk.specs.Walk.{with_visits, point_walk}
use Rattle.walk.specs.Tracing as Tracing
use Rattle.walk.specs.Writing.{InOrder, order_nodes}
use Rattle.nodes.specs.Tables.{End, table_of}
use Rattle.hull.specs.Hull.{hull_table}
use Rattle.ordered.specs.Same.{file_nodes}
use Rattle.ordered.proofs.Whole.{every_order}
use Rattle.ffi_hull.specs.Layout.{point_at, hull_from, hull_asked}
use Rattle.ffi_walks.specs.Calls.{contents_words, bsp_contents}
use Rattle.ffi_traces.specs.Layout.{trace_words}
use Rattle.ffi_traces.specs.Calls.{bsp_trace}
use Rattle.ffi_order.specs.Calls.{Ordering, ordering, ordered_in, needs, bsp_order, bsp_order_contents, bsp_order_trace}
use Rattle.served.proofs.Statuses.{Some, was_answered}
use Rattle.served_requests.specs.SameCalls.{table_number, HullOf, Same, SameCalls}
use Rattle.served_requests.proofs.Orders.{of_order}

-- what is asked of the hull of the words is asked of the file's table and root
module _ {A : Type 0} (s : List ℕ) (map hull : List ℕ) (root : ℕ) (ask : Table End BspLeafContents → ℕ → Answer A) where
  by_table : (render : Bool) (n : ℕ) → n ≡ table_number render → get_or hull 0 0 ≡ n → get_or hull 1 0 ≡ root
      → then_answer (hull_from hull) (λ h. ask (hull_table s (map_of map) h) h.node_id) ≡ ask (file_nodes s (map_of map) render) root
  unfolding hull_from table_of
  by_table true n e t r = rw (t, e, r)
  by_table false n e t r = rw (t, e, r)

  pub of_hull : (render : Bool) → HullOf render root hull → then_answer (hull_from hull) (λ h. ask (hull_table s (map_of map) h) h.node_id) ≡ ask (file_nodes s (map_of map) render) root
  of_hull render h = by_table render (table_number render) refl h.table h.its_root

-- ---- where the status of `bsp_order` is 0, its lists were long enough and the tree was written

kept : (b : Bool) (short rest : Ordering) → 1 ≤ short.status → (cond b short rest).status ≡ 0 → cond b short rest ≡ rest
kept true short rest l e = absurd (omega (arith, e, l))
kept false short rest l e = refl

module _ (s map : List ℕ) (root : ℕ) (marks : List ℕ) (list : List ℤ) (out : List ℕ) where
  abbrev wrote : Bool → InOrder
  wrote render = order_nodes (file_nodes s (map_of map) render) marks root list

  abbrev short : Ordering
  short = ordering 22 marks list out

  was_long : (rest : Ordering) → (needs map_length map short (needs 1 out short rest)).status ≡ 0 → needs map_length map short (needs 1 out short rest) ≡ rest
  was_long rest e =
      let a = kept (ltb (length map) map_length) short (needs 1 out short rest) (omega arith) e in
      a ∙ kept (ltb (length out) 1) short rest (omega arith) (sym (ap (λ (x : Ordering). x.status) a) ∙ e)

  was_ordered : (render : Bool) → (bsp_order s map (table_number render) root marks list out).status ≡ 0 → bsp_order s map (table_number render) root marks list out ≡ ordered_in (wrote render) out
  unfolding bsp_order
  was_ordered true e = was_long (ordered_in (wrote true) out) e
  was_ordered false e = was_long (ordered_in (wrote false) out) e

  was_written : (render : Bool) → (bsp_order s map (table_number render) root marks list out).status ≡ 0 → (n : ℕ) × ((wrote render).answer ≡ answer n)
  was_written render e =
      was_answered number_words (wrote render).answer out
      (of_order Some (omega arith) s (map_of map) (omega arith) (omega arith) (omega arith) (omega arith) (omega arith) render marks root list)
      (sym (ap (λ (x : Ordering). x.status) (was_ordered render e)) ∙ e)

-- ---- the calls by the table

by_rows : (s map : List ℕ) (render : Bool) (root : ℕ) (marks : List ℕ) (list : List ℤ) (n : ℕ) → (order_nodes (file_nodes s (map_of map) render) marks root list).answer ≡ answer n
    → Same s map render root (order_nodes (file_nodes s (map_of map) render) marks root list).table
unfolding bsp_order_contents bsp_order_trace bsp_contents bsp_trace
by_rows s map render root marks list n e =
    let W = every_order s (map_of map) render root marks list n e in
    record {
      contents = λ hull h point out.
          ap (λ (a : Answer (BspLeafContents × ℕ)). at_least 31 map out (at_least 3 point out (at_least 2 out out (given (mapped contents_words a) out))))
          (W.contents (point_at point 0) ∙ sym (of_hull s map hull root (λ T r. with_visits (point_walk T r (point_at point 0))) render h))
          ∙ rw (le-ltb (length hull) hull_asked h.long);
      trace = λ hull h segment out.
          ap (λ (a : Answer (Trace × ℕ)). at_least 31 map out (at_least 6 segment out (at_least 17 out out (given (mapped trace_words a) out))))
          (W.trace (point_at segment 0) (point_at segment 3) ∙ sym (of_hull s map hull root (λ T r. with_visits (Tracing.trace T r (point_at segment 0) (point_at segment 3))) render h))
          ∙ rw (le-ltb (length hull) hull_asked h.long);
    }

pub same_calls : SameCalls
same_calls s map render root marks list out e =
    let n = was_written s map root marks list out render e in
    subst (Same s map render root) (sym (ap (λ (x : Ordering). x.table) (was_ordered s map root marks list out render e))) (by_rows s map render root marks list n.0 n.1)
