-- What each call says, and what it leaves in the lent lists.
use Rattle.std.specs.Prelude.{ℕ, cond, List, ltb, eqb, ℤ, Float, length}
use Rattle.format.specs.Answer.{mapped}
use Rattle.words.specs.Words.{Written, given, at_least, number_words, map_length, map_of}
use Rattle.walk.specs.Walk.{with_visits, point_walk}
use Rattle.walk.specs.Tracing as Tracing
use Rattle.walk.specs.Writing.{InOrder, order_nodes}
use Rattle.ordered.specs.Same.{file_nodes, file_rows}
use Rattle.ffi_hull.specs.Layout.{point_at}
use Rattle.walk_words.specs.Layout.{contents_length, contents_words, trace_length, trace_words}

-- what `bsp_order` says, and what is in the marks, in the table and in `out` afterwards
pub record Ordering : Type 0 where
  pub status : ℕ
  pub marks : List ℕ
  pub table : List ℤ
  pub out : List ℕ

abbrev pub ordering : ℕ → List ℕ → List ℤ → List ℕ → Ordering
ordering n marks table out = record { status = n; marks = marks; table = table; out = out }

abbrev pub besides : List ℕ → List ℤ → Written → Ordering
besides marks table w = ordering w.status marks table w.list

-- the marks and the table as they are left, and the number of nodes in `out`
abbrev pub ordered_in : InOrder → List ℕ → Ordering
ordered_in k out = besides k.marks k.table (given (mapped number_words k.answer) out)

-- 22 where a list has fewer than n words, with all lists as they were
abbrev pub needs : ℕ → List ℕ → Ordering → Ordering → Ordering
needs n ws short rest = cond (ltb (length ws) n) short rest

-- the table is 0 (render nodes) or 1 (clip nodes), else 20
unfoldable pub bsp_order : List ℕ → List ℕ → ℕ → ℕ → List ℕ → List ℤ → List ℕ → Ordering
bsp_order s map table root marks list out =
    needs map_length map (ordering 22 marks list out) (needs 1 out (ordering 22 marks list out)
    (cond (ltb table 2)
    (ordered_in (order_nodes (file_nodes s (map_of map) (eqb table 0)) marks root list) out)
    (ordering 20 marks list out)))

unfoldable pub bsp_order_contents : List ℕ → List ℕ → List ℤ → ℕ → List Float → List ℕ → Written
bsp_order_contents s map list root point out =
    at_least map_length map out (at_least 3 point out (at_least contents_length out out
    (given (mapped contents_words (with_visits (point_walk (file_rows s (map_of map) list) root (point_at point 0)))) out)))

unfoldable pub bsp_order_trace : List ℕ → List ℕ → List ℤ → ℕ → List Float → List ℕ → Written
bsp_order_trace s map list root segment out =
    at_least map_length map out (at_least 6 segment out (at_least trace_length out out
    (given (mapped trace_words (with_visits (Tracing.trace (file_rows s (map_of map) list) root (point_at segment 0) (point_at segment 3)))) out)))
