-- Whole lines by the calls for C (specs/Lines.antt says it): `every_line` of line_loaded/proofs/EveryLine.antt, on the words of the calls. Assumes nothing.
use Prim.Native.Nat.{ℕ}
use mathlib.Core.Path.{◌≡◌, ap, ◌∙◌}
use Rattle.format.specs.Answer.{Answer, answer, mapped, then_answer}
use Rattle.hull.specs.Hull.{hull_table}
use Rattle.hull.specs.declared.collision.BspCollisionHull.{BspCollisionHull}
use Rattle.nodes.specs.Tables.{nodes_of}
use Rattle.walk.specs.TreeCheck.{tree_check}
use Rattle.line.specs.Line.{whole_line}
use Rattle.line.specs.declared.state.LineTrace.{LineTrace}
use Rattle.line_loaded.proofs.EveryLine as Core
use Rattle.words.specs.Words.{Written, written, given, put, map_of}
use Rattle.ffi_hull.specs.Layout.{point_at, hull_in}
use Rattle.ffi_line.specs.Calls.{line_words, bsp_trace_line}
use Rattle.served.specs.EveryCall.{map_written}
use Rattle.served.proofs.EveryCall.{load_passed, check_passed}
use Rattle.served.proofs.Statuses.{long, from_words}
use Rattle.served_requests.specs.Lines.{line_fraction, EveryLine}

pub every_line : EveryLine
unfolding bsp_trace_line
every_line s lent e table root marks height c hull asked is_table is_root segment h out l =
    let map = map_written s lent in
    let L = load_passed s lent e in
    let C = check_passed s map table root marks height c in
    let b : BspCollisionHull = hull_in C.t hull in
    let ask : BspCollisionHull → Answer LineTrace = λ h. whole_line (hull_table s (map_of map) h) h.node_id (point_at segment 0) (point_at segment 3) in
    let A = Core.every_line s (map_of map) L.loads b C.marks _ (ap (λ (r : ℕ). (tree_check (nodes_of s (map_of map) C.t) C.marks r).answer) is_root ∙ C.passed) (point_at segment 0) (point_at segment 3) in
    let is : bsp_trace_line s map hull segment out ≡ written 0 (put (line_words A.0) out) =
    long 31 map out _ L.room ∙ long 9 hull out _ asked ∙ long 6 segment out _ h ∙ long 12 out out _ l
    ∙ ap (λ x. given (mapped line_words x) out) (ap (λ x. then_answer x ask) (from_words C.t hull (is_table ∙ C.is_table)) ∙ A.1) in
    record {
      answers = ap (λ (w : Written). w.status) is;
      fraction = A.0.fraction;
      is_fraction = A.2;
      wrote = ap (λ (w : Written). line_fraction w.list) is;
    }
