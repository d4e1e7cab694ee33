-- `ffi_line::other_line` meets its contract. Assumes nothing.
use Prim.Native.Nat.{ℕ, ◌≤◌}
use mathlib.Core.List.{List}
use lib.ListN.{length}
use Rattle.std.specs.Prelude.{Result}
use mathlib.Core.Path.{◌≡◌, refl, ap, ap₂, ◌∙◌}
use Rattle.format.specs.Answer.{mapped}
use Rattle.format.specs.Answers.{answer_of}
use Rattle.format.specs.declared.refusal.Refusal.{Refusal}
use Rattle.words.specs.Words.{Written, given, told}
use Rattle.words.proofs.Giving.{told_given}
use Rattle.hull.specs.Hull.{hull_table}
use Rattle.line.specs.Line.{whole_line}
use Rattle.line.specs.declared.state.LineTrace.{LineTrace}
use Rattle.ffi_hull.specs.Layout.{point_at}
use Rattle.ffi_hull.proofs.Walked.{no_hull, the_hull, room}
use Rattle.ffi_line.specs.Calls.{line_words, bsp_trace_line}
use Rattle.ffi_line.proofs.other_line.Goals as goal

pub returns-in-Err : goal.returns-in-Err
unfolding bsp_trace_line
returns-in-Err c = let s = c.args in
    no_hull (λ a. given (mapped line_words a) s.out.now) _ _ _ _ _ _ _ (λ T root. whole_line T root (point_at s.segment.now 0) (point_at s.segment.now 3))
    _ c.asked.ensures _ c.in-Err.is _ c.number.ensures

-- what a call leaves of a line that was traced, or of its refusal
traced : (r : Result LineTrace Refusal) (out : List ℕ) {w : Written} → w ≡ told (mapped line_words (answer_of r)) out → 12 ≤ length out → w ≡ given (mapped line_words (answer_of r)) out
traced r out e h = e ∙ told_given line_words (answer_of r) out (λ l. h)

pub returns-in-Err-trace_line : goal.returns-in-Err-trace_line
unfolding bsp_trace_line
returns-in-Err-trace_line c = let s = c.args in
    let m = c.in-Ok.m in
    let h = c.in-Ok.h in
    traced c.trace_line.result s.out.now (rw (c.in-Err-trace_line.is, c.number-in-Err-trace_line.ensures) refl) (room _ _ _ _ _ _ _ c.asked.ensures _ _ c.in-Ok.is)
    ∙ ap (λ a. given (mapped line_words a) s.out.now)
    (c.trace_line.ensures ∙ ap₂ (whole_line (hull_table s.file.now m h) h.node_id) c.first_point-start.ensures c.second_point-end.ensures)
    ∙ the_hull (λ a. given (mapped line_words a) s.out.now) _ _ _ _ _ _ _ (λ T root. whole_line T root (point_at s.segment.now 0) (point_at s.segment.now 3))
    _ c.asked.ensures _ _ c.in-Ok.is

pub returns-in-Ok-trace_line : goal.returns-in-Ok-trace_line
unfolding bsp_trace_line
returns-in-Ok-trace_line c = let s = c.args in
    let m = c.in-Ok.m in
    let h = c.in-Ok.h in
    traced c.trace_line.result s.out.now (rw c.in-Ok-trace_line.is c.give_line.ensures) (room _ _ _ _ _ _ _ c.asked.ensures _ _ c.in-Ok.is)
    ∙ ap (λ a. given (mapped line_words a) s.out.now)
    (c.trace_line.ensures ∙ ap₂ (whole_line (hull_table s.file.now m h) h.node_id) c.first_point-start.ensures c.second_point-end.ensures)
    ∙ the_hull (λ a. given (mapped line_words a) s.out.now) _ _ _ _ _ _ _ (λ T root. whole_line T root (point_at s.segment.now 0) (point_at s.segment.now 3))
    _ c.asked.ensures _ _ c.in-Ok.is
