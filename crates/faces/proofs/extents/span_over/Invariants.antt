-- `faces::extents::span_over` meets its contract: the span of the entries left, from what is known so far, is the span of all.
-- Assumes nothing.
use Rattle.std.proofs.Common.{◌≡◌, ◌-◌}
use Rattle.faces.specs.Extents.{unbounded, span_over}
use Rattle.faces.proofs.extents.span_over.Given as goal

abbrev pub invariant-loop-i : goal.invariant-loop-i
invariant-loop-i l = span_over l.s l.map l.info (l.end - l.i) l.i l.w ≡ span_over l.s l.map l.info (l.end - l.first) l.first unbounded
