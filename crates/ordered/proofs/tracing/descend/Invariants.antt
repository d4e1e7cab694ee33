-- `descend` meets its contract. The loop's invariant: the trace from the present place, with the calls left and the visits so far, says
-- what the trace from the first one says. Assumes nothing.
use Prim.Native.Nat.{◌/◌, ◌≤◌}
use mathlib.Core.Path.{◌≡◌}
use lib.ListN.{length}
use Rattle.walk.specs.Private.{after}
use Rattle.walk.specs.Tracing.{recursive_trace}
use Rattle.ordered.specs.Rows.{rows_in}
use Rattle.ordered.proofs.tracing.descend.Given as goal

abbrev pub invariant-loop-place : goal.invariant-loop-place
invariant-loop-place l =
    (l.limit ≡ length l.t.words.now / 3) × (l.left ≤ l.left0)
    × (after l.visits (recursive_trace (rows_in l.t) l.left l.place l.segment.start l.segment.end) ≡ after l.visits0 (recursive_trace (rows_in l.t) l.left0 l.place0 l.segment.start l.segment.end))

abbrev pub decreases-loop-place : goal.decreases-loop-place
decreases-loop-place l =
    l.left
