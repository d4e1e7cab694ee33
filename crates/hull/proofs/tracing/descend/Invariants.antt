-- `descend` meets its contract. The loop's invariant: the trace from the present node, with the calls left and the visits so far, says what
-- the trace from the first one says.
-- Assumes nothing.
use Prim.Native.Nat.{◌≤◌}
use mathlib.Core.Path.{◌≡◌}
use Rattle.walk.specs.Private.{after}
use Rattle.walk.specs.Tracing.{recursive_trace}
use Rattle.nodes.specs.Fast as Fast
use Rattle.hull.proofs.tracing.descend.Given as goal

abbrev pub invariant-loop-node : goal.invariant-loop-node
invariant-loop-node l =
    (l.left ≤ l.left0)
    × (after l.visits (recursive_trace (Fast.table l.s l.t) l.left l.node l.segment.start l.segment.end) ≡ after l.visits0 (recursive_trace (Fast.table l.s l.t) l.left0 l.node0 l.segment.start l.segment.end))

abbrev pub decreases-loop-node : goal.decreases-loop-node
decreases-loop-node l = l.left
