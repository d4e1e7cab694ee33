-- `go_by` meets its contract. The loop's invariant: for every file and table whose own bytes these are, the trace from the present node,
-- with the calls left and the visits so far, says what the trace from the first one says.
-- Assumes nothing.
use Prim.Native.Nat.{ℕ, ◌+◌, ◌-◌, ◌≤◌}
use mathlib.Core.Path.{◌≡◌}
use mathlib.Core.List.{List}
use Rattle.walk.specs.Private.{after}
use Rattle.walk.specs.Tracing.{recursive_trace}
use Rattle.nodes.specs.Fast as Fast
use Rattle.nodes.specs.Owned.{Owned}
use Rattle.nodes.specs.declared.table.Tables.{Tables}
use Rattle.hull.proofs.whole.Whole.go_by.Given as goal

abbrev pub invariant-loop-node : goal.invariant-loop-node
invariant-loop-node l =
    (l.left ≤ l.left0)
    × ((f : List ℕ) (t : Tables) → Owned f t l.self.sections.render l.self.sections.nodes.now l.self.sections.planes.now l.self.leaves.now → after (l.visits + (l.left0 - l.left)) (recursive_trace (Fast.table f t) l.left l.node (Fast.point_of l.start) (Fast.point_of l.end)) ≡ after l.visits (recursive_trace (Fast.table f t) l.left0 l.node0 (Fast.point_of l.start) (Fast.point_of l.end)))

abbrev pub decreases-loop-node : goal.decreases-loop-node
decreases-loop-node l =
    l.left
