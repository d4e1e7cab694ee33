-- `go_down` meets its contract. The loop's invariant: the trace from the present node, with the calls left, the visits so far and the list as
-- it is, says what the trace from the first one says.
-- Assumes nothing.
use Prim.Native.Nat.{◌≤◌}
use mathlib.Core.Path.{◌≡◌}
use lib.ListN.{length}
use Rattle.walk.specs.Tracing.{recursive_trace}
use Rattle.nodes.specs.Fast as Fast
use Rattle.entered.specs.Onward.{traced_list}
use Rattle.entered.proofs.traced.go_down.Given as goal

abbrev pub invariant-loop-i : goal.invariant-loop-i
invariant-loop-i l =
    (l.left ≤ l.initial.left)
    × ((length l.list ≡ length l.initial.list)
    × (traced_list l.visits l.list (recursive_trace (Fast.table l.s l.t) l.left l.i l.way.from.point l.way.to.point) ≡ traced_list l.initial.visits l.initial.list (recursive_trace (Fast.table l.s l.t) l.initial.left l.node l.way.from.point l.way.to.point)))

abbrev pub decreases-loop-i : goal.decreases-loop-i
decreases-loop-i l = l.left
