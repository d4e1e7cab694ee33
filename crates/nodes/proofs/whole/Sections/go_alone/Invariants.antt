-- `go_alone` meets its contract. The loop's invariant (`Along`): the walk from the present word on, after the visits so far.
-- Assumes nothing.
use Rattle.std.proofs.Common.{◌-◌}
use Rattle.nodes.specs.Fast.{point_of}
use Rattle.nodes.proofs.Beside.{Along}
use Rattle.nodes.proofs.whole.Sections.go_alone.Given as goal

abbrev pub invariant-loop-at : goal.invariant-loop-at
invariant-loop-at l = Along l.self.nodes.now l.self.planes.now l.self.render l.count (point_of l.point) l.word l.visits l.at l.so_far

abbrev pub decreases-loop-at : goal.decreases-loop-at
decreases-loop-at l = l.count - l.so_far
