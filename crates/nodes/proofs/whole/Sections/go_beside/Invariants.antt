-- `go_beside` meets its contract. The loop's invariant (`Beside`): the two walks from the present words on, after the visits so far.
-- Assumes nothing.
use Rattle.std.proofs.Common.{◌-◌}
use Rattle.nodes.specs.Fast.{point_of}
use Rattle.nodes.proofs.Beside.{Beside}
use Rattle.nodes.proofs.whole.Sections.go_beside.Given as goal

abbrev pub invariant-loop-c : goal.invariant-loop-c
invariant-loop-c l = Beside l.self.nodes.now l.self.planes.now l.self.render l.count (point_of l.one) (point_of l.other) l.first l.second l.a l.b l.visits l.visits

abbrev pub decreases-loop-c : goal.decreases-loop-c
decreases-loop-c l = l.count - l.visits
