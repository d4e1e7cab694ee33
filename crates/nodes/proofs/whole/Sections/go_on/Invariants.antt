-- `go_on` meets its contract. The loop's invariant: what is left of the walk is the walk from the present node, which may enter as many
-- nodes as are left.
-- Assumes nothing.
use Rattle.std.proofs.Common.{◌-◌, ◌/◌, ◌<◌, ◌≤◌, length}
use Rattle.nodes.specs.Fast.{node_size, point_of}
use Rattle.nodes.proofs.Quicks.{from_node, Stands}
use Rattle.nodes.proofs.whole.Sections.go_on.Given as goal

abbrev pub invariant-loop-visits : goal.invariant-loop-visits
invariant-loop-visits l =
    (l.node < length l.self.nodes.now / node_size l.self.render) × (l.visits ≤ length l.self.nodes.now / node_size l.self.render) × Stands l.self.nodes.now l.self.planes.now l.self.render (from_node l.from l.before (point_of l.point)) (point_of l.point) l.node l.visits

abbrev pub decreases-loop-visits : goal.decreases-loop-visits
decreases-loop-visits l = length l.self.nodes.now / node_size l.self.render - l.visits
