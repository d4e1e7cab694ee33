-- `walk_clips` meets its contract. The loop's invariant: the walk from the root on is the walk from the present node, which may enter as many
-- nodes as are left.
-- Assumes nothing.
use Rattle.std.proofs.Common.{◌-◌, ◌/◌, ◌<◌, ◌≤◌, false, length}
use Rattle.nodes.specs.Fast.{point_of}
use Rattle.nodes.proofs.Quicks.{from_root, Stands}
use Rattle.nodes.proofs.whole.Sections.walk_clips.Given as goal

abbrev pub invariant-loop-visits : goal.invariant-loop-visits
invariant-loop-visits l =
    (l.node < length l.self.nodes.now / 8) × (l.visits ≤ length l.self.nodes.now / 8) × Stands l.self.nodes.now l.self.planes.now false (from_root l.root (point_of l.point)) (point_of l.point) l.node l.visits

abbrev pub decreases-loop-visits : goal.decreases-loop-visits
decreases-loop-visits l = length l.self.nodes.now / 8 - l.visits
