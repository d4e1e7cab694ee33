-- `walk_by_records` meets its contract. The loop's invariant: the answer is that of the walk from the present node, which may enter as many
-- nodes as are left, with the visits made so far added.
-- Assumes nothing.
use Rattle.std.proofs.Common.{◌≡◌, ◌-◌, ◌≤◌}
use Rattle.walk.specs.Walk.{with_visits, walk, point_walk}
use Rattle.walk.specs.Private.{after}
use Rattle.nodes.specs.Fast as Fast
use Rattle.nodes.specs.Walks.{ends}
use Rattle.nodes.proofs.walking.walk_by_records.Given as goal

abbrev pub invariant-loop-node : goal.invariant-loop-node
invariant-loop-node l =
    (l.visits ≤ l.t.nodes.count)
    × (with_visits (point_walk (ends (Fast.table l.s l.t)) l.root l.point) ≡ after l.visits (walk (ends (Fast.table l.s l.t)) (l.t.nodes.count - l.visits) l.node l.point))

abbrev pub decreases-loop-node : goal.decreases-loop-node
decreases-loop-node l = l.t.nodes.count - l.visits
