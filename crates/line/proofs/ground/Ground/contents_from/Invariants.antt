-- `line::ground::Ground::contents_from` meets its contract. Assumes nothing.
use mathlib.Core.Path.{◌≡◌}
use Rattle.nodes.specs.Fast as Fast
use Rattle.line.specs.Line.{contents_from}
use Rattle.line.proofs.ground.Ground.contents_from.Given as goal

abbrev pub invariant-loop-word : goal.invariant-loop-word
invariant-loop-word l = contents_from (Fast.table l.self.s.now l.self.t) l.left l.node (Fast.point_of l.coordinates) ≡ contents_from (Fast.table l.self.s.now l.self.t) 512 l.top (Fast.point_of l.coordinates)

abbrev pub decreases-loop-word : goal.decreases-loop-word
decreases-loop-word l = l.left
