-- `walk_whole` meets its contract: what is left of a walk that stands at its root.
-- Assumes nothing.
use Rattle.std.proofs.Common.{arith}
use Rattle.nodes.specs.Fast.{point_of}
use Rattle.nodes.proofs.Quicks.{first, from_root, handed_on, no_root}
use Rattle.nodes.proofs.whole.Sections.walk_whole.Goals as goal

pub returns-then-node_count-root : goal.returns-then-node_count-root
returns-then-node_count-root c = let a = c.args in record { said = no_root a.self.now.nodes.now a.self.now.planes.now a.self.now.render (point_of a.point.now) a.root (omega (arith, c.if-node_count-root.true, c.node_count.ensures)); bounded = omega arith }

pub returns : goal.returns
returns c = let a = c.args in record { said = handed_on a.self.now.nodes.now a.self.now.planes.now a.self.now.render (point_of a.point.now) (from_root a.root (point_of a.point.now)) a.root 0 (first a.self.now.nodes.now a.self.now.planes.now a.self.now.render (point_of a.point.now) a.root) c.go_on.result c.go_on.ensures.said; bounded = c.go_on.ensures.bounded }
