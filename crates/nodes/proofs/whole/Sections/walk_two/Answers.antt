-- `walk_two` meets its contract: fewer nodes in the bytes than that are of no such table.
-- Assumes nothing.
use Rattle.std.proofs.Common.{arith}
use Rattle.nodes.specs.Fast.{point_of}
use Rattle.nodes.proofs.Beside.{fewer_nodes}
use Rattle.nodes.proofs.whole.Sections.walk_two.Goals as goal

pub returns-then-node_count-count : goal.returns-then-node_count-count
returns-then-node_count-count c = let a = c.args in fewer_nodes a.self.now.nodes.now a.self.now.planes.now a.self.now.render a.count (point_of a.one.now) (point_of a.other.now) a.first a.second (omega (arith, c.node_count.ensures, c.if-node_count-count.true))
