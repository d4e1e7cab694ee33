-- `walk_on` meets its contract.
-- Assumes nothing.
use Rattle.std.proofs.Common.{arith}
use Rattle.math.specs.Vector.{vector}
use Rattle.nodes.proofs.Quicks.{few_walked, many_walked}
use Rattle.nodes.proofs.whole.Sections.walk_on.Goals as goal

pub returns-then-node_count-ge32768 : goal.returns-then-node_count-ge32768
returns-then-node_count-ge32768 c = let a = c.args in record { said = many_walked a.self.now.nodes.now a.self.now.planes.now a.self.now.render (vector a.x a.y a.z) a.root (omega (arith, c.node_count.ensures, c.if-node_count-ge32768.true)); bounded = omega arith }

pub returns : goal.returns
returns c = let a = c.args in record { said = few_walked a.self.now.nodes.now a.self.now.planes.now a.self.now.render (vector a.x a.y a.z) a.root (omega (arith, c.node_count.ensures, c.if-node_count-ge32768.false)) _ c.walk_whole.ensures.said; bounded = c.walk_whole.ensures.bounded }
