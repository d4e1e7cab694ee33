-- `go_on` meets its contract. The loop's invariant: what is left of the walk is the walk from the present node, which may enter as many
-- nodes as are left.
-- Assumes nothing.
use Rattle.std.proofs.Common.{arith}
use Rattle.nodes.specs.Fast.{point_of}
use Rattle.nodes.proofs.Quicks.{from_node, spent, refused_here, on_to, stops}
use Rattle.nodes.proofs.whole.Sections.go_on.Goals as goal

pub returns-in_default : goal.returns-in_default
returns-in_default c = let a = c.args in record { said = refused_here a.self.now.nodes.now a.self.now.planes.now a.self.now.render (point_of a.point.now) (from_node a.from a.before (point_of a.point.now)) c.loop-visits.node c.loop-visits.visits c.loop-visits.invariant.2 c.loop-visits.invariant.0 (omega (arith, c.node_count-count.ensures)) c.found_at.result c.found_at.ensures _ c.in_default.is; bounded = omega arith }

pub returns-then-count-word : goal.returns-then-count-word
returns-then-count-word c = let a = c.args in record { said = stops a.self.now.nodes.now a.self.now.planes.now a.self.now.render (point_of a.point.now) (from_node a.from a.before (point_of a.point.now)) c.loop-visits.node c.loop-visits.visits c.loop-visits.invariant.2 c.loop-visits.invariant.0 (omega (arith, c.node_count-count.ensures)) c.found_at.result c.found_at.ensures _ _ c.in-Ok.is _ c.word_ahead-word.ensures (omega (arith, c.requires, c.node_count-count.ensures)) (omega (arith, c.if-count-word.true, c.node_count-count.ensures)) _ c.stopped.ensures.said; bounded = c.stopped.ensures.bounded }

pub loop-visits-preserved : goal.loop-visits-preserved
loop-visits-preserved c = let a = c.args in (omega (arith, c.if-count-word.false, c.node_count-count.ensures), omega (arith, c.node_count-count.ensures), on_to a.self.now.nodes.now a.self.now.planes.now a.self.now.render (point_of a.point.now) (from_node a.from a.before (point_of a.point.now)) c.loop-visits.node c.loop-visits.visits c.loop-visits.invariant.2 c.loop-visits.invariant.0 (omega (arith, c.node_count-count.ensures)) c.found_at.result c.found_at.ensures _ _ c.in-Ok.is _ c.word_ahead-word.ensures (omega (arith, c.if-count-word.false, c.requires, c.node_count-count.ensures)))

pub returns : goal.returns
returns c = let a = c.args in record { said = spent a.self.now.nodes.now a.self.now.planes.now a.self.now.render (point_of a.point.now) (from_node a.from a.before (point_of a.point.now)) c.loop-visits.node c.loop-visits.visits c.loop-visits.invariant.2 c.loop-visits.invariant.0 (omega (arith, c.node_count-count.ensures)); bounded = omega arith }
