-- `go_alone` meets its contract.
-- Assumes nothing.
use Rattle.nodes.specs.Fast.{point_of}
use Rattle.nodes.proofs.Beside.{along_first, along_stops, along_on, along_ends}
use Rattle.nodes.proofs.whole.Sections.go_alone.Goals as goal

pub loop-at-init : goal.loop-at-init
loop-at-init c = let a = c.args in along_first a.self.now.nodes.now a.self.now.planes.now a.self.now.render a.count (point_of a.point.now) a.word a.visits c.requires.0 c.requires.1.0

pub returns-then-next-ge65536 : goal.returns-then-next-ge65536
returns-then-next-ge65536 c = along_stops _ _ _ _ _ _ _ _ _ c.loop-at.invariant _ c.step-next.ensures.said c.if-next-ge65536.true

pub loop-at-preserved : goal.loop-at-preserved
loop-at-preserved c = along_on _ _ _ _ _ _ _ _ _ c.loop-at.invariant _ c.step-next.ensures.said c.loop-at-test.true c.if-next-ge65536.false (c.step-next.ensures.may c.loop-at-test.true c.if-next-ge65536.false)

pub lane_at-requires : goal.lane_at-requires
lane_at-requires c = c.loop-at.invariant.one

pub returns : goal.returns
returns c = rw c.lane_at.ensures (along_ends _ _ _ _ _ _ _ _ _ c.loop-at.invariant c.loop-at-test.false)
