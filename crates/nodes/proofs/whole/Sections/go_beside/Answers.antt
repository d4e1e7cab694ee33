-- `go_beside` meets its contract.
-- Assumes nothing.
use Rattle.std.proofs.Common.{sym, ◌∙◌, arith}
use Rattle.nodes.specs.Fast.{point_of}
use Rattle.nodes.proofs.Beside.{beside_first, stops_first, stops_second, beside_on, both_nodes}
use Rattle.nodes.proofs.whole.Sections.go_beside.Goals as goal

pub loop-c-init : goal.loop-c-init
loop-c-init c = let a = c.args in beside_first a.self.now.nodes.now a.self.now.planes.now a.self.now.render a.count (point_of a.one.now) (point_of a.other.now) a.first a.second (omega (arith, c.ranges)) (omega (arith, c.ranges))

pub step-c-requires : goal.step-c-requires
step-c-requires c = (c.loop-c.invariant.one, c.requires)

pub step-d-requires : goal.step-d-requires
step-d-requires c = (c.loop-c.invariant.other, c.requires)

pub returns-then-c-ge65536 : goal.returns-then-c-ge65536
returns-then-c-ge65536 c = stops_first _ _ _ _ _ _ _ _ _ _ _ _ c.loop-c.invariant _ c.step-c.ensures.said c.if-c-ge65536.true

pub returns-then-d-ge65536 : goal.returns-then-d-ge65536
returns-then-d-ge65536 c = stops_second _ _ _ _ _ _ _ _ _ _ _ _ c.loop-c.invariant _ _ c.step-c.ensures.said c.step-d.ensures.said c.if-d-ge65536.true

pub loop-c-preserved : goal.loop-c-preserved
loop-c-preserved c =
    let e = both_nodes _ _ (sym c.both_go.ensures ∙ c.loop-c-test.true) in
    let i = c.if-c-ge65536.false in
    let j = c.if-d-ge65536.false in
    beside_on _ _ _ _ _ _ _ _ _ _ _ _ c.loop-c.invariant _ _ c.step-c.ensures.said c.step-d.ensures.said e.0 e.1 i j (c.step-c.ensures.may e.0 i) (c.step-d.ensures.may e.1 j)

pub overflow_add-visits : goal.overflow_add-visits
overflow_add-visits c = let e = both_nodes _ _ (sym c.both_go.ensures ∙ c.loop-c-test.true) in omega (arith, c.step-c.ensures.may e.0 c.if-c-ge65536.false, c.ranges.count.fits)

pub loop-c-smaller : goal.loop-c-smaller
loop-c-smaller c = let e = both_nodes _ _ (sym c.both_go.ensures ∙ c.loop-c-test.true) in omega (arith, c.step-c.ensures.may e.0 c.if-c-ge65536.false)
