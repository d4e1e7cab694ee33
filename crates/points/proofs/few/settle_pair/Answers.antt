-- `settle_pair` meets its contract.
-- Assumes nothing.
use native.Mathlib.Omega.{arith}
use Rattle.points.proofs.Pairs.{together_none, pair_few, pair_rests, pair_enters, pair_more, pair_on, pair_first, pair_second}
use Rattle.points.proofs.few.settle_pair.Goals as goal

pub loop-byte-init : goal.loop-byte-init
loop-byte-init c = let a = c.args in together_none a.g.now.s.now a.g.now.t a.g.now.coords.now a.first a.second

pub returns-in-Settled : goal.returns-in-Settled
returns-in-Settled c = pair_rests _ _ _ _ _ c.loop-byte.invariant _ c.meet.ensures c.in-Settled.is _ _ c.put.ensures c.put-in-Settled.ensures

pub overflow_sub-more : goal.overflow_sub-more
overflow_sub-more c = pair_enters _ _ _ _ _ c.loop-byte.invariant _ c.meet.ensures c.in-Node.is

pub overflow_add-reads : goal.overflow_add-reads
overflow_add-reads c = omega (arith, pair_more _ _ _ _ _ c.loop-byte.invariant _ c.meet.ensures c.in-Node.is (omega (arith, c.ranges.left.fits)))

pub loop-byte-smaller : goal.loop-byte-smaller
loop-byte-smaller c = omega (arith, pair_enters _ _ _ _ _ c.loop-byte.invariant _ c.meet.ensures c.in-Node.is)

pub loop-byte-preserved : goal.loop-byte-preserved
loop-byte-preserved c =
    let e = c.two_sides-a.ensures in
    pair_on _ _ _ _ _ c.loop-byte.invariant _ c.meet.ensures c.in-Node.is _ _ c.point_at-p.ensures c.point_at-q.ensures c.two_sides-a.result.0 c.two_sides-a.result.1 e.first e.second c.if-a-b.true c.onto-at.ensures

pub overflow_add-result : goal.overflow_add-result
overflow_add-result c =
    let e = c.two_sides-a.ensures in
    let a = c.args in
    omega (arith, pair_few _ _ _ _ _ a.left a.child (pair_first _ _ _ _ _ c.loop-byte.invariant _ c.meet.ensures c.in-Node.is _ _ c.point_at-p.ensures c.point_at-q.ensures c.two_sides-a.result.0 c.two_sides-a.result.1 e.first e.second c.if-a-b.false c.if-a.true c.settle_both.ensures) (omega (arith, c.ranges.left.fits)))

pub returns-then-a : goal.returns-then-a
returns-then-a c =
    let e = c.two_sides-a.ensures in
    pair_first _ _ _ _ _ c.loop-byte.invariant _ c.meet.ensures c.in-Node.is _ _ c.point_at-p.ensures c.point_at-q.ensures c.two_sides-a.result.0 c.two_sides-a.result.1 e.first e.second c.if-a-b.false c.if-a.true c.settle_both.ensures

pub overflow_add-result-else-a : goal.overflow_add-result-else-a
overflow_add-result-else-a c =
    let e = c.two_sides-a.ensures in
    let a = c.args in
    omega (arith, pair_few _ _ _ _ _ a.left a.child (pair_second _ _ _ _ _ c.loop-byte.invariant _ c.meet.ensures c.in-Node.is _ _ c.point_at-p.ensures c.point_at-q.ensures c.two_sides-a.result.0 c.two_sides-a.result.1 e.first e.second c.if-a-b.false c.if-a.false c.settle_both-else-a.ensures) (omega (arith, c.ranges.left.fits)))

pub returns-else-a : goal.returns-else-a
returns-else-a c =
    let e = c.two_sides-a.ensures in
    pair_second _ _ _ _ _ c.loop-byte.invariant _ c.meet.ensures c.in-Node.is _ _ c.point_at-p.ensures c.point_at-q.ensures c.two_sides-a.result.0 c.two_sides-a.result.1 e.first e.second c.if-a-b.false c.if-a.false c.settle_both-else-a.ensures

pub settle_both-requires : goal.settle_both-requires
settle_both-requires c = (c.requires, (c.point_at-p.ensures, c.point_at-q.ensures))
