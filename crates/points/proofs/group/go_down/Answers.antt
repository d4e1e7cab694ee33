-- `go_down` meets its contract. The loop's invariant (`Gone`): what is left to do before the present child is what there was to do at first, but for the reads made.
-- Assumes nothing.
use native.Mathlib.Omega.{arith}
use Prim.Native.Nat.{◌<◌}
use Rattle.points.proofs.Downward.{at_rest, may_enter, divided, ends_two, two_few, all_behind, all_in_front}
use Rattle.points.proofs.group.go_down.Goals.{In-Node}
use Rattle.points.proofs.group.go_down.Goals as goal

-- a level is left where a node was met
may : (c : In-Node) → 0 < c.loop-byte.more
may c = may_enter _ _ _ c.loop-byte.invariant _ c.meet_child.ensures c.in-Node.is

pub returns-in-Settled : goal.returns-in-Settled
returns-in-Settled c = at_rest _ _ _ c.loop-byte.invariant _ c.meet_child.ensures c.in-Settled.is c.settle.ensures

pub overflow_sub-more : goal.overflow_sub-more
overflow_sub-more c = may (goal.at.overflow_sub-more c).In-Node

pub loop-byte-smaller-then-front-eq0 : goal.loop-byte-smaller-then-front-eq0
loop-byte-smaller-then-front-eq0 c = omega (arith, may (goal.at.loop-byte-smaller-then-front-eq0 c).In-Node)

pub loop-byte-preserved-then-front-eq0 : goal.loop-byte-preserved-then-front-eq0
loop-byte-preserved-then-front-eq0 c = all_behind _ _ _ c.loop-byte.invariant _ c.meet_child.ensures c.in-Node.is c.divide-front.ensures _ c.divide-front.auto.aside c.if-front-eq0.true c.onto-at.ensures

pub overflow_add-result : goal.overflow_add-result
overflow_add-result c =
    let more = may (goal.at.overflow_add-result c).In-Node in
    let few = c.loop-byte.invariant.fewer in
    let fits = c.ranges.left.fits in
    omega (arith, two_few _ _ _ _ _ _ _ _ _ (omega (arith, more, few, fits)) c.if-ids-eq2.true c.settle_two-n.ensures, few, more, fits)

pub returns-then-ids-eq2 : goal.returns-then-ids-eq2
returns-then-ids-eq2 c = ends_two _ _ _ c.loop-byte.invariant _ c.meet_child.ensures c.in-Node.is c.divide-front.ensures (omega (arith, c.if-front-eq0.false)) c.if-front-ids.true c.if-ids-eq2.true c.settle_two-n.ensures

pub returns-then-front-ids : goal.returns-then-front-ids
returns-then-front-ids c = divided _ _ _ c.loop-byte.invariant _ c.meet_child.ensures c.in-Node.is c.divide-front.ensures (omega (arith, c.if-front-eq0.false)) c.if-front-ids.true

pub loop-byte-smaller : goal.loop-byte-smaller
loop-byte-smaller c = omega (arith, may (goal.at.loop-byte-smaller c).In-Node)

pub loop-byte-preserved : goal.loop-byte-preserved
loop-byte-preserved c = all_in_front _ _ _ c.loop-byte.invariant _ c.meet_child.ensures c.in-Node.is c.divide-front.ensures _ c.divide-front.auto.aside c.if-front-ids.false c.onto-at-else-front-ids.ensures
