-- `settle` meets its contract. The loop's invariant (`Left`): what is left to do of the group's points is what there was to do, but for the reads made.
-- Assumes nothing.
use Prim.Native.Nat.{ℕ, ◌<◌}
use native.Mathlib.Omega.{arith}
use mathlib.Core.List.{[], ◌∷◌}
use mathlib.Core.Path.{sym, ◌∙◌, ap}
use Rattle.nodes.specs.Fast.{plane_here}
use Rattle.ways.specs.Groups.{in_front}
use Rattle.points.specs.Going.{first, point_at}
use Rattle.points.proofs.Bits.{chosen_most}
use Rattle.points.proofs.Fewer.{few_settled, settled_left, at_rest, may_enter, few_more, few_front, front_settled, none_in_front, all_in_front}
use Rattle.points.proofs.few.+settle.Goals.{In-Node}
use Rattle.points.proofs.few.+settle.Goals as goal

-- a node is left to enter where one was met
may : (t : ℕ) (c : In-Node t) → 0 < c.loop-out.more
may t c = may_enter _ _ _ c.loop-out.invariant _ c.meet.ensures c.in-Node.is

pub overflow_add-result : goal.overflow_add-result
overflow_add-result t c =
    let one = c.is_one.ensures c.if-is_one.true ∙ sym (ap (λ q. q ∷ []) c.first.ensures) in
    omega (arith, few_settled _ _ _ c.args.left c.args.child c.args.ids (settled_left _ _ _ c.loop-out.invariant one c.settle_alone.ensures) (omega (arith, c.ranges.left.fits)))

pub overflow_add-result-then-is_two : goal.overflow_add-result-then-is_two
overflow_add-result-then-is_two t c =
    let two = c.is_two.ensures c.if-is_two.true ∙ sym (ap (λ q. q ∷ c.second.result ∷ []) c.first-then-is_two.ensures ∙ ap (λ q. first c.loop-out.rest ∷ q ∷ []) c.second.ensures) in
    omega (arith, few_settled _ _ _ c.args.left c.args.child c.args.ids (settled_left _ _ _ c.loop-out.invariant two c.settle_pair.ensures) (omega (arith, c.ranges.left.fits)))

pub returns-in-Settled : goal.returns-in-Settled
returns-in-Settled t c = at_rest _ _ _ c.loop-out.invariant _ c.meet.ensures c.in-Settled.is c.settle_all.ensures

pub overflow_sub-back : goal.overflow_sub-back
overflow_sub-back t c = omega (arith, c.fronts-front.ensures, chosen_most (in_front (point_at c.args.g.now.coords.now) (plane_here c.in-Node.plane.now 0)) 64 0 c.loop-out.rest)

pub overflow_sub-more : goal.overflow_sub-more
overflow_sub-more t c = may t (goal.at.overflow_sub-more t c).In-Node

pub overflow_add-reads : goal.overflow_add-reads
overflow_add-reads t c = omega (arith, few_more _ _ _ c.loop-out.invariant _ c.meet.ensures c.in-Node.is c.fronts-front.ensures (omega (arith, c.ranges.left.fits)))

pub loop-out-smaller-then-front-eq0 : goal.loop-out-smaller-then-front-eq0
loop-out-smaller-then-front-eq0 t c = omega (arith, may t (goal.at.loop-out-smaller-then-front-eq0 t c).In-Node)

pub loop-out-preserved-then-front-eq0 : goal.loop-out-preserved-then-front-eq0
loop-out-preserved-then-front-eq0 t c = none_in_front _ _ _ c.loop-out.invariant _ c.meet.ensures c.in-Node.is c.fronts-front.ensures c.if-front-eq0.true c.onto-at.ensures

pub loop-out-smaller-then-back-eq0 : goal.loop-out-smaller-then-back-eq0
loop-out-smaller-then-back-eq0 t c = omega (arith, may t (goal.at.loop-out-smaller-then-back-eq0 t c).In-Node)

pub loop-out-preserved-then-back-eq0 : goal.loop-out-preserved-then-back-eq0
loop-out-preserved-then-back-eq0 t c =
    let most = chosen_most (in_front (point_at c.args.g.now.coords.now) (plane_here c.in-Node.plane.now 0)) 64 0 c.loop-out.rest in
    all_in_front _ _ _ c.loop-out.invariant _ c.meet.ensures c.in-Node.is c.fronts-front.ensures c.if-back-eq0.true (omega (arith, c.fronts-front.ensures, most)) c.onto-at-then-back-eq0.ensures

pub settle-reads-requires : goal.settle-reads-requires
settle-reads-requires t c =
    let more = may t (goal.at.settle-reads-requires t c).In-Node in
    (omega (arith, more, c.loop-out.invariant.fewer, c.decreases), (c.requires.0, omega (arith, c.if-front-eq0.false)))

pub overflow_add-reads-else-back-eq0 : goal.overflow_add-reads-else-back-eq0
overflow_add-reads-else-back-eq0 t c =
    omega (arith, few_front _ _ _ c.loop-out.invariant _ c.meet.ensures c.in-Node.is c.fronts-front.ensures c.onto.ensures c.settle-reads.ensures (omega (arith, c.ranges.left.fits)))

pub loop-out-smaller : goal.loop-out-smaller
loop-out-smaller t c = omega (arith, may t (goal.at.loop-out-smaller t c).In-Node)

pub loop-out-preserved : goal.loop-out-preserved
loop-out-preserved t c =
    front_settled _ _ _ c.loop-out.invariant _ c.meet.ensures c.in-Node.is c.fronts-front.ensures (omega (arith, c.if-back-eq0.false)) c.onto.ensures c.settle-reads.ensures c.onto-at-else-back-eq0.ensures
