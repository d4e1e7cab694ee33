-- `line::ground::Ground::follow` meets its contract. The loop's invariant: the line stands at a child, and the planes that wait are kept in the list;
-- the first end that it comes to says whether it is blocked or goes on, past them, to what becomes of it from where it stood first. Assumes nothing.
use native.Mathlib.Omega.{arith}
use mathlib.Core.Path.{refl, ◌∙◌}
use lib.ListN.{length-set}
use Rattle.line.specs.Private.{from_start}
use Rattle.line.proofs.Follows.{blank, kept_last, starts, is_stopped, push, pop, last, few_met}
use Rattle.line.proofs.ground.Ground.follow.Goals.{in-Crossing+else-n-eq0, in-Into+else-n-ge10}
use Rattle.line.proofs.ground.Ground.follow.Goals as goal

pub loop-init : goal.loop-init
loop-init c = let a = c.args in
    (omega arith, refl, c.tip.ensures.1, omega arith, omega arith, starts a.self.now.s.now a.self.now.t a.self.now.root (from_start a.root a.start a.end) c.tip-x.result c.tip.result c.tip.ensures (rw (c.tip-x.ensures.0, c.tip-x.ensures.1, c.tip.ensures.0, c.tip.ensures.1) refl))

pub returns-in-Blocked : goal.returns-in-Blocked
returns-in-Blocked c = let at = c.loop in
    let e = c.point_of.ensures ∙ at.invariant.2 in
    rw e (is_stopped c.args.end at.seen at.invariant.5 c.in_ok-one_turn.ensures c.in-Blocked.is)

pub returns-then-n-ge10 : goal.returns-then-n-ge10
returns-then-n-ge10 c = let at = c.loop in
    let e = c.point_of-then-n-ge10.ensures ∙ at.invariant.2 in
    rw e (last c.args.end at.seen at.marks at.n at.invariant.5 c.in_ok-one_turn.ensures c.in-Into.is blank (omega (arith, at.invariant.0, at.invariant.1, c.if-n-ge10.true)))

pub loop-preserved : goal.loop-preserved
loop-preserved c = let at = c.loop in
    let (room, len, tip, most, few, S) = at.invariant in
    let T = c.in_ok-one_turn.ensures in
    elim c.match-branch-2.branch [
      | in-Crossing+else-n-eq0 w ↦
          let next = push c.args.end at.seen at.marks at.n S T w.in-Crossing.is most (omega (arith, room, len)) (omega (arith, w.if-n-eq0.false)) w.waits.ensures at.x refl refl w.on-word.ensures in
          rw (w.marks-is, w.n-is, w.word-is, w.left-is, w.seen-is, w.x-is, w.looked-is) (omega (arith, room), length-set at.marks _ _ ∙ len, kept_last at.marks at.n w.waits.result (omega (arith, w.if-n-eq0.false)) room tip, next.0, few, next.1)
      | in-Into+else-n-ge10 w ↦
          let next = pop c.args.end at.seen at.marks at.n S T w.in-Into.is blank (omega (arith, len, w.if-n-ge10.false)) in
          rw (w.marks-is, w.n-is, w.word-is, w.left-is, w.seen-is, w.x-is, w.looked-is) (omega (arith, w.if-n-ge10.false), len, tip, next.0, few_met _ _ _ _ _ T w.in-Into.is, next.1)
    ]
