-- The proof of the cycle of calls {child, line_from}: each way through a turn of the loop says what becomes of the line. Assumes nothing.
use Prim.Native.Nat.{ℕ}
use native.Mathlib.Omega.{arith}
use mathlib.Core.Path.{ap, ◌∙◌}
use Rattle.nodes.specs.Fast as Fast
use Rattle.line.specs.Line.{onward, line_from}
use Rattle.line.specs.Private.{Crossed}
use Rattle.line.proofs.Lines.{child_line, child_met, far_fails, far_ends, far_goes}
use Rattle.line.proofs.ground.Ground.+child_line_from.Goals.{line_from-In-Crossing}
use Rattle.line.proofs.ground.Ground.+child_line_from.Goals as goal
use Rattle.format.proofs.Answers.{handed_on}

-- the way down came to a crossing
at_crossing : (t : ℕ) (c : line_from-In-Crossing t) →
    let x = c.in-Crossing in
    Crossed c.args.self.now.s.now c.args.self.now.t c.loop-c.left c.loop-c.part x.w x.a x.b x.below (λ root l. line_from (Fast.table c.args.self.now.s.now c.args.self.now.t) root c.loop-c.left c.loop-c.node c.loop-c.part l)
at_crossing t c = rw c.in-Crossing.is at c.in_ok-c.ensures

pub child-returns-then-word-lt32768 : goal.child-returns-then-word-lt32768
child-returns-then-word-lt32768 t c =
    c.line_from.ensures ∙ child_line _ _ _ _ _ _ _ _ c.on-word.ensures c.if-word-lt32768.true c.near_part-near.ensures

pub child-returns-in_err-c : goal.child-returns-in_err-c
child-returns-in_err-c t c = rw (handed_on c.from_residual.ensures.1) (child_met _ _ _ _ _ _ _ _ c.on-word.ensures c.if-word-lt32768.false c.in_err-c.ensures)

pub child-returns : goal.child-returns
child-returns t c = ap onward c.into_leaf.ensures ∙ child_met _ _ _ _ _ _ _ _ c.on-word.ensures c.if-word-lt32768.false c.in_ok-c.ensures

pub line_from-returns-in_err-c : goal.line_from-returns-in_err-c
line_from-returns-in_err-c t c = rw (handed_on c.from_residual.ensures.1) (c.in_err-c.ensures _ _ ∙ c.loop-c.invariant.1)

pub line_from-returns-in-Leaf : goal.line_from-returns-in-Leaf
line_from-returns-in-Leaf t c = ap onward c.into_leaf.ensures ∙ (rw c.in-Leaf.is at c.in_ok-c.ensures) _ _ ∙ c.loop-c.invariant.1

pub line_from-returns-in_err-r-in-Crossing : goal.line_from-returns-in_err-r-in-Crossing
line_from-returns-in_err-r-in-Crossing t c =
    let x = at_crossing t (goal.at.line_from-returns-in_err-r-in-Crossing t c).In-Crossing in
    rw (handed_on c.from_residual-in_err-r-in-Crossing.ensures.1) (far_fails c.args.self.now _ x c.crossing-k.ensures c.in_ok-near-in-Crossing.ensures c.in-On.is _ c.in_err-r-in-Crossing.ensures ∙ c.loop-c.invariant.1)

pub line_from-returns-in-Ended : goal.line_from-returns-in-Ended
line_from-returns-in-Ended t c =
    let x = at_crossing t (goal.at.line_from-returns-in-Ended t c).In-Crossing in
    far_ends c.args.self.now _ x c.crossing-k.ensures c.in_ok-near-in-Crossing.ensures c.in-On.is c.in_ok-r-in-Crossing.ensures c.in-Ended.is ∙ c.loop-c.invariant.1

pub line_from-loop-c-preserved : goal.line_from-loop-c-preserved
line_from-loop-c-preserved t c =
    let x = at_crossing t (goal.at.line_from-loop-c-preserved t c).In-Crossing in (
      omega (arith, x.falls, c.loop-c.invariant.0),
      far_goes c.args.self.now _ x c.crossing-k.ensures c.in_ok-near-in-Crossing.ensures c.in-On.is c.in_ok-r-in-Crossing.ensures c.in-Node.is c.far_part-part.ensures ∙ c.loop-c.invariant.1,
    )
