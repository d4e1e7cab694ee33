-- `line::ground::Ground::descend` meets its contract. The loop's invariant: whatever is set before it, what becomes of the part at the present node,
-- with the calls left, is what becomes of it at the first one. Assumes nothing.
use native.Mathlib.Omega.{arith}
use mathlib.Core.Path.{ap, ◌∙◌}
use Rattle.line.specs.Line.{into_leaf}
use Rattle.nodes.specs.Fast as Fast
use Rattle.line.proofs.Seen.{opened, closed}
use Rattle.line.proofs.Lines.{line_closed, goes_on, in_end, crosses_here}
use Rattle.line.proofs.ground.Ground.descend.Goals as goal
use Rattle.format.proofs.Answers.{handed_on}

pub returns-in_err-w : goal.returns-in_err-w
returns-in_err-w c = rw (handed_on c.from_residual.ensures.1) (λ root l. line_closed root _ l (closed _ _ c.in_err-w.ensures) ∙ c.loop-w.invariant.1 root l _ _)

pub returns-then-front-b : goal.returns-then-front-b
returns-then-front-b c = crosses_here (opened c.in_ok-w.ensures) c.if-front-b.true c.loop-w.invariant.0 (λ root l. c.loop-w.invariant.1 root l _ _)

pub returns-then-word-ge32768 : goal.returns-then-word-ge32768
returns-then-word-ge32768 c root l =
    ap (into_leaf (Fast.table c.args.self.now.s.now c.args.self.now.t) l) c.in_ok-end_contents.ensures
    ∙ in_end root _ l (opened c.in_ok-w.ensures) c.if-front-b.false c.on-word.ensures c.if-word-ge32768.true ∙ c.loop-w.invariant.1 root l _ _

pub returns-in_err-end_contents : goal.returns-in_err-end_contents
returns-in_err-end_contents c = rw (handed_on c.from_residual-in_err-end_contents.ensures.1) (λ root l.
    ap (into_leaf (Fast.table c.args.self.now.s.now c.args.self.now.t) l) c.in_err-end_contents.ensures
    ∙ in_end root _ l (opened c.in_ok-w.ensures) c.if-front-b.false c.on-word.ensures c.if-word-ge32768.true ∙ c.loop-w.invariant.1 root l _ _)

pub loop-w-preserved : goal.loop-w-preserved
loop-w-preserved c =
    (omega (arith, c.loop-w.invariant.0), λ root l x y. goes_on root _ l (opened c.in_ok-w.ensures) c.if-front-b.false c.on-word.ensures c.if-word-ge32768.false ∙ c.loop-w.invariant.1 root l x y)
