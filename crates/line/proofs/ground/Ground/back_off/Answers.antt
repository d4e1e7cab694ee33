-- `line::ground::Ground::back_off` meets its contract. Assumes nothing.
use Prim.Native.Nat.{◌+◌, ◌-◌}
use native.Mathlib.Omega.{arith}
use mathlib.Core.Path.{◌≡◌, ap, ◌∙◌}
use mathlib.Core.Bool.{true, false}
use Rattle.line.specs.Line.{stopped}
use Rattle.line.proofs.States.{unlike}
use Rattle.line.proofs.Backs.{back_refused, back_open, back_ends, back_step}
use Rattle.line.proofs.ground.Ground.back_off.Goals.{then-ne-via-then-ne, then-ne-via-else-ne+then-not-next}
use Rattle.line.proofs.ground.Ground.back_off.Goals as goal
use Rattle.format.proofs.Answers.{handed_on}

pub returns-in_err-c : goal.returns-in_err-c
returns-in_err-c c = rw (handed_on c.from_residual.ensures.1) (back_refused _ _ _ _ _ _ (omega arith) c.point_at.ensures c.in_err-c.ensures ∙ c.loop.invariant)

pub returns-then-ne : goal.returns-then-ne
returns-then-ne c =
    ap stopped c.impact.ensures ∙ elim c.then-ne.branch [
      | then-ne-via-then-ne w ↦ back_open _ _ _ _ _ _ (omega arith) c.point_at.ensures c.in_ok-c.ensures (unlike _ _ c.ne.ensures false w.if-ne.true)
      | then-ne-via-else-ne+then-not-next w ↦ back_ends _ _ _ _ _ _ (omega arith) c.point_at.ensures c.in_ok-c.ensures (unlike _ _ c.ne.ensures true w.if-ne.false) w.if-not-next.true
    ] ∙ c.loop.invariant

pub loop-preserved : goal.loop-preserved
loop-preserved c =
    let left : 10 - (c.loop.counter + 1) ≡ 10 - c.loop.counter - 1 = omega arith in
    rw left (back_step _ _ _ _ _ _ (omega arith) c.point_at.ensures c.in_ok-c.ensures (unlike _ _ c.ne.ensures true c.if-ne.false) c.if-not-next.false ∙ c.loop.invariant)
