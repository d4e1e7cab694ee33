-- `settle_all` meets its contract. The loop's invariant: filling in what is left gives what filling in all gives.
-- Assumes nothing.
use native.Mathlib.Omega.{arith}
use mathlib.Core.Path.{sym, ◌∙◌, ap}
use Rattle.ways.specs.Groups.{fill}
use Rattle.points.specs.Going.{members}
use Rattle.points.proofs.Bits.{filled_on, filled_none, cleared}
use Rattle.points.proofs.few.settle_all.Goals as goal

pub loop-rest-preserved : goal.loop-rest-preserved
loop-rest-preserved c =
    let l = c.loop-rest in
    ap (fill (λ q. c.args.byte) (members (cleared l.rest))) c.put.ensures ∙ sym (filled_on l.rest (omega (arith, c.loop-rest-test.true)) (omega (arith, l.auto.rest-fits)) (λ q. c.args.byte) l.out) ∙ l.invariant

pub returns : goal.returns
returns c = sym (filled_none (λ q. c.args.byte) c.loop-rest.out) ∙ sym (ap (λ x. fill (λ q. c.args.byte) (members x) c.loop-rest.out) c.loop-rest-test.false) ∙ c.loop-rest.invariant
