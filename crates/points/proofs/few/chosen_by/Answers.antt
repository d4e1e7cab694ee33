-- `chosen_by` meets its contract. The loop's invariant: the points chosen so far and those to be chosen of the rest are those to be chosen of all.
-- Assumes nothing.
use native.Mathlib.Omega.{arith}
use mathlib.Core.Path.{ap}
use Rattle.points.specs.Going.{chosen}
use Rattle.points.proofs.Bits.{bit_most, chosen_on, chosen_none}
use Rattle.points.proofs.few.chosen_by.Goals as goal

pub overflow_add-front : goal.overflow_add-front
overflow_add-front g c =
    let l = c.loop-rest in
    omega (arith, bit_most l.rest (omega (arith, c.loop-rest-test.true)) (omega (arith, l.auto.rest-fits)) c.goes_front.result, l.invariant.0, c.ranges.ids.fits)

pub loop-rest-preserved : goal.loop-rest-preserved
loop-rest-preserved g c =
    let l = c.loop-rest in (
      omega (arith, bit_most l.rest (omega (arith, c.loop-rest-test.true)) (omega (arith, l.auto.rest-fits)) c.goes_front.result, l.invariant.0),
      λ f h.
          omega (arith, chosen_on l.rest (omega (arith, c.loop-rest-test.true)) (omega (arith, l.auto.rest-fits)) f c.goes_front.result (h _ _ c.goes_front.ensures), l.invariant.1 f h),
    )

pub returns : goal.returns
returns g c = λ f h. omega (arith, c.loop-rest.invariant.1 f h, ap (chosen f) c.loop-rest-test.false, chosen_none f 64 0)
