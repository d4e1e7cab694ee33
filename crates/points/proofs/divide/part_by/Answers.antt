-- `part_by` meets its contract. The loop's invariant: of the points passed, those in front stand at the front of the list and the others aside, each in their order; the points to come are as they were.
-- Assumes nothing.
use Rattle.std.proofs.Common.{arith}
use mathlib.Core.Logic.{inl, inr}
use Rattle.points.proofs.Lists.{parted_next}
use Rattle.points.proofs.divide.part_by.Goals.{then-goes_front, else-goes_front}
use Rattle.points.proofs.divide.part_by.Goals as goal

pub loop-i-preserved : goal.loop-i-preserved
loop-i-preserved g c =
    let l = c.loop-i in
    elim c.if-goes_front.branch [
      | then-goes_front w ↦ (
        omega (arith, w.front-is, l.invariant.0),
        λ f h. parted_next f _ l.ids l.aside l.front l.i (l.invariant.1 f h) (omega (arith, l.auto.ids)) (omega (arith, l.auto.aside, l.auto.ids, c.requires.room)) _ (h _ _ c.goes_front.ensures)
            _ (inl (w.if-goes_front.true, w.front-is)),
      )
      | else-goes_front w ↦ (
        omega (arith, w.front-is, l.invariant.0),
        λ f h. parted_next f _ l.ids l.aside l.front l.i (l.invariant.1 f h) (omega (arith, l.auto.ids)) (omega (arith, l.auto.aside, l.auto.ids, c.requires.room)) _ (h _ _ c.goes_front.ensures)
            _ (inr (w.if-goes_front.false, w.front-is)),
      )
    ]
