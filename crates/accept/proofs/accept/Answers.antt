-- `accept` meets its contract: with marks enough, the first ones are lent and cleared, and the others stay as they were. Assumes nothing.
use Rattle.std.proofs.Common.{ap, ◌∙◌}
use Prim.Native.Nat.{ℕ}
use lib.ListN.{replicate}
use lib.Seq.{length-take-le}
use Rattle.accept.proofs.Ways.{too_few, both, enough}
use Rattle.accept.proofs.accept.Goals as goal

pub returns-then-marks-count : goal.returns-then-marks-count
returns-then-marks-count c = let a = c.args in too_few a.file.now a.map a.marks.now _ c.marks_for-count.ensures c.if-marks-count.true

pub returns : goal.returns
returns c = let a = c.args in
    let many = c.marks_for-count.ensures in
    let long = c.check_map-answer.auto.marks ∙ length-take-le _ a.marks.now c.if-marks-count.false ∙ many in
    enough a.file.now a.map a.marks.now _ many c.if-marks-count.false _ _ (both c.check_map-answer.ensures (c.fill.ensures.after (λ y e. e) ∙ ap (λ (n : ℕ). replicate n 0) long))
