-- `put_row` meets its contract. The loop's invariant: the leaves written, and those of the row from here on, are the row's. Assumes nothing.
use Rattle.std.proofs.Common.{refl, arith, ◌∙◌}
use Rattle.vis.proofs.Passes.{some_byte, room_past, write_byte}
use Rattle.vis.proofs.row.put_row.Goals as goal

pub put_bits-count-requires : goal.put_bits-count-requires
put_bits-count-requires c = let l = c.loop-first in (
  room_past _ _ _ _ _ _ _ l.invariant.1 c.loop-first-test.true c.if-byte-ne0.true _ refl,
  omega (arith, some_byte _ _ _ _ _ _ _ l.invariant.1 c.loop-first-test.true, l.invariant.1.small, c.requires.0),
)

pub loop-first-preserved-then-byte-ne0 : goal.loop-first-preserved-then-byte-ne0
loop-first-preserved-then-byte-ne0 c = let l = c.loop-first in
    let kept = c.put_bits-count.auto.list in
    let e = c.put_bits-count.ensures in
    (kept ∙ l.invariant.0, write_byte _ _ _ _ _ _ _ l.invariant.1 c.loop-first-test.true c.if-byte-ne0.true _ _ _ refl kept e.0 e.1)
