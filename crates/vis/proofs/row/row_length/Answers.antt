-- `row_length` meets its contract. The loop's invariant: the leaves counted and those of the row from here on make the row's length.
-- Assumes nothing.
use Rattle.std.proofs.Common.{rules, arith}
use Rattle.vis.proofs.SetBits.{all_kept}
use Rattle.vis.proofs.Passes.{count_done, count_byte}
use Rattle.vis.proofs.row.row_length.Goals as goal

pub returns-then-leaf_count-leaf-lt8 : goal.returns-then-leaf_count-leaf-lt8
returns-then-leaf_count-leaf-lt8 c = count_done _ _ _ _ _ _
    (count_byte _ _ _ _ _ _ c.loop-leaf.invariant c.loop-leaf-test.true c.if-visibility-at.false c.if-byte-ne0.true (search rules) _ _
    c.kept_bits-last.ensures c.set_bits.ensures)
    (omega (arith, c.if-leaf_count-leaf-lt8.true))

pub loop-leaf-preserved-then-byte-ne0 : goal.loop-leaf-preserved-then-byte-ne0
loop-leaf-preserved-then-byte-ne0 c = count_byte _ _ _ _ _ _ c.loop-leaf.invariant c.loop-leaf-test.true c.if-visibility-at.false c.if-byte-ne0.true (search rules) _ _
    (all_kept _ _ (search rules) c.if-leaf_count-leaf-lt8.false) c.set_bits-then-byte-ne0.ensures
