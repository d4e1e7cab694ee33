-- `row_of` meets its contract. Assumes nothing.
use Rattle.ordered.proofs.Laws.{row_is}
use Rattle.ordered.proofs.rows.row_of.Goals as goal

pub returns : goal.returns
returns c = row_is c.args.plane c.args.front c.args.back c.ranges.plane c.ranges.front c.ranges.back c.if-plane-lt0.false _ c.is_invalid.ensures c.if-is_invalid.false _ c.is_invalid-else-is_invalid.ensures c.if-is_invalid-2.false _ _ _ c.cast_unsigned.ensures c.cast_unsigned-2.ensures c.cast_unsigned-3.ensures
