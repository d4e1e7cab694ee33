-- `write_part` meets its contract: the row over both parts. Assumes nothing.
use Rattle.order.proofs.Laws.{row_placed}
use Rattle.order.proofs.+write_part.Goals as goal

pub returns : goal.returns
returns t c = row_placed _ _ _ _ _ _ c.if-word-ge32768.false c.if-levels-eq0.false _ c.read_words.ensures _ c.in-Ok.is _ c.on.ensures _ c.saturating_add.ensures _ c.write_part-front.ensures _ c.on-2.ensures _ c.write_part-back.ensures _ c.number_word-plane.ensures _ c.put_row.ensures _ c.number_word.ensures
