-- `is_invalid` meets its contract: the codes 1 to 5 are contents. Assumes nothing.
use Rattle.ordered.proofs.Laws.{low_is}
use Rattle.ordered.proofs.rows.is_invalid.Goals as goal

pub returns-then-word-ltminus5 : goal.returns-then-word-ltminus5
returns-then-word-ltminus5 c = low_is _ c.ranges.word c.if-word-ltminus5.true _ c.contents_of_negated_i32.ensures _ c.is_none.ensures
