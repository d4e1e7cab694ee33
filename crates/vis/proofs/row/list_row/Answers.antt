-- `list_row` meets its contract: the table that `row_length` asks for, and a list that is too short. Assumes nothing.
use Rattle.std.proofs.Common.{refl}
use lib.Count.{ones_in}
use Rattle.vis.specs.Counts.{counts}
use Rattle.vis.proofs.Lists.{row_short}
use Rattle.vis.proofs.row.list_row.Goals as goal

-- antt computes the numbers of set bits of the 256 bytes and finds the entries of the code's table to be these
pub row_length-requires : goal.row_length-requires
unfolding counts ones_in
row_length-requires c = (refl, c.requires, c.if-visibility-offset.false)

pub returns-then-list-count : goal.returns-then-list-count
returns-then-list-count c = row_short _ _ _ _ c.if-visibility-offset.false _ c.in_ok-count.ensures c.if-list-count.true
