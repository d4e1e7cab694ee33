-- `tree::tree_size` meets its contract: with marks enough, the first ones are lent to `check_cleared` and the others stay as they were.
-- Assumes nothing.
use Rattle.tree.proofs.Laws.{marks_enough}
use Rattle.tree.proofs.tree_size.Goals as goal

pub returns : goal.returns
returns c = marks_enough c.args.file.now c.args.map c.args.table _ _ _ c.tables_of-tables.ensures c.args.marks.now c.args.root c.if-marks-count.false
    _ _ c.check_cleared.ensures
