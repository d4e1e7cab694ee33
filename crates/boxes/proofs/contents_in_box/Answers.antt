-- `boxes::contents_in_box` meets its contract: the bounds, the tree check, then the way down. Assumes nothing.
use Rattle.std.proofs.Common.{sym, ◌∙◌}
use Rattle.boxes.proofs.Laws.{opened, passed_box}
use Rattle.boxes.proofs.contents_in_box.Goals as goal
use Rattle.format.proofs.Answers.{handed_on}

pub returns-in_err-tree_check : goal.returns-in_err-tree_check
returns-in_err-tree_check c =
    rw (handed_on c.from_residual.ensures.1) (opened _ _ _ _ _ _ _ _ _ (sym c.is_box.ensures ∙ c.if-not-is_box.false) c.in_err-tree_check.ensures)

pub returns : goal.returns
returns c = passed_box _ _ _ _ _ _ _ _ _ (sym c.is_box.ensures ∙ c.if-not-is_box.false) c.in_ok-tree_check.ensures c.tables_of-t.ensures c.box_node.ensures
