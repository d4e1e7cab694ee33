-- `check_tree` meets its contract: what the tree check answers, whatever the marks hold. Assumes nothing.
use Rattle.accept.proofs.Ways.{whatever_marks}
use Rattle.accept.proofs.trees.check_tree.Goals as goal
use Rattle.format.proofs.Answers.{handed_on}

pub returns-in_err-tree_check : goal.returns-in_err-tree_check
returns-in_err-tree_check c =
    rw (handed_on c.from_residual.ensures.1) (whatever_marks _ _ _ _ _ _ c.requires _ c.in_err-tree_check.ensures)

pub returns : goal.returns
returns c = whatever_marks _ _ _ _ _ _ c.requires _ c.in_ok-tree_check.ensures
