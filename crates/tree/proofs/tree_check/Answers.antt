-- `tree::tree_check` meets its contract: it is `tree_size` without the number of nodes. Assumes nothing.
use Rattle.tree.proofs.Laws.{without_size}
use Rattle.tree.proofs.tree_check.Goals as goal
use Rattle.format.proofs.Answers.{handed_on}

pub returns : goal.returns
returns c = without_size _ _ _ _ _ c.in_ok-height.ensures

pub returns-in_err-height : goal.returns-in_err-height
returns-in_err-height c = rw (handed_on c.from_residual.ensures.1) (without_size _ _ _ _ _ c.in_err-height.ensures)
