-- `check_trees` meets its contract: zeros remember no root, and the marks are enough. Assumes nothing.
use Rattle.accept.proofs.Ways.{none_yet}
use Rattle.accept.proofs.trees.check_trees.Goals as goal

pub invariant_of-trees : goal.invariant_of-trees
invariant_of-trees c = record { marks = c.requires; render = none_yet _ _ _ 32768; clip = none_yet _ _ _ 32768 }
