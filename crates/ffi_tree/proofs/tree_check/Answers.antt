-- `tree_check` meets its contract: the number of nodes is given. Assumes nothing.
use native.Mathlib.Omega.{arith}
use Rattle.words.proofs.Giving.{told_given}
use Rattle.ffi_tree.specs.Calls.{bsp_tree_check}
use Rattle.ffi_tree.proofs.tree_check.Goals as goal

pub returns-in-None : goal.returns-in-None
unfolding bsp_tree_check
returns-in-None c = grind (arith, told_given)

pub returns-in-Some : goal.returns-in-Some
unfolding bsp_tree_check
returns-in-Some c = grind (arith, told_given)
