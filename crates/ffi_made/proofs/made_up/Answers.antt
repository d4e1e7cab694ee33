-- `made_up` meets its contract: the length is given beside the file. Assumes nothing.
use native.Mathlib.Omega.{arith}
use Rattle.words.proofs.Giving.{counts, told_given}
use Rattle.ffi_made.specs.Calls.{bsp_made_up}
use Rattle.ffi_made.proofs.made_up.Goals as goal

pub returns : goal.returns
unfolding bsp_made_up
returns c = grind (arith, counts, told_given)

pub returns-then-not-is_node_count : goal.returns-then-not-is_node_count
unfolding bsp_made_up
returns-then-not-is_node_count c = grind arith

pub returns-then-is_empty : goal.returns-then-is_empty
unfolding bsp_made_up
returns-then-is_empty c = grind arith
