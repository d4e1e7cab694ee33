-- `count` meets its contract: a section that there is not, and the count of one. Assumes nothing.
use native.Mathlib.Omega.{arith}
use Rattle.ffi_counts.specs.Calls.{bsp_count}
use Rattle.ffi_counts.proofs.count.Goals as goal

pub returns-in-None : goal.returns-in-None
unfolding bsp_count
returns-in-None c = grind arith

pub returns-in-Some : goal.returns-in-Some
unfolding bsp_count
returns-in-Some c = grind arith
