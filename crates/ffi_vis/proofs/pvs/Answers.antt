-- `pvs` meets its contract: the count is given beside the list. Assumes nothing.
use native.Mathlib.Omega.{arith}
use Rattle.words.proofs.Giving.{counts, told_given}
use Rattle.ffi_vis.specs.Calls.{bsp_pvs}
use Rattle.ffi_vis.proofs.pvs.Goals as goal

pub returns : goal.returns
unfolding bsp_pvs
returns c = grind (arith, counts, told_given)

pub returns-then-map-lt-MAP_WORDS : goal.returns-then-map-lt-MAP_WORDS
unfolding bsp_pvs
returns-then-map-lt-MAP_WORDS c = grind arith
