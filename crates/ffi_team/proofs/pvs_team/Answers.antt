-- `pvs_team` meets its contract: the count is given beside the list. Assumes nothing.
use native.Mathlib.Omega.{arith}
use Rattle.words.proofs.Giving.{counts, told_given}
use Rattle.ffi_team.specs.Calls.{bsp_pvs_team}
use Rattle.ffi_team.proofs.pvs_team.Goals as goal

pub returns : goal.returns
unfolding bsp_pvs_team
returns c = grind (arith, counts, told_given)

pub returns-then-map-lt-MAP_WORDS : goal.returns-then-map-lt-MAP_WORDS
unfolding bsp_pvs_team
returns-then-map-lt-MAP_WORDS c = grind arith
