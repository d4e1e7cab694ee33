-- `hull_of_model` meets its contract: the words of the hull are given. Assumes nothing.
use native.Mathlib.Omega.{arith}
use Rattle.words.proofs.Giving.{told_given}
use Rattle.ffi_hull.specs.Calls.{bsp_hull}
use Rattle.ffi_hull.proofs.hull_of_model.Goals as goal

pub returns : goal.returns
unfolding bsp_hull
returns c = grind (arith, told_given)

pub returns-then-map-lt-MAP_WORDS : goal.returns-then-map-lt-MAP_WORDS
unfolding bsp_hull
returns-then-map-lt-MAP_WORDS c = grind arith
