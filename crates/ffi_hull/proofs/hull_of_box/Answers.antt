-- `hull_of_box` meets its contract: the words of the hull are given. Assumes nothing.
use native.Mathlib.Omega.{arith}
use Rattle.words.proofs.Giving.{told_given}
use Rattle.ffi_hull.specs.Calls.{bsp_box}
use Rattle.ffi_hull.proofs.hull_of_box.Goals as goal

pub returns : goal.returns
unfolding bsp_box
returns c = grind (arith, told_given)

pub returns-then-bounds-lt6 : goal.returns-then-bounds-lt6
unfolding bsp_box
returns-then-bounds-lt6 c = grind arith
