-- `float_of` meets its contract: the word's low 32 bits are the float's. Assumes nothing.
use native.Mathlib.Omega.{arith}
use Rattle.ffi_hull.proofs.layout.float_of.Goals as goal

pub returns : goal.returns
returns c = grind arith
