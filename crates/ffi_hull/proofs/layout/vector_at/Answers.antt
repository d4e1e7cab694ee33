-- `vector_at` meets its contract: the three words stand one after the other. Assumes nothing.
use native.Mathlib.Omega.{arith}
use Rattle.ffi_hull.proofs.layout.vector_at.Goals as goal

pub returns : goal.returns
returns c = grind arith
