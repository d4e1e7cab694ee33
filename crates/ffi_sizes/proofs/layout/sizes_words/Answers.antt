-- `sizes_words` meets its contract: the words stand in their order. Assumes nothing.
use native.Mathlib.Omega.{arith}
use Rattle.ffi_sizes.proofs.layout.sizes_words.Goals as goal

pub returns : goal.returns
returns c = grind arith
