-- `number_of` meets its contract: a first texture, and one after it. Assumes nothing.
use native.Mathlib.Omega.{arith}
use Rattle.format.proofs.Chain.{tests}
use Rattle.texture_numbers.proofs.number_of.Goals as goal

pub returns-then-first-index : goal.returns-then-first-index
returns-then-first-index c = grind (arith, tests)

pub returns : goal.returns
returns c = grind (arith, tests)
