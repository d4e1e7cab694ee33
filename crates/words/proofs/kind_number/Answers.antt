-- `kind_number` meets its contract: 3 is the number of a normal. Assumes nothing.
use native.Mathlib.Omega.{arith}
use Rattle.words.proofs.kind_number.Goals as goal

pub returns-in-Normal : goal.returns-in-Normal
returns-in-Normal c = grind arith
