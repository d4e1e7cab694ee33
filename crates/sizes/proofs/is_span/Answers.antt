-- `is_span` meets its contract: both finite, and the minimum below the maximum. Assumes nothing.
use native.Mathlib.Omega.{arith}
use Rattle.sizes.proofs.is_span.Goals as goal

pub returns-then-is_finite-2 : goal.returns-then-is_finite-2
returns-then-is_finite-2 c = grind arith
