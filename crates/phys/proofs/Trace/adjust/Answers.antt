-- `Trace::adjust` meets its contract: both points are moved. Assumes nothing.
use native.Mathlib.Omega.{arith}
use Rattle.phys.proofs.Trace.adjust.Goals as goal

pub returns : goal.returns
returns c = grind arith
