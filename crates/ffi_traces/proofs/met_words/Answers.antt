-- `met_words` meets its contract: the words of the plane that the trace ends at, or none. Assumes nothing.
use native.Mathlib.Omega.{arith}
use Rattle.ffi_traces.proofs.met_words.Goals as goal

pub returns-then-part : goal.returns-then-part
returns-then-part c = grind arith
