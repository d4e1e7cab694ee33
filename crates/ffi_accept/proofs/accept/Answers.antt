-- `accept` meets its contract: 0, or the refusal's number, beside the marks. Assumes nothing.
use native.Mathlib.Omega.{arith}
use Rattle.ffi_accept.specs.Calls.{bsp_accept}
use Rattle.ffi_accept.proofs.accept.Goals as goal

pub returns-in-Ok : goal.returns-in-Ok
unfolding bsp_accept
returns-in-Ok c = grind arith
