-- `order` meets its contract: the number of nodes is given beside the marks and the list. Assumes nothing.
use native.Mathlib.Omega.{arith}
use Rattle.ffi_order.specs.Calls.{bsp_order}
use Rattle.ffi_order.proofs.order.Goals as goal

pub returns : goal.returns
unfolding bsp_order
returns c = grind arith
