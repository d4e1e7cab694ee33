-- `trace` meets its contract: the words of the trace are given. Assumes nothing.
use native.Mathlib.Omega.{arith}
use Rattle.words.proofs.Giving.{told_given}
use Rattle.ffi_order.specs.Calls.{bsp_order_trace}
use Rattle.ffi_order.proofs.Laws.{same_rows}
use Rattle.ffi_order.proofs.trace.Goals as goal

pub returns : goal.returns
unfolding bsp_order_trace
returns c = grind (arith, same_rows, told_given)
