-- `bsp_contents_nodes` meets its contract: it hands its arguments on. Assumes nothing.
use native.Mathlib.Omega.{arith}
use Rattle.ffi.proofs.bsp_contents_nodes.Goals as goal

pub returns : goal.returns
returns c = grind arith
