-- `visibility_of` meets its contract: past the end of the file nothing is read. Assumes nothing.
use native.Mathlib.Omega.{arith}
use Rattle.vis.specs.Pvs.{visibility_of}
use Rattle.vis.proofs.row.visibility_of.Goals as goal

pub returns : goal.returns
unfolding visibility_of
returns c = grind arith
