-- `first_eight` meets its contract.
-- Assumes nothing.
use native.Mathlib.Omega.{arith}
use Rattle.std.proofs.lemmas.Grind.{common_steps}
use Rattle.format.proofs.Copies.{copied_part}
use lib.Ieee.{of_bits}
use lib.ListN.{length}
use Rattle.points.proofs.Eights.{of_more, of_fewer}
use Rattle.points.proofs.few.first_eight.Goals as goal

pub returns-then-count-ge24 : goal.returns-then-count-ge24
returns-then-count-ge24 c = of_more c.args.coords.now _ c.copy_from_slice.ensures.after

pub returns : goal.returns
unfolding of_bits
returns c = of_fewer c.args.coords.now _ (length c.args.coords.now) (copied_part c.args.coords.now _ (grind (arith, common_steps)) c.copy_apart.ensures)
