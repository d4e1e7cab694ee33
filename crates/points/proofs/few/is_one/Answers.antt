-- `is_one` meets its contract.
-- Assumes nothing.
use native.Mathlib.Omega.{arith}
use borrow.Author.Tests.{eqb-true}
use Rattle.points.proofs.Bits.{one_member}
use Rattle.points.proofs.few.is_one.Goals as goal

pub returns : goal.returns
returns c = λ e. one_member c.args.ids c.requires (omega (arith, c.ranges.ids.fits)) (eqb-true _ 0 e)
