-- `is_two` meets its contract.
-- Assumes nothing.
use native.Mathlib.Omega.{arith}
use borrow.Author.Tests.{eqb-true}
use Rattle.points.proofs.Bits.{two_members}
use Rattle.points.proofs.few.is_two.Goals as goal

pub returns : goal.returns
returns c = λ e. two_members c.args.ids c.requires (omega (arith, c.ranges.ids.fits)) c.if-rest-eq0.false (eqb-true _ 0 e)
