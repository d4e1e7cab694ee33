-- `parse` meets its contract of the second layout. Assumes nothing.
use native.Mathlib.Omega.{arith}
use Rattle.sizes.proofs.Rows.{parsed}
use Rattle.sizes.proofs.parse.Goals as goal

pub returns-then-starts_field-4 : goal.returns-then-starts_field-4
returns-then-starts_field-4 c = grind (arith, parsed)
