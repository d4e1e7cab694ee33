-- `check_limits` meets its contract where no limit is exceeded. Assumes nothing.
use native.Mathlib.Omega.{arith}
use Rattle.sections.specs.Table.{limits, limits_from_leaves}
use Rattle.sections.proofs.table.check_limits.Goals as goal

pub returns : goal.returns
unfolding limits limits_from_leaves
returns c = grind arith
