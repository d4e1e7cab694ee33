-- `BspData::default` meets its contract: no section, and no texture. Assumes nothing.
use native.Mathlib.Omega.{arith}
use Rattle.format.proofs.section.BspDataDefault.default.Goals as goal

pub returns : goal.returns
returns c = grind arith
