-- `within_limit` meets its contract of planes. Assumes nothing.
use native.Mathlib.Omega.{arith}
use Rattle.format.proofs.section.BspFileSectionId.within_limit.Goals as goal

pub returns-in-Planes : goal.returns-in-Planes
returns-in-Planes c = grind arith
