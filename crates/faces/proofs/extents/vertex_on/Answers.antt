-- `vertex_on` meets its contract: an edge walked backward starts at its second vertex. Assumes nothing.
use native.Mathlib.Omega.{arith}
use Rattle.faces.proofs.extents.vertex_on.Goals as goal

pub returns-in-Backward : goal.returns-in-Backward
returns-in-Backward c = grind arith
