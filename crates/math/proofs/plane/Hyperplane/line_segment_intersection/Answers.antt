-- `line_segment_intersection` meets its contract: two sides, and then where the segment crosses. Assumes nothing.
use native.Mathlib.Omega.{arith}
use Rattle.math.specs.Plane.{line_segment}
use Rattle.math.proofs.Same.{equal_sides}
use Rattle.math.proofs.plane.Hyperplane.line_segment_intersection.Goals as goal

pub returns : goal.returns
unfolding line_segment
returns c = grind (arith, equal_sides)
