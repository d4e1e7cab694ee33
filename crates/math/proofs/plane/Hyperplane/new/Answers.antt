-- `Hyperplane::new` meets its contract: a slanted normal is normalised twice. Assumes nothing.
use native.Mathlib.Omega.{arith}
use Rattle.math.specs.Plane.{new_plane}
use Rattle.math.specs.Vector.{normalize}
use Rattle.math.proofs.plane.Hyperplane.new.Goals as goal

pub returns : goal.returns
unfolding new_plane normalize
returns c = grind arith
