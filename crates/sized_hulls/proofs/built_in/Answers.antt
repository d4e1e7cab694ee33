-- `built_in` meets its contract: the sizes of two bodies. Assumes nothing.
use Rattle.std.proofs.Common.{of_calls}
use Rattle.sized_hulls.proofs.built_in.Goals as goal

pub returns : goal.returns
returns c = search of_calls parts 8
