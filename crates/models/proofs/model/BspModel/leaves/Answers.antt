-- `leaves` meets its contract: the last leaf is counted in. Assumes nothing.
use Rattle.std.proofs.Common.{of_calls}
use Rattle.models.proofs.model.BspModel.leaves.Goals as goal

pub returns : goal.returns
returns c = search of_calls parts 8
