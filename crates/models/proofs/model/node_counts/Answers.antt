-- `node_counts` meets its contract: the total less each root. Assumes nothing.
use Rattle.std.proofs.Common.{of_calls}
use Rattle.models.proofs.model.node_counts.Goals as goal

pub returns : goal.returns
returns c = search of_calls parts 8
