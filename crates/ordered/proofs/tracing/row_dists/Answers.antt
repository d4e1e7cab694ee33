-- `row_dists` meets its contract: the row, then the distances from its plane. Assumes nothing.
use Rattle.ordered.proofs.Descents.{made_dists}
use Rattle.ordered.proofs.tracing.row_dists.Goals as goal

pub returns : goal.returns
returns c = made_dists _ _ _ _ _ _ _ c.read.ensures _ c.in_ok-w.was _ c.dists_by_number.ensures _ _ c.in_ok-a.was
