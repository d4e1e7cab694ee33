-- `settle_one` meets its contract.
-- Assumes nothing.
use Rattle.points.proofs.Single.{one_settles}
use Rattle.points.proofs.one.settle_one.Goals as goal

pub returns : goal.returns
returns c = one_settles _ _ _ c.requires c.walk_on-one.ensures c.put.ensures
