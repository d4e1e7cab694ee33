-- `settle_each` meets its contract.
-- Assumes nothing.
use native.Mathlib.Omega.{arith}
use mathlib.Core.List.{[], ◌∷◌}
use mathlib.Core.Path.{refl}
use Rattle.points.proofs.Single.{two_settles}
use Rattle.points.proofs.Downward.{pair_few}
use Rattle.points.proofs.one.settle_each.Goals as goal

pub overflow_add-result : goal.overflow_add-result
overflow_add-result c = omega (arith, pair_few _ _ _ _ c.args.words _ _ _ (omega (arith, c.ranges)) c.walk_each-pair.ensures)

pub returns : goal.returns
returns c = two_settles _ _ _ {ids = c.args.first ∷ c.args.second ∷ []} refl c.walk_each-pair.ensures c.put.ensures c.put-2.ensures
