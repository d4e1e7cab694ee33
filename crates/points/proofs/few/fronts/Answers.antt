-- `fronts` meets its contract: of the first eight points by the bits of their sides.
-- Assumes nothing.
use Rattle.points.proofs.Eights.{sides_chosen}
use Rattle.points.proofs.few.fronts.Goals as goal

pub returns-then-ids-lt256 : goal.returns-then-ids-lt256
returns-then-ids-lt256 c = let a = c.args in
    sides_chosen a.g.now.coords.now a.g.now.eight.now c.requires.1.1 _ _ c.sides.ensures a.ids c.if-ids-lt256.true
