-- `settle_both` meets its contract: two walks that come to an end within what is left have the reads of their visits.
-- Assumes nothing.
use native.Mathlib.Omega.{arith}
use mathlib.Core.Bool.{true}
use mathlib.Core.List.{[], ◌∷◌}
use mathlib.Core.Path.{refl}
use Rattle.points.proofs.Single.{two_settles}
use Rattle.points.proofs.Swift.{landed_pair}
use Rattle.points.proofs.few.settle_both.Goals as goal

pub returns-in-Some : goal.returns-in-Some
returns-in-Some c =
    let a = c.args in
    let g = a.g.now in
    two_settles g.s.now g.t g.coords.now {ids = a.first ∷ a.second ∷ []} refl
    (landed_pair g.s.now g.t g.coords.now _ (omega (arith, c.ranges.left.fits)) a.words _ _ _ _ c.on.ensures c.on-2.ensures _ _ c.requires.1.0 c.requires.1.1 _ true (c.walk_two.ensures g.s.now g.t c.requires.0.0 c.requires.0.1.0 refl) _ _ c.in-Some.is c.if-a-left.true c.if-b-left.true _ _ c.end_byte.ensures c.end_byte-in-Some.ensures)
    c.put.ensures c.put-in-Some.ensures
