-- `settle_alone` meets its contract: a walk that comes to an end within what is left has the reads of its visits.
-- Assumes nothing.
use native.Mathlib.Omega.{arith}
use mathlib.Core.List.{[], ◌∷◌}
use mathlib.Core.Path.{refl}
use Rattle.points.proofs.Single.{one_settles}
use Rattle.points.proofs.Swift.{walked_by}
use Rattle.points.proofs.few.settle_alone.Goals as goal

pub returns-then-visits-left : goal.returns-then-visits-left
returns-then-visits-left c =
    let a = c.args in
    one_settles a.g.now.s.now a.g.now.t a.g.now.coords.now {ids = a.id ∷ []} refl
    (walked_by a.g.now.s.now a.g.now.t a.g.now.coords.now a.id c.in-Node.is (omega (arith, c.ranges.left.fits)) c.point_at-p.ensures c.requires.0 c.requires.1.0 c.walk_on-end.result c.walk_on-end.ensures.said c.if-end-gt0.true _ refl c.if-visits-left.true _ refl c.end_byte.ensures)
    c.put.ensures
