-- `walk_on` meets its contract: a walk that comes to an end within what is left has the reads of its visits.
-- Assumes nothing.
use native.Mathlib.Omega.{arith}
use Rattle.points.proofs.Swift.{walked, ended_at}
use Rattle.points.proofs.one.walk_on.Goals as goal

pub returns-in-End : goal.returns-in-End
returns-in-End c = ended_at _ _ _ _ c.in-End.is c.end_byte.ensures

pub returns-in-Ok : goal.returns-in-Ok
returns-in-Ok c = walked _ _ _ _ c.in-Node.is (omega (arith, c.ranges)) c.point_at-p.ensures c.walk_to_end.ensures c.in-Ok.is c.if-visits-left.true c.end_byte-in-Ok.ensures
