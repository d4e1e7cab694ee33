-- `walk_pair` meets its contract: two walks that come to an end within what is left have the reads of their visits.
-- Assumes nothing.
use native.Mathlib.Omega.{arith}
use mathlib.Core.Path.{◌∙◌}
use Rattle.points.proofs.Swift.{in_file, landed_pair}
use Rattle.points.proofs.one.walk_pair.Goals as goal

pub returns-in-Some : goal.returns-in-Some
returns-in-Some c = landed_pair _ _ _ _ (omega (arith, c.ranges)) c.args.words _ _ _ _ c.on.ensures c.on-2.ensures _ _ c.point_at-p.ensures c.point_at-q.ensures _ _ (c.walk_two.ensures ∙ in_file _ _ _ _ _ _) _ _ c.in-Some.is c.if-a-left.true c.if-b-left.true _ _ c.end_byte.ensures c.end_byte-in-Some.ensures
