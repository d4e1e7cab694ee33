-- `contents_in` meets its contract: the walk to an end, and the end met.
-- Assumes nothing.
use Rattle.hull.proofs.Founds.{contents_met_lem}
use Rattle.hull.proofs.point.contents_in.Goals as goal

pub returns : goal.returns
returns c = contents_met_lem _ _ _ _ _ c.walk_to_end.ensures _ _ c.in_ok-word.was _ c.end_contents.ensures _ c.in_ok-contents.was
