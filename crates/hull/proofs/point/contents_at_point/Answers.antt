-- `contents_at_point` meets its contract: over the hull's tables.
-- Assumes nothing.
use Rattle.hull.proofs.Founds.{contents_are}
use Rattle.hull.proofs.point.contents_at_point.Goals as goal

pub returns : goal.returns
returns c = contents_are _ _ _ _ _ _ c.tables_of.ensures _ _ c.contents_in.ensures
