-- `end_contents` meets its contract: a leaf's index (30), its place and its record (23); or contents by their code (23).
-- Assumes nothing.
use Rattle.nodes.proofs.Readers.{leaf_at_lem}
use Rattle.nodes.proofs.read.end_contents.Goals as goal

pub returns-then-is_render : goal.returns-then-is_render
returns-then-is_render c = leaf_at_lem _ _ _ _ c.is_render.ensures c.if-is_render.true c.if-leaves-leaf.false _ c.place.ensures _ _ c.in_ok-place.was c.leaf_contents.ensures
