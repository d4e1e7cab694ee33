-- `file_words` meets its contract: the index (20), the node's place (23) and its record.
-- Assumes nothing.
use Rattle.nodes.proofs.Sections.{within_itself, at_start}
use Rattle.nodes.specs.Fast.{render_node_here, clip_node_here}
use Rattle.nodes.proofs.Readers.{render_at, clip_at}
use Rattle.nodes.proofs.read.file_words.Goals as goal

pub returns-then-render : goal.returns-then-render
returns-then-render c = render_at _ _ _ _ c.if-render.true _ c.place.ensures c.render_words.result _ c.in_ok-place.was (at_start render_node_here _ _ _ (c.render_words.ensures _ 0 (within_itself _)))

pub returns : goal.returns
returns c = clip_at _ _ _ _ c.if-render.false _ c.place-2.ensures c.clip_words.result _ c.in_ok-place-2.was (at_start clip_node_here _ _ _ (c.clip_words.ensures _ 0 (within_itself _)))
