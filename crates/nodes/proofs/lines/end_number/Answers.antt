-- `end_number` meets its contract: a leaf's index and its place, or its code.
-- Assumes nothing.
use Rattle.std.proofs.Common.{sym, ◌∙◌}
use Rattle.nodes.proofs.LeafCodes.{code_not}
use Rattle.nodes.proofs.lines.end_number.Goals as goal

pub returns-in-Err : goal.returns-in-Err
returns-in-Err c = let a = c.args in code_not a.s.now a.t a.word (sym c.is_render.ensures ∙ c.if-not-is_render.false) c.if-leaves-leaf.false _ c.place.ensures _ c.in-Err.is
