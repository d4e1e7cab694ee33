-- `line::ground::Ground::contents_from` meets its contract. Assumes nothing.
use mathlib.Core.Path.{◌∙◌}
use Rattle.line.proofs.Looks.{look_end_met}
use Rattle.line.proofs.ground.Ground.contents_from.Goals as goal

pub returns-then-word-ge32768 : goal.returns-then-word-ge32768
returns-then-word-ge32768 c = c.end_contents.ensures ∙ look_end_met _ _ _ _ _ _ c.in_ok-word.ensures c.if-word-ge32768.true ∙ c.loop-word.invariant
