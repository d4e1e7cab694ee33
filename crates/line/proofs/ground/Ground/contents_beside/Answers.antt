-- `line::ground::Ground::contents_beside` meets its contract. Assumes nothing.
use mathlib.Core.Path.{◌∙◌}
use Rattle.line.proofs.Looks.{beside_node}
use Rattle.line.proofs.ground.Ground.contents_beside.Goals as goal

pub returns-then-word-lt32768 : goal.returns-then-word-lt32768
returns-then-word-lt32768 c = c.contents_from.ensures ∙ beside_node _ _ _ _ _ c.on-word.ensures c.if-word-lt32768.true
