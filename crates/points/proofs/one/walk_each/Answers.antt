-- `walk_each` meets its contract.
-- Assumes nothing.
use mathlib.Core.Bool.{true, false}
use Rattle.nodes.specs.Fast.{word_on}
use Rattle.points.proofs.Swift.{as_word}
use Rattle.points.proofs.one.walk_each.Goals as goal

pub returns : goal.returns
returns c = let w = c.args.words in (as_word _ _ _ _ (word_on w true) c.onto.ensures c.walk_on.ensures, as_word _ _ _ _ (word_on w false) c.onto-2.ensures c.walk_on-2.ensures)
