-- `next_node` meets its contract: by what the readers answer.
-- Assumes nothing.
use Rattle.entered.proofs.Trails.{not_read, no_plane, to_node, to_end}
use Rattle.entered.proofs.walked.next_node.Goals as goal

pub returns-in_default : goal.returns-in_default
returns-in_default c = not_read _ _ _ _ _ c.read_words.ensures _ c.in_default.is

pub returns-in_default-side_at : goal.returns-in_default-side_at
returns-in_default-side_at c = no_plane _ _ _ _ _ c.read_words.ensures _ c.in-Ok.is _ c.side_at.ensures _ c.in_default-side_at.is

pub returns-then-word-lt32768 : goal.returns-then-word-lt32768
returns-then-word-lt32768 c = to_node _ _ _ _ _ c.read_words.ensures _ c.in-Ok.is _ c.side_at.ensures _ c.in-Ok-side_at.is _ c.on-word.ensures c.if-word-lt32768.true

pub returns-else-word-lt32768 : goal.returns-else-word-lt32768
returns-else-word-lt32768 c = to_end _ _ _ _ _ c.read_words.ensures _ c.in-Ok.is _ c.side_at.ensures _ c.in-Ok-side_at.is _ c.on-word.ensures c.if-word-lt32768.false
