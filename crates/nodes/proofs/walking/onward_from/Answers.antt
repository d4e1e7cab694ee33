-- `onward_from` meets its contract: by what the readers answer.
-- Assumes nothing.
use Rattle.nodes.proofs.Making.{any_unread, any_no_plane, any_made, no_side, side_of, toward}
use Rattle.nodes.proofs.walking.onward_from.Goals as goal
use Rattle.format.proofs.Answers.{handed_on}

pub returns-in_err-words : goal.returns-in_err-words
returns-in_err-words c = rw (handed_on c.from_residual.ensures.1) (any_unread _ _ _ _ _ c.read_words.ensures _ c.in_err-words.was)

pub returns-in_err-front : goal.returns-in_err-front
returns-in_err-front c = rw (handed_on c.from_residual-in_err-front.ensures.1) (any_no_plane _ _ _ _ _ c.read_words.ensures _ c.in_ok-words.was _ (no_side _ _ _ c.side_at.ensures _ c.in_err-front.was))

pub returns : goal.returns
returns c = let a = c.args in let f = c.in_ok-front.front in let w = c.in_ok-words.words in let h = side_of _ a.point c.side_at.result c.side_at.ensures f c.in_ok-front.was in any_made _ _ _ _ _ c.read_words.ensures w c.in_ok-words.was h.0 h.1 _ (toward a.t.table w a.point h.0 f h.2 _ c.on.ensures)
