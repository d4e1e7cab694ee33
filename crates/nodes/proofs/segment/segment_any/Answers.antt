-- `segment_any` meets its contract: by what the readers answer.
-- Assumes nothing.
use Rattle.nodes.specs.Fast.{node_of}
use Rattle.nodes.proofs.Making.{any_unread, any_no_plane, any_made, no_dists, dists_of, with_dists}
use Rattle.nodes.proofs.segment.segment_any.Goals as goal
use Rattle.format.proofs.Answers.{handed_on}

pub returns-in_err-words : goal.returns-in_err-words
returns-in_err-words c = rw (handed_on c.from_residual.ensures.1) (any_unread _ _ _ _ _ c.read_words.ensures _ c.in_err-words.was)

pub returns-in_err-a : goal.returns-in_err-a
returns-in_err-a c = rw (handed_on c.from_residual-in_err-a.ensures.1) (any_no_plane _ _ _ _ _ c.read_words.ensures _ c.in_ok-words.was _ (no_dists _ _ _ _ c.dists_at.ensures _ c.in_err-a.was))

pub returns : goal.returns
returns c = let a = c.args in let w = c.in_ok-words.words in let h = dists_of _ a.p a.q c.dists_at.result c.dists_at.ensures _ _ c.in_ok-a.was in any_made _ _ _ _ _ c.read_words.ensures w c.in_ok-words.was h.0 h.1 _ (with_dists (node_of a.t.table w) a.p a.q h.0 _ _ h.2)
