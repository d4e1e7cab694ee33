-- `meet_on` meets its contract: by the word.
-- Assumes nothing.
use mathlib.Core.Path.{sym}
use Rattle.hull.specs.Traces.{met_on}
use Rattle.hull.proofs.Meets.{meets_end}
use Rattle.hull.proofs.tracing.meet_on.Goals as goal

pub returns : goal.returns
unfolding met_on
returns c = let z = c.args in sym (meets_end z.s.now z.t z.w z.front _ c.on-word.ensures c.if-word-lt32768.false _ c.in_ok-contents.ensures)
