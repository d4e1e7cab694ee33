-- The measure is the number of nodes left to enter; that of the loop too.
-- Assumes nothing.
use Rattle.points.proofs.Fewer.{Left}
use Rattle.points.proofs.few.+settle.Given as goal

abbrev pub decreases-settle : goal.decreases-settle
decreases-settle l = l.left

abbrev pub invariant-loop-out : goal.invariant-loop-out
invariant-loop-out l = Left l.g.s.now l.g.t l.g.coords.now l.left l.initial.at l.ids l.initial.out l.rest l.out l.at l.more l.reads

abbrev pub decreases-loop-out : goal.decreases-loop-out
decreases-loop-out l = l.more
