-- The measure is the calls left: a crossing leaves fewer than the call had.
-- Assumes nothing.
use Rattle.entered.proofs.traced.+write_onward.Given as goal

abbrev pub decreases-write_onward : goal.decreases-write_onward
decreases-write_onward l = l.left
