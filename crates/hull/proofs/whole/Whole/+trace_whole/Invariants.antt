-- The measure is the calls left: a crossing leaves fewer than the call had.
-- Assumes nothing.
use Rattle.hull.proofs.whole.Whole.+trace_whole.Given as goal

abbrev pub decreases-trace_whole : goal.decreases-trace_whole
decreases-trace_whole l = l.left
