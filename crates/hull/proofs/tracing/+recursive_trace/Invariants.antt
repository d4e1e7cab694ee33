-- The measure is the calls left: a crossing leaves fewer than the call had.
-- Assumes nothing.
use Rattle.hull.proofs.tracing.+recursive_trace.Given as goal

abbrev pub decreases-recursive_trace : goal.decreases-recursive_trace
decreases-recursive_trace l = l.left
