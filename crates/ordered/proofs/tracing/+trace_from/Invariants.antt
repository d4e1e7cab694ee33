-- The measure is the calls left: a crossing leaves fewer than the call had. Assumes nothing.
use Rattle.ordered.proofs.tracing.+trace_from.Given as goal

abbrev pub decreases-trace_from : goal.decreases-trace_from
decreases-trace_from l = l.left
