-- `trace` meets its contract: over the hull's tables.
-- Assumes nothing.
use mathlib.Core.Path.{ap, ◌∙◌}
use Rattle.format.specs.Answer.{answer}
use Rattle.hull.proofs.Founds.{trace_is}
use Rattle.hull.proofs.tracing.trace.Goals as goal
use Rattle.format.proofs.Answers.{handed_on}

pub returns-in_err-part : goal.returns-in_err-part
returns-in_err-part c = rw (handed_on c.from_residual.ensures.1) (trace_is _ _ _ _ _ _ c.tables_of-t.ensures _ _ _ c.in_err-part.ensures)

pub returns : goal.returns
returns c = trace_is _ _ _ _ _ _ c.tables_of-t.ensures _ _ _ (ap (λ t. answer (t, c.in_ok-part.part.visits)) c.trace_of.ensures ∙ c.in_ok-part.ensures)
