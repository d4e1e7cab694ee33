-- `line::tracing::trace_line` meets its contract. Assumes nothing.
use mathlib.Core.Path.{◌∙◌}
use Rattle.line.proofs.Wholes.{whole_is}
use Rattle.line.proofs.tracing.trace_line.Goals as goal

pub returns-in-Some : goal.returns-in-Some
returns-in-Some c = (rw c.in-Some.is at c.line_at_once.ensures) ∙ whole_is _ _ _ _ _ c.tables_of-t.ensures _ _ _

pub returns : goal.returns
returns c = c.line_by_records.ensures ∙ whole_is _ _ _ _ _ c.tables_of-t.ensures _ _ _
