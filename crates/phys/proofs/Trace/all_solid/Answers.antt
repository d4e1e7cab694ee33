-- `Trace::all_solid` meets its contract.
-- Assumes nothing.
use mathlib.Core.Path.{◌∙◌}
use Rattle.format.proofs.Same.{same_contents}
use Rattle.phys.proofs.Trace.all_solid.Goals as goal

pub returns : goal.returns
returns c = c.eq.ensures ∙ same_contents _ _
