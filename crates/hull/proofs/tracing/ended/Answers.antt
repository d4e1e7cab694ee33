-- `ended` meets its contract.
-- Assumes nothing.
use mathlib.Core.Path.{◌∙◌}
use Rattle.format.specs.declared.contents.BspLeafContents.TheVariants.{Solid}
use Rattle.format.proofs.Same.{same_contents}
use Rattle.hull.proofs.tracing.ended.Goals as goal

pub returns : goal.returns
returns c = simp (c.eq-start_solid.ensures ∙ same_contents _ Solid)
