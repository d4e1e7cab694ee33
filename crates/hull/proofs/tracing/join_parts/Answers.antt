-- `join_parts` meets its contract.
-- Assumes nothing.
use mathlib.Core.Path.{◌∙◌}
use Rattle.format.specs.declared.contents.BspLeafContents.TheVariants.{Solid}
use Rattle.format.proofs.Same.{same_contents}
use Rattle.hull.proofs.tracing.join_parts.Goals as goal

pub returns : goal.returns
returns c = simp (← (c.eq-2.ensures ∙ same_contents _ Solid), c.if-eq-2.false, ← (c.eq.ensures ∙ same_contents _ _), c.if-eq.false)
