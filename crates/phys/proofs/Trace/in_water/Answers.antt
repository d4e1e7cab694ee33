-- `Trace::in_water` meets its contract.
-- Assumes nothing.
use mathlib.Core.Path.{sym, ap, ◌∙◌}
use mathlib.Core.Bool.{not}
use Rattle.format.specs.declared.contents.BspLeafContents.TheVariants.{Empty, Solid}
use Rattle.format.proofs.Same.{same_contents}
use Rattle.phys.proofs.Trace.in_water.Goals as goal

pub returns-then-ne : goal.returns-then-ne
returns-then-ne c =
    let t = c.args.self.contents in
    rw (sym (c.if-ne.ensures ∙ ap not (same_contents t Empty))) (c.ne-then-ne.ensures ∙ ap not (same_contents t Solid))

pub returns-else-ne : goal.returns-else-ne
returns-else-ne c = rw (sym (c.if-ne.ensures ∙ ap not (same_contents c.args.self.contents Empty))) c.if-ne.false
