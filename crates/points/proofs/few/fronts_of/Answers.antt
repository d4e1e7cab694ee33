-- `fronts_of` meets its contract: by the plane's alignment.
-- Assumes nothing.
use Rattle.std.proofs.Common.{◌∙◌, rules, tests}
use Rattle.points.specs.Going.{reaches}
use Rattle.points.proofs.Bits.{chosen_axis}
use Rattle.points.proofs.few.fronts_of.Goals as goal

pub returns-in-Axis : goal.returns-in-Axis
returns-in-Axis c = let a = c.args in
    let k = c.axis_number-axis in
    c.chosen_by.ensures (reaches a.coords.now k.result a.plane.dist) (λ q b e. search (rules, tests))
    ∙ chosen_axis a.coords.now a.plane _ c.in-Axis.is _ k.ensures a.ids
