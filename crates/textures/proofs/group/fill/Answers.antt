-- `textures::group::fill` meets its contract: the table of the stems so far
-- Assumes nothing.
use Rattle.std.proofs.Common.{arith}
use Rattle.textures.proofs.Fills.{fills_next}
use Rattle.textures.proofs.Steps.{fill_stops}
use Rattle.textures.proofs.group.fill.Goals as goal

pub returns-in_default : goal.returns-in_default
returns-in_default c =
    let s = fill_stops _ _ _ _ _ _ _ _ _ c.loop-i.invariant.filled c.fill_one.ensures c.in_default.not-Some in
    (s.0, (c.loop-i.invariant.begun s.1, omega arith))

pub loop-i-preserved : goal.loop-i-preserved
loop-i-preserved c = record { filled = fills_next _ _ _ _ _ _ _ c.loop-i.invariant.filled _ _ c.loop-i.auto.i c.in-Some.ensures; begun = λ h. omega arith }
