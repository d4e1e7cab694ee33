-- `number` meets its contract. The loop's invariant: the entries passed are their own places.
-- Assumes nothing.
use mathlib.Core.Path.{◌≡◌}
use lib.ListN.{take}
use Rattle.points.specs.Going.{from}
use Rattle.points.proofs.many.number.Given as goal

abbrev pub invariant-loop-i : goal.invariant-loop-i
invariant-loop-i l = take l.i l.ids ≡ from 0 l.i
