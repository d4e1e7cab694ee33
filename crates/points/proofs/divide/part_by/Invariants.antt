-- `part_by` meets its contract. The loop's invariant: of the points passed, those in front stand at the front of the list and the others aside, each in their order; the points to come are as they were.
-- Assumes nothing.
use mathlib.Core.Bool.{Bool}
use Prim.Native.Nat.{ℕ, ◌≤◌}
use Rattle.points.specs.Going.{Tests}
use Rattle.points.proofs.Lists.{Parted}
use Rattle.points.proofs.divide.part_by.Given as goal

abbrev pub invariant-loop-i : goal.invariant-loop-i
invariant-loop-i g l = (l.front ≤ l.i) × ((f : ℕ → Bool) → Tests (goal.F-post g l.goes_front) f → Parted f l.initial.ids l.ids l.aside l.front l.i)
