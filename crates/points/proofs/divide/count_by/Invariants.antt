-- `count_by` meets its contract. The loop's invariant: so many of the points passed go to the front.
-- Assumes nothing.
use mathlib.Core.Bool.{Bool}
use mathlib.Core.Path.{◌≡◌}
use Prim.Native.Nat.{ℕ, ◌≤◌}
use lib.ListN.{length, take}
use Rattle.ways.specs.Groups.{kept}
use Rattle.points.specs.Going.{Tests}
use Rattle.points.proofs.divide.count_by.Given as goal

abbrev pub invariant-loop-id : goal.invariant-loop-id
invariant-loop-id g l = (l.front ≤ l.id-index) × ((f : ℕ → Bool) → Tests (goal.F-post g l.goes_front) f → l.front ≡ length (kept f (take l.id-index l.ids)))
