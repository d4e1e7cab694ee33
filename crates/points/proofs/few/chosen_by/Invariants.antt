-- `chosen_by` meets its contract. The loop's invariant: the points chosen so far and those to be chosen of the rest are those to be chosen of all.
-- Assumes nothing.
use Rattle.std.proofs.Common.{◌≡◌, ◌≤◌, ℕ, Bool, ◌+◌}
use Rattle.points.specs.Going.{Tests, chosen}
use Rattle.points.proofs.few.chosen_by.Given as goal

abbrev pub invariant-loop-rest : goal.invariant-loop-rest
invariant-loop-rest g l = (l.front + l.rest ≤ l.ids) × ((f : ℕ → Bool) → Tests (goal.F-post g l.goes_front) f → l.front + chosen f l.rest ≡ chosen f l.ids)

abbrev pub decreases-loop-rest : goal.decreases-loop-rest
decreases-loop-rest g l = l.rest
