-- `groups_from` meets its contract: the groups of the positions passed, and those from `at` on, are all. Assumes nothing.
use mathlib.Core.Path.{◌≡◌}
use Prim.Native.Nat.{◌+◌, ◌-◌, ◌*◌, ◌≤◌}
use lib.ListN.{length, drop}
use Rattle.accept.specs.Fast.{groups}
use Rattle.accept.proofs.row.groups_from.Given as goal

abbrev pub invariant-loop-at : goal.invariant-loop-at
invariant-loop-at l = (l.sum ≤ 256 * l.at) × (l.sum + groups (drop l.at l.visibility) ≡ groups (drop l.offset l.visibility))

abbrev pub decreases-loop-at : goal.decreases-loop-at
decreases-loop-at l = length l.visibility - l.at
