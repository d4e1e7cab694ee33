-- `put_pool` meets its contract. The loop's invariant: the leaves written, and those that the rows list together from here on, are those that
-- the rows list together. Assumes nothing.
use mathlib.Core.Path.{◌≡◌}
use Prim.Native.Nat.{◌-◌}
use lib.ListN.{length}
use Rattle.team.proofs.Pools.{Putting}
use Rattle.team.proofs.pool.put_pool.Given as goal

abbrev pub invariant-loop-leaf : goal.invariant-loop-leaf
invariant-loop-leaf l =
    (length l.list ≡ length l.initial.list) × Putting l.visibility l.leaf_count l.initial.ats l.initial.groups l.ats l.groups l.this l.leaf l.count l.list

abbrev pub decreases-loop-leaf : goal.decreases-loop-leaf
decreases-loop-leaf l = l.leaf_count - l.leaf
