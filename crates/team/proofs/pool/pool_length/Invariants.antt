-- `pool_length` meets its contract. The loop's invariant: the leaves counted, and those that the rows list together from here on, are as many
-- as the rows list together. Assumes nothing.
use Prim.Native.Nat.{◌-◌}
use Rattle.team.proofs.Pools.{Counting}
use Rattle.team.proofs.pool.pool_length.Given as goal

abbrev pub invariant-loop-leaf : goal.invariant-loop-leaf
invariant-loop-leaf l = Counting l.visibility l.leaf_count l.initial.ats l.initial.groups l.ats l.groups l.this l.leaf l.count

abbrev pub decreases-loop-leaf : goal.decreases-loop-leaf
decreases-loop-leaf l = l.leaf_count - l.leaf
