-- `row_length` meets its contract. The loop's invariant: the leaves counted and those of the row from here on make the row's length.
-- Assumes nothing.
use Prim.Native.Nat.{◌-◌}
use lib.ListN.{length}
use Rattle.vis.proofs.Passes.{Counting}
use Rattle.vis.proofs.row.row_length.Given as goal

abbrev pub invariant-loop-leaf : goal.invariant-loop-leaf
invariant-loop-leaf l = Counting l.visibility l.offset l.leaf_count l.at l.leaf l.count

abbrev pub decreases-loop-leaf : goal.decreases-loop-leaf
decreases-loop-leaf l = length l.visibility - l.at
