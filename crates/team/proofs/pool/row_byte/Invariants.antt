-- `row_byte` meets its contract. The loop's invariant: the row from the cursor is the row from the first one. Assumes nothing.
use Prim.Native.Nat.{◌-◌}
use lib.ListN.{length}
use Rattle.team.proofs.Cursors.{Cursor}
use Rattle.team.proofs.pool.row_byte.Given as goal

abbrev pub invariant-loop-here : goal.invariant-loop-here
invariant-loop-here l = Cursor l.visibility l.leaf_count l.at l.group l.this l.next l.here

abbrev pub decreases-loop-here : goal.decreases-loop-here
decreases-loop-here l = length l.visibility - l.next
