-- `put_row` meets its contract. The loop's invariant: the leaves written, and those of the row from here on, are the row's. Assumes nothing.
use mathlib.Core.Path.{◌≡◌}
use Prim.Native.Nat.{◌-◌}
use lib.ListN.{length}
use Rattle.vis.proofs.Passes.{Writing}
use Rattle.vis.proofs.row.put_row.Given as goal

abbrev pub invariant-loop-first : goal.invariant-loop-first
invariant-loop-first l =
    (length l.list ≡ length l.initial.list) × Writing l.visibility l.offset l.leaf_count l.at l.first l.count l.list

abbrev pub decreases-loop-first : goal.decreases-loop-first
decreases-loop-first l = length l.visibility - l.at
