-- `copy_front` meets its contract. The loop's invariant: the items so far are at the front, and what lies past them is as it was.
-- Assumes nothing.
use Rattle.std.proofs.Common.{◌≡◌, take, drop}
use Rattle.format.proofs.list.copy_front.Given as goal

abbrev pub invariant-loop-i : goal.invariant-loop-i
invariant-loop-i g l = (take l.i l.list ≡ take l.i l.fn.items) × (drop l.i l.list ≡ drop l.i l.fn.list)
