-- The measure is the number of points; that of the loop, how many of them are left.
-- Assumes nothing.
use Prim.Native.Nat.{◌-◌}
use lib.ListN.{length}
use Rattle.points.proofs.Halving.{Doing}
use Rattle.points.proofs.group.+settle_group.Given as goal

abbrev pub decreases-settle_group : goal.decreases-settle_group
decreases-settle_group l = length l.ids.now

abbrev pub invariant-loop-n : goal.invariant-loop-n
invariant-loop-n l =
    Doing l.s l.t l.coords l.left l.initial.at l.initial.ids l.initial.aside l.initial.out l.ids l.aside l.out l.at l.more l.reads l.lo l.hi

abbrev pub decreases-loop-n : goal.decreases-loop-n
decreases-loop-n l = l.hi - l.lo
