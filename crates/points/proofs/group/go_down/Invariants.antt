-- `go_down` meets its contract. The loop's invariant (`Gone`): what is left to do before the present child is what there was to do at first, but for the reads made.
-- Assumes nothing.
use Rattle.points.proofs.Downward.{Gone}
use Rattle.points.proofs.group.go_down.Given as goal

abbrev pub invariant-loop-byte : goal.invariant-loop-byte
invariant-loop-byte l =
    Gone l.s l.t l.coords l.left l.initial.at l.initial.ids l.initial.aside l.initial.out l.ids l.aside l.out l.at l.more l.reads

abbrev pub decreases-loop-byte : goal.decreases-loop-byte
decreases-loop-byte l = l.more
