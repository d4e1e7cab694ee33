-- `walk_one` meets its contract. The loop's invariant (`GoneOne`): the reads and the byte from the present child on.
-- Assumes nothing.
use Rattle.points.proofs.Single.{GoneOne}
use Rattle.points.proofs.one.walk_one.Given as goal

abbrev pub invariant-loop-byte : goal.invariant-loop-byte
invariant-loop-byte l = GoneOne l.s l.t l.coords l.left l.initial.at l.id l.at l.more l.reads

abbrev pub decreases-loop-byte : goal.decreases-loop-byte
decreases-loop-byte l = l.more
