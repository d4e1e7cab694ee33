-- `settle_pair` meets its contract. The loop's invariant (`Together`): what is left to do of the two points is what there was to do, but for the reads
-- made.
-- Assumes nothing.
use Rattle.points.proofs.Pairs.{Together}
use Rattle.points.proofs.few.settle_pair.Given as goal

abbrev pub invariant-loop-byte : goal.invariant-loop-byte
invariant-loop-byte l = Together l.g.s.now l.g.t l.g.coords.now l.first l.second l.left l.fn.child l.initial.out l.out l.at l.more l.reads

abbrev pub decreases-loop-byte : goal.decreases-loop-byte
decreases-loop-byte l = l.more
