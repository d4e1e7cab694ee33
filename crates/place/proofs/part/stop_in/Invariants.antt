-- `place::part::stop_in` meets its contract. Assumes nothing.
use Rattle.place.proofs.Stops.{Left}
use Rattle.place.proofs.part.stop_in.Given as goal

abbrev pub invariant-loop-index : goal.invariant-loop-index
invariant-loop-index l = Left l.s l.part l.map l.span.count l.byte l.index
