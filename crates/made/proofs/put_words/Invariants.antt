-- `made::put_words` meets its contract. Assumes nothing.
use Rattle.made.proofs.Writing.{Put}
use Rattle.made.proofs.put_words.Given as goal

abbrev pub invariant-loop-i : goal.invariant-loop-i
invariant-loop-i l = Put l.words l.initial.buffer l.buffer l.at l.i
