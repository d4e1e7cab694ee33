-- `put_section` meets its contract. Assumes nothing.
use Rattle.made.proofs.Rows.{Rows}
use Rattle.made.proofs.MadeOf.put_section.Given as goal

abbrev pub invariant-loop-i : goal.invariant-loop-i
invariant-loop-i l = Rows l.part l.self.seed l.self.nodes l.initial.buffer l.buffer l.at l.last l.i
