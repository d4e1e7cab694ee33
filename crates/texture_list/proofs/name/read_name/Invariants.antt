-- `texture_list::name::read_name` meets its contract: what was read so far, and zeros after it.
-- Assumes nothing.
use Rattle.texture_list.proofs.Names.{Read}
use Rattle.texture_list.proofs.name.read_name.Given as goal

abbrev pub invariant-loop-i : goal.invariant-loop-i
invariant-loop-i l = Read l.s l.at l.i l.c-items
