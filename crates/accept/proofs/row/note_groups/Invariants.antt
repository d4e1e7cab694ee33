-- `note_groups` meets its contract: the positions from `at` on are noted. Assumes nothing.
use Rattle.accept.proofs.Groups.{Noting}
use Rattle.accept.proofs.row.note_groups.Given as goal

abbrev pub invariant-loop-at : goal.invariant-loop-at
invariant-loop-at l = Noting l.visibility l.notes l.at l.count l.next l.after
