-- `find_rows` meets its contract. The loop's invariant: the starts written, and those of the players that are left, are those of all players.
-- Assumes nothing.
use Rattle.team.proofs.Found.{Finding}
use Rattle.team.proofs.players.find_rows.Given as goal

abbrev pub invariant-loop-leaf : goal.invariant-loop-leaf
invariant-loop-leaf l = Finding l.file l.map l.leaves l.initial.starts l.starts l.rows l.leaf-index
