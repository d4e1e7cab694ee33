-- `pool_byte` meets its contract. The loop's invariant: the rows' lists are those of the union so far and of the rows from their cursors on.
-- Assumes nothing.
use Rattle.team.proofs.Unions.{Pooling}
use Rattle.team.proofs.pool.pool_byte.Given as goal

abbrev pub invariant-loop-i : goal.invariant-loop-i
invariant-loop-i l = Pooling l.visibility l.leaf_count l.this l.initial.ats l.initial.groups l.ats l.groups l.pool l.next l.i
