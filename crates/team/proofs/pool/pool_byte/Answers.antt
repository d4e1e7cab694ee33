-- `pool_byte` meets its contract. The loop's invariant: the rows' lists are those of the union so far and of the rows from their cursors on.
-- Assumes nothing.
use native.Mathlib.Omega.{arith}
use Rattle.team.proofs.Unions.{pool_starts, pool_next}
use Rattle.team.proofs.pool.pool_byte.Goals as goal

pub loop-i-init : goal.loop-i-init
loop-i-init c = pool_starts _ _ _ _ _ _ (omega (arith, c.requires.3)) c.requires.4

pub loop-i-preserved : goal.loop-i-preserved
loop-i-preserved c = pool_next _ _ _ _ _ c.requires.1 _ _ _ _ _ c.loop-i.invariant (omega (arith, c.loop-i-test.true, c.loop-i.invariant.as_many)) _ _ _ _ c.row_byte-taken.ensures c.min-next.ensures
