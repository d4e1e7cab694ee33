-- `walk_one` meets its contract. The loop's invariant (`GoneOne`): the reads and the byte from the present child on.
-- Assumes nothing.
use native.Mathlib.Omega.{arith}
use Rattle.points.proofs.Single.{one_rests, one_may, one_goes}
use Rattle.points.proofs.one.walk_one.Goals as goal

pub returns-in-Settled : goal.returns-in-Settled
returns-in-Settled c = one_rests _ _ _ c.loop-byte.invariant c.point_at-p.ensures _ c.pass.ensures c.in-Settled.is

pub overflow_sub-more : goal.overflow_sub-more
overflow_sub-more c = one_may _ _ _ c.loop-byte.invariant c.point_at-p.ensures _ c.pass.ensures c.in-Onward.is

pub loop-byte-smaller : goal.loop-byte-smaller
loop-byte-smaller c = omega (arith, one_may _ _ _ c.loop-byte.invariant c.point_at-p.ensures _ c.pass.ensures c.in-Onward.is)

pub loop-byte-preserved : goal.loop-byte-preserved
loop-byte-preserved c = one_goes _ _ _ c.loop-byte.invariant c.point_at-p.ensures _ c.pass.ensures c.in-Onward.is
