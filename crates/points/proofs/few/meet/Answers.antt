-- `meet` meets its contract, by each way through it.
-- Assumes nothing.
use native.Mathlib.Omega.{arith}
use Rattle.points.proofs.Meeting.{unread_in, node_in}
use Rattle.points.proofs.few.meet.Goals as goal

pub returns-in-Err : goal.returns-in-Err
returns-in-Err c = unread_in _ _ _ _ _ c.in-Node.is (omega (arith, c.if-left-eq0.false)) (omega (arith, c.if-part-node.false)) _ _ _ c.requires.0 c.requires.1.0 _ c.found_in.ensures _ c.in-Err.is

pub returns-in-Ok : goal.returns-in-Ok
returns-in-Ok c = node_in _ _ _ _ _ c.in-Node.is (omega (arith, c.if-left-eq0.false)) (omega (arith, c.if-part-node.false)) _ _ _ c.requires.0 c.requires.1.0 _ c.found_in.ensures _ _ c.in-Ok.is
