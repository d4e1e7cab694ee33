-- `meet_child` meets its contract, by each way through it.
-- Assumes nothing.
use native.Mathlib.Omega.{arith}
use Rattle.points.proofs.Meeting.{not_read, no_plane, is_node}
use Rattle.points.proofs.group.meet_child.Goals as goal

pub returns-in_default : goal.returns-in_default
returns-in_default c = not_read _ _ _ _ _ c.in-Node.is (omega arith) c.if-t-node.false _ c.read_words.ensures _ c.in_default.is

pub returns-in_default-plane_at : goal.returns-in_default-plane_at
returns-in_default-plane_at c = no_plane _ _ _ _ _ c.in-Node.is (omega arith) c.if-t-node.false _ c.read_words.ensures _ c.in-Ok.is _ c.plane_at.ensures _ c.in_default-plane_at.is

pub returns-in-Ok-plane_at : goal.returns-in-Ok-plane_at
returns-in-Ok-plane_at c = is_node _ _ _ _ _ c.in-Node.is (omega arith) c.if-t-node.false _ c.read_words.ensures _ c.in-Ok.is _ c.plane_at.ensures _ c.in-Ok-plane_at.is
