-- `pass` meets its contract, by each way through it: one point meets what its group would.
-- Assumes nothing.
use native.Mathlib.Omega.{arith}
use mathlib.Core.Path.{ap}
use Rattle.points.specs.Going.{one_of}
use Rattle.points.proofs.Meeting.{not_read}
use Rattle.points.proofs.Single.{no_side, on_side}
use Rattle.points.proofs.one.pass.Goals as goal

pub returns-in_default : goal.returns-in_default
returns-in_default c = ap (one_of c.args.p) (not_read _ _ _ _ _ c.in-Node.is (omega arith) c.if-t-node.false _ c.read_words.ensures _ c.in_default.is)

pub returns-in_default-side_at : goal.returns-in_default-side_at
returns-in_default-side_at c = no_side _ _ _ _ _ _ c.in-Node.is (omega arith) c.if-t-node.false _ c.read_words.ensures _ c.in-Ok.is _ c.side_at.ensures _ c.in_default-side_at.is

pub returns-in-Ok-side_at : goal.returns-in-Ok-side_at
returns-in-Ok-side_at c = on_side _ _ _ _ _ _ c.in-Node.is (omega arith) c.if-t-node.false _ c.read_words.ensures _ c.in-Ok.is _ c.side_at.ensures _ c.in-Ok-side_at.is _ c.onto.ensures
