-- `write_walk` meets its contract. Assumes nothing.
use native.Mathlib.Omega.{arith}
use lib.ListN.{length}
use Rattle.entered.proofs.Trails.{goes_on}
use Rattle.entered.proofs.walked.write_walk.Goals as goal

pub loop-slot-preserved : goal.loop-slot-preserved
loop-slot-preserved c = (omega arith, rw c.next_node-node.ensures (goes_on _ _ (length c.args.list.now) _ c.loop-slot.list c.loop-slot.slot-index c.loop-slot.node (omega arith) (omega arith) c.loop-slot.invariant.1))
