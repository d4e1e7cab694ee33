-- `write_walk` meets its contract. The loop's invariant: what is written and the trail from the present node are the whole trail.
-- Assumes nothing.
use Prim.Native.Nat.{◌-◌, ◌<◌}
use mathlib.Core.Path.{◌≡◌}
use mathlib.Core.List.{◌++◌}
use lib.ListN.{length, take}
use Rattle.nodes.specs.Fast as Fast
use Rattle.entered.specs.Private.{trail}
use Rattle.entered.proofs.walked.write_walk.Given as goal

abbrev pub invariant-loop-slot : goal.invariant-loop-slot
invariant-loop-slot l =
    (l.node < 4294967296)
    × (take l.slot-index l.list ++ trail (Fast.table l.s l.t) l.point (length l.initial.list - l.slot-index) l.node ≡ trail (Fast.table l.s l.t) l.point (length l.initial.list) l.root)
