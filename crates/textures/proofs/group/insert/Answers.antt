-- `textures::group::insert` meets its contract: a new stem has its place
-- Assumes nothing.
use Rattle.std.proofs.Common.{arith}
use Rattle.textures.proofs.Steps.{ins_slot}
use Rattle.textures.proofs.group.insert.Goals as goal

pub add-requires : goal.add-requires
add-requires c = (omega (arith, c.if-nodes-t.true), ins_slot _ _ _ _ c.requires.0 _ c.seek.ensures _ c.in-Free.is)
