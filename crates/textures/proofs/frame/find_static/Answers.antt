-- `textures::frame::find_static` meets its contract
-- Assumes nothing.
use Rattle.textures.proofs.Numbers.{static_within}
use Rattle.textures.proofs.frame.find_static.Goals as goal

pub returns : goal.returns
returns c = static_within _ _ _ _ _ _ c.nth_static.ensures _ c.ok_or.ensures.value
