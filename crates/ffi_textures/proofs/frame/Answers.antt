-- `frame` meets its contract: the number of the frame is given. Assumes nothing.
use native.Mathlib.Omega.{arith}
use Rattle.words.proofs.Giving.{told_given}
use Rattle.ffi_textures.specs.Calls.{bsp_texture_frame}
use Rattle.ffi_textures.proofs.frame.Goals as goal

pub returns : goal.returns
unfolding bsp_texture_frame
returns c = grind (arith, told_given)
