-- `static_number` meets its contract: the number of the static texture is given. Assumes nothing.
use native.Mathlib.Omega.{arith}
use Rattle.words.proofs.Giving.{told_given}
use Rattle.ffi_textures.specs.Calls.{bsp_texture_static}
use Rattle.ffi_textures.proofs.static_number.Goals as goal

pub returns : goal.returns
unfolding bsp_texture_static
returns c = grind (arith, told_given)
