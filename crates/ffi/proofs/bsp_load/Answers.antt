-- `bsp_load` meets its contract: it hands its arguments on. Assumes nothing.
use Rattle.ffi.proofs.bsp_load.Goals as goal

pub returns : goal.returns
returns c = c.load.ensures
