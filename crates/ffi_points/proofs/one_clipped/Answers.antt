-- `one_clipped` meets its contract, as what it asks does. Assumes nothing.
use Rattle.ffi_points.proofs.one_clipped.Goals as goal

pub returns : goal.returns
returns c = c.one_from.ensures
