-- `words::float_at` meets its contract. Assumes nothing.
use Rattle.std.specs.Float.Ieee.{of_bits}
use Rattle.words.proofs.float_at.Goals as goal

pub returns : goal.returns
unfolding of_bits
returns c = c.item_or.ensures
