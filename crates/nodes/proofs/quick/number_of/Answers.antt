-- `number_of` meets its contract: the pattern is no NaN's.
-- Assumes nothing.
use Rattle.std.proofs.lemmas.Float.{not_nan_f32_bits}
use Rattle.nodes.proofs.quick.number_of.Goals as goal

pub float_from_bits-result : goal.float_from_bits-result
float_from_bits-result c = not_nan_f32_bits c.args.bits c.requires
