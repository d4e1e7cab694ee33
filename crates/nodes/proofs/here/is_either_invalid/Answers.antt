-- `is_either_invalid` meets its contract: the highest bits of both words at once.
-- Assumes nothing.
use Rattle.std.proofs.Common.{refl, arith}
use Rattle.nodes.proofs.Clips.{two_bits}
use Rattle.nodes.proofs.here.is_either_invalid.Goals as goal

pub returns : goal.returns
returns c = two_bits c.args.both (omega (arith, c.ranges)) _ refl
