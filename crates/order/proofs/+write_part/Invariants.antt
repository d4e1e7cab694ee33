-- `write_part` meets its contract. The measure is the levels left. Assumes nothing.
use Rattle.order.proofs.+write_part.Given as goal

abbrev pub decreases-write_part : goal.decreases-write_part
decreases-write_part l = l.levels
