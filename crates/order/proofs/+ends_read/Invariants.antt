-- `ends_read` meets its contract. The measure is the levels left. Assumes nothing.
use Rattle.order.proofs.+ends_read.Given as goal

abbrev pub decreases-ends_read : goal.decreases-ends_read
decreases-ends_read l = l.levels
