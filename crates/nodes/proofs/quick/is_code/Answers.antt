-- `is_code` meets its contract: no code is above 14, and those below are bits of a number.
-- Assumes nothing.
use Rattle.nodes.proofs.Quicks.{coded_high, coded_low}
use Rattle.nodes.proofs.quick.is_code.Goals as goal

pub returns-then-code-ge15 : goal.returns-then-code-ge15
returns-then-code-ge15 c = coded_high _ c.if-code-ge15.true

pub returns : goal.returns
returns c = coded_low c.args.code c.if-code-ge15.false
