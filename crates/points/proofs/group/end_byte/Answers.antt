-- `end_byte` meets its contract.
-- Assumes nothing.
use Rattle.points.proofs.Meeting.{end_settled}
use Rattle.points.proofs.group.end_byte.Goals as goal

pub returns : goal.returns
returns c = end_settled c.args.s.now c.args.t c.args.word _ c.end_number.ensures
