-- `with_body` meets its contract: a body for hulls 1 and 2. Assumes nothing.
use Rattle.std.proofs.Common.{of_calls}
use Rattle.sized_hulls.proofs.with_body.Goals as goal

pub returns-in-1 : goal.returns-in-1
returns-in-1 c = search of_calls parts 8
