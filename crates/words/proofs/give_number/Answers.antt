-- `give_number` meets its contract: the number is written where the list has room. Assumes nothing.
use Rattle.std.proofs.Common.{of_calls}
use Rattle.words.proofs.give_number.Goals as goal

pub returns-in-Ok-2 : goal.returns-in-Ok-2
returns-in-Ok-2 g c = search of_calls parts 8
