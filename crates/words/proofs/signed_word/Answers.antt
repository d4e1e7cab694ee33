-- `signed_word` meets its contract: widened, and then taken as unsigned. Assumes nothing.
use Rattle.std.proofs.Common.{of_calls}
use Rattle.words.proofs.signed_word.Goals as goal

pub returns : goal.returns
returns c = search of_calls parts 8
