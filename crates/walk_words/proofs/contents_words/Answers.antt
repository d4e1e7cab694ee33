-- `contents_words` meets its contract: the code of the contents, and then the visits. Assumes nothing.
use Rattle.std.proofs.Common.{of_calls}
use Rattle.walk_words.proofs.contents_words.Goals as goal

pub returns : goal.returns
returns c = search of_calls parts 8
