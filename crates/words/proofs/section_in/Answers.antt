-- `section_in` meets its contract: two words, one after the other. Assumes nothing.
use Rattle.std.proofs.Common.{of_calls}
use Rattle.words.proofs.section_in.Goals as goal

pub returns : goal.returns
returns c = search of_calls parts 8
