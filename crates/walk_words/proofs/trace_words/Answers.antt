-- `trace_words` meets its contract: the trace by its parts. Assumes nothing.
use Rattle.std.proofs.Common.{of_calls}
use Rattle.walk_words.proofs.trace_words.Goals as goal

pub returns : goal.returns
returns c = search of_calls parts 8
