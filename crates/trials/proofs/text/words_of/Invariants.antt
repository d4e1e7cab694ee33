-- `trials::text::words_of` meets its contract. The loop's invariant: no more words than the list has room for.
-- Assumes nothing.
use Rattle.std.proofs.Common.{◌≤◌, length}
use Rattle.trials.proofs.text.words_of.Given as goal

abbrev pub invariant-loop-byte : goal.invariant-loop-byte
invariant-loop-byte l = l.count ≤ length l.words
