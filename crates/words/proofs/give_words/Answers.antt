-- `give_words` meets its contract: the words of the answer are given. Assumes nothing.
use native.Mathlib.Omega.{arith}
use Rattle.words.proofs.give_words.Goals as goal

pub returns-in-Ok : goal.returns-in-Ok
returns-in-Ok g c = grind arith
