-- `textures::sieve::sift_all` meets its contract: the stems of the nodes so far are in the sieve.
-- Assumes nothing.
use Rattle.textures.specs.Sieve.{Sieved}
use Rattle.textures.proofs.sieve.sift_all.Given as goal

abbrev pub invariant-loop-v : goal.invariant-loop-v
invariant-loop-v l = Sieved l.t l.v l.sieve
