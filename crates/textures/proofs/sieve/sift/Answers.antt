-- `textures::sieve::sift` meets its contract: the sieve has the stem's place
-- Assumes nothing.
use Rattle.textures.proofs.Sieves.{sift_at}
use Rattle.textures.proofs.sieve.sift.Goals as goal

pub returns-then-place-sieve : goal.returns-then-place-sieve
returns-then-place-sieve c = sift_at _ _ _ _ c.place_of-place.ensures c.if-place-sieve.true
