-- `textures::sieve::seek_sifted` meets its contract: a node that the sieve has not is not in the table
-- Assumes nothing.
use Rattle.std.proofs.Common.{sym, ◌∙◌}
use Rattle.textures.proofs.Sieves.{not_sieved}
use Rattle.textures.proofs.sieve.seek_sifted.Goals as goal

pub returns-then-not-may_have : goal.returns-then-not-may_have
returns-then-not-may_have c = let q = c.requires in not_sieved _ _ _ _ _ q.1 q.2 (sym c.may_have.ensures ∙ c.if-not-may_have.true)
