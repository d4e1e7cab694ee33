-- `textures::number::nth_such` meets its contract: as many as there are so far, and not the one sought.
-- Assumes nothing.
use Rattle.std.specs.Prelude.{ℕ, Bool, ◌≡◌, ◌≤◌, ◌<◌}
use Rattle.textures.specs.Count as C
use Rattle.textures.proofs.number.nth_such.Given as goal

abbrev pub invariant-loop-i : goal.invariant-loop-i
invariant-loop-i g l = record {
  counted : (p : ℕ → Bool) → ((i : ℕ) (r : Bool) → i < l.count → goal.F-post g l.passes i r → r ≡ p i) → l.seen ≡ C.count p l.i;
  few : l.seen ≤ l.k;
}
