-- For the contracts of functions that no other crate can name; a reader of the calls may leave this file out.
-- A sieve: bytes by which most stems that the table of Table.antt has not are told from those that it has.
use Rattle.std.specs.Prelude.{ℕ, ◌+◌, ◌*◌, ◌/◌, ◌<◌, ◌≡◌, Bool, true, not, cond, List, eqb, ltb, length, get_or, Option, Some}
use Rattle.textures.specs.Table.{mix}
use Rattle.textures.specs.declared.table.Located.{Located}
use Rattle.textures.specs.declared.table.Located.TheVariants.{At}

-- the place of a stem, of 131,072
unfoldable pub place_of : ℕ → ℕ → ℕ
place_of a b = mix a b / 32768

-- a stem that the table may have: its byte is not zero, or there is none
unfoldable pub may_have : List ℕ → ℕ → ℕ → Bool
may_have sieve a b = cond (ltb (place_of a b) (length sieve)) (not (eqb (get_or sieve (place_of a b) 0) 0)) true

-- a sieve into which a stem was put
abbrev pub Sifted : List ℕ → ℕ → ℕ → List ℕ → Type 0
Sifted before a b after = (may_have after a b ≡ true) × ((x y : ℕ) → may_have before x y ≡ true → may_have after x y ≡ true)

-- the table may have the stem of each of its nodes below w
abbrev pub Sieved : List ℕ → ℕ → List ℕ → Type 0
Sieved t w sieve = (v : ℕ) → 0 < v → v < w → may_have sieve (get_or t (4 * v) 0) (get_or t (4 * v + 1) 0) ≡ true

-- a node is answered exactly where the search names one, and it is that one
abbrev pub SameNode : Option ℕ → Located → Type 0
SameNode l k = ((v : ℕ) → l ≡ Some v → k ≡ At v) × ((v : ℕ) → k ≡ At v → l ≡ Some v)
