-- For the contracts of functions that no other crate can name; a reader of the calls may leave this file out.
-- How the code numbers textures: a list l has for each texture the first one with its stem, and 2^32 - 1 for a static one.
use Rattle.std.specs.Prelude.{ℕ, ◌+◌, ◌<◌, ◌≤◌, ◌≡◌, Bool, cond, List, eqb, ltb, length, get_or}
use Rattle.textures.specs.Count.{count}

-- texture i has no stem
abbrev pub has_none : List ℕ → ℕ → Bool
has_none l i = eqb (get_or l i 0) 4294967295

-- texture i is the first with its stem
abbrev pub leads : List ℕ → ℕ → Bool
leads l i = eqb (get_or l i 0) i

-- the new number of texture i
unfoldable pub number_in : List ℕ → ℕ → ℕ
number_in l i = cond (has_none l i) (count (has_none l) i) (count (has_none l) (length l) + count (leads l) (get_or l i 0))

-- the first texture with a stem is not after the others, and is the first with its own
abbrev pub Led : List ℕ → Type 0
Led l = (i : ℕ) → i < length l → (get_or l i 0 ≡ 4294967295 → ⊥) → (get_or l i 0 ≤ i) × (get_or l (get_or l i 0) 0 ≡ get_or l i 0)

-- the list when the first j textures have their numbers
abbrev pub Partly : List ℕ → ℕ → List ℕ → Type 0
Partly l j list = (i : ℕ) → i < length l → get_or list i 0 ≡ cond (ltb i j) (number_in l i) (get_or l i 0)
