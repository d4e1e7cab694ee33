-- For the contracts of functions that no other crate can name; a reader of the calls may leave this file out.
-- The table by which the set bits of a row's bytes are counted (document 02, note 5).
use Rattle.std.specs.Prelude.{ℕ, zero, suc, List, [], ◌∷◌}
use Rattle.std.specs.Int.Count.{ones_in}

-- how many of their eight bits are set, of so many bytes from `byte` on
unfoldable pub counts : ℕ → ℕ → List ℕ
counts zero byte = []
counts (suc n) byte = ones_in 8 byte ∷ counts n (suc byte)
