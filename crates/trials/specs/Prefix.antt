-- For the contracts of functions that no other crate can name; a reader of the calls may leave this file out.
-- What was put at the front of a lent list.
use Rattle.std.specs.Prelude.{◌≡◌, ℕ, ◌≤◌, List, length, take}

-- The first n entries of the list are n: `&xs[..n]` is in bounds, and has n entries. The second part follows from the first.
abbrev pub IsPrefixLen : ℕ → List ℕ → Type 0
IsPrefixLen n xs = (n ≤ length xs) × (n ≡ length (take n xs))
