-- A list of seven words, by its places.
-- Assumes nothing.
use Prim.Native.Nat.{ℕ}
use native.Mathlib.Omega.{arith}
use mathlib.Core.Path.{◌≡◌, refl}
use mathlib.Core.List.{List, [], ◌∷◌}
use lib.ListN.{get_or, length}

pub by_places : (k : List ℕ) → length k ≡ 7 → get_or k 0 0 ∷ get_or k 1 0 ∷ get_or k 2 0 ∷ get_or k 3 0 ∷ get_or k 4 0 ∷ get_or k 5 0 ∷ get_or k 6 0 ∷ [] ≡ k
by_places (a ∷ b ∷ c ∷ d ∷ e ∷ f ∷ g ∷ []) h = refl
by_places [] h = absurd (omega (arith, h))
by_places (a ∷ []) h = absurd (omega (arith, h))
by_places (a ∷ b ∷ []) h = absurd (omega (arith, h))
by_places (a ∷ b ∷ c ∷ []) h = absurd (omega (arith, h))
by_places (a ∷ b ∷ c ∷ d ∷ []) h = absurd (omega (arith, h))
by_places (a ∷ b ∷ c ∷ d ∷ e ∷ []) h = absurd (omega (arith, h))
by_places (a ∷ b ∷ c ∷ d ∷ e ∷ f ∷ []) h = absurd (omega (arith, h))
by_places (a ∷ b ∷ c ∷ d ∷ e ∷ f ∷ g ∷ i ∷ k) h = absurd (omega (arith, h))
