-- Twelve words that are written one by one to the front of a list. Assumes nothing.
use Prim.Native.Nat.{ℕ, ◌≤◌}
use native.Mathlib.Omega.{arith}
use mathlib.Core.Path.{◌≡◌, refl, ap, ◌∙◌}
use mathlib.Core.List.{List, [], ◌∷◌}
use borrow.Author.Tests.{le-ltb}
use lib.ListN.{length, drop, set}
use Rattle.words.specs.Words.{written, give}

pub twelve : (l : List ℕ) (a b c d e f g h i j k m : ℕ) → 12 ≤ length l → set (set (set (set (set (set (set (set (set (set (set (set l 0 a) 1 b) 2 c) 3 d) 4 e) 5 f) 6 g) 7 h) 8 i) 9 j) 10 k) 11 m ≡ a ∷ b ∷ c ∷ d ∷ e ∷ f ∷ g ∷ h ∷ i ∷ j ∷ k ∷ m ∷ drop 12 l
twelve [] a b c d e f g h i j k m z = absurd (omega arith)
twelve (x0 ∷ []) a b c d e f g h i j k m z = absurd (omega arith)
twelve (x0 ∷ x1 ∷ []) a b c d e f g h i j k m z = absurd (omega arith)
twelve (x0 ∷ x1 ∷ x2 ∷ []) a b c d e f g h i j k m z = absurd (omega arith)
twelve (x0 ∷ x1 ∷ x2 ∷ x3 ∷ []) a b c d e f g h i j k m z = absurd (omega arith)
twelve (x0 ∷ x1 ∷ x2 ∷ x3 ∷ x4 ∷ []) a b c d e f g h i j k m z = absurd (omega arith)
twelve (x0 ∷ x1 ∷ x2 ∷ x3 ∷ x4 ∷ x5 ∷ []) a b c d e f g h i j k m z = absurd (omega arith)
twelve (x0 ∷ x1 ∷ x2 ∷ x3 ∷ x4 ∷ x5 ∷ x6 ∷ []) a b c d e f g h i j k m z = absurd (omega arith)
twelve (x0 ∷ x1 ∷ x2 ∷ x3 ∷ x4 ∷ x5 ∷ x6 ∷ x7 ∷ []) a b c d e f g h i j k m z = absurd (omega arith)
twelve (x0 ∷ x1 ∷ x2 ∷ x3 ∷ x4 ∷ x5 ∷ x6 ∷ x7 ∷ x8 ∷ []) a b c d e f g h i j k m z = absurd (omega arith)
twelve (x0 ∷ x1 ∷ x2 ∷ x3 ∷ x4 ∷ x5 ∷ x6 ∷ x7 ∷ x8 ∷ x9 ∷ []) a b c d e f g h i j k m z = absurd (omega arith)
twelve (x0 ∷ x1 ∷ x2 ∷ x3 ∷ x4 ∷ x5 ∷ x6 ∷ x7 ∷ x8 ∷ x9 ∷ x10 ∷ []) a b c d e f g h i j k m z = absurd (omega arith)
twelve (x0 ∷ x1 ∷ x2 ∷ x3 ∷ x4 ∷ x5 ∷ x6 ∷ x7 ∷ x8 ∷ x9 ∷ x10 ∷ x11 ∷ l) a b c d e f g h i j k m z = refl

pub given_by : (out : List ℕ) → 12 ≤ length out → (a b c d e f g h i j k m : ℕ) → written 0 (set (set (set (set (set (set (set (set (set (set (set (set out 0 a) 1 b) 2 c) 3 d) 4 e) 5 f) 6 g) 7 h) 8 i) 9 j) 10 k) 11 m) ≡ give (a ∷ b ∷ c ∷ d ∷ e ∷ f ∷ g ∷ h ∷ i ∷ j ∷ k ∷ m ∷ []) out
given_by out z a b c d e f g h i j k m = ap (written 0) (twelve out a b c d e f g h i j k m z) ∙ simp (le-ltb (length out) 12 z)
