-- What follows where a chain of steps gave a value.
-- Assumes nothing.
use Prim.Native.Nat.{ℕ, suc, ◌-◌, ◌^◌, ◌<◌, zero-le}
use mathlib.Core.Path.{◌≡◌, refl}
use mathlib.Core.Bool.{Bool, true, false}
use mathlib.Core.List.{List}
use native.Mathlib.Omega.{arith}
use borrow.Author.Tests.{ltb-true, le-ltb}
use lib.Dec.{ltb}
use lib.IntN.{pos, negsuc}
use mir.Syntax.{w32}
use mir.Val.{sel, to_z}
use Rattle.format.specs.Step.{Step, ok, refused, and_then}
use Rattle.format.specs.Field.{u32_at, i32_at, not_negative, index_at}

-- the first step gave a value, and so did what follows it
pub record Went {A B : Type 0} (x : Step A) (k : A → ℕ → Step B) (v : B) (p : ℕ) : Type 0 where
  pub value : A
  pub at : ℕ
  pub first : x ≡ ok value at
  pub rest : k value at ≡ ok v p

pub went : {A B : Type 0} (x : Step A) (k : A → ℕ → Step B) (v : B) (p : ℕ) → and_then x k ≡ ok v p → Went x k v p
went (ok a q) k v p e = record { value = a; at = q; first = refl; rest = e }
went (refused n) k v p e = let z : ◌≡◌ {A = ℕ} 0 1 = cc in absurd (omega arith)

-- a number that is not negative is below 2^31
small : (n k q v p : ℕ) (b : Bool) → ltb k (2 ^ 31) ≡ b → not_negative n (sel b (pos k) (negsuc (2 ^ 32 - suc k))) q ≡ ok v p → v < 2 ^ 31
small n k q v p true h e = let z : k ≡ v = cc (le-ltb k 0 zero-le) in omega (arith, z, ltb-true k (2 ^ 31) h)
small n k q v p false h e = let z : ◌≡◌ {A = ℕ} 0 1 = cc in absurd (omega arith)

pub index_small : (n : ℕ) (s : List ℕ) (at v p : ℕ) → index_at n s at ≡ ok v p → v < 2 ^ 31
unfolding index_at i32_at
index_small n s at v p e = by (u32_at s at) e
  where
    by : (x : Step ℕ) → and_then (and_then x (λ k q. ok (to_z w32 k) q)) (λ z q. not_negative n z q) ≡ ok v p → v < 2 ^ 31
    by (ok k q) e = small n k q v p (ltb k (2 ^ 31)) refl e
    by (refused m) e = let z : ◌≡◌ {A = ℕ} 0 1 = cc in absurd (omega arith)
