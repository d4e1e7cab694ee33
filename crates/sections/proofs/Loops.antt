-- The law of a loop over records in a row: n records are one record and then n - 1, or the loop stops at one that is refused.
-- Assumes nothing.
use Prim.Native.Nat.{ℕ, zero, suc, ◌-◌, ◌<◌, ◌≤◌}
use mathlib.Core.Path.{◌≡◌, refl, ap}
use mathlib.Core.List.{List}
use native.Mathlib.Nat.{not-suc-le-zero}
use native.Mathlib.Omega.{arith}
use Rattle.format.specs.Step.{Step, ok, refused}
use Rattle.sections.specs.Records.{records}

module _ {A : Type 0} (one : List ℕ → ℕ → Step A) (s : List ℕ) where
  pub done : (n at : ℕ) → n ≤ 0 → records one s n at ≡ ok tt at
  unfolding records
  done zero at h = refl
  done (suc n) at h = absurd (not-suc-le-zero h)

  pub more : (n at : ℕ) {v : A} {p : ℕ} → 0 < n → one s at ≡ ok v p → records one s n at ≡ records one s (n - 1) p
  unfolding records
  more zero at h e = absurd (not-suc-le-zero h)
  more (suc n) at {v} {p} h e = let q : n ≡ suc n - 1 = omega arith in rw e (ap (λ (k : ℕ). records one s k p) q)

  pub stop : (n at : ℕ) {e : ℕ} → 0 < n → one s at ≡ refused e → records one s n at ≡ refused e
  unfolding records
  stop zero at h q = absurd (not-suc-le-zero h)
  stop (suc n) at h q = rw q
