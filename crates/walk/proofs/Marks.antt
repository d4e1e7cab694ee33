-- Mark bytes: a mark that is put is there, none goes away, and no other comes.
use Prim.Native.Nat.{ℕ, zero, suc, ◌<◌}
use native.Mathlib.Decide.{ℕ_discrete}
use mathlib.Core.Bool.{Bool, true, false}
use mathlib.Core.List.{List}
use mathlib.Core.Logic.{◌⊎◌, inl, inr}
use mathlib.Core.Path.{◌≡◌, refl}
use lib.Dec.{eqb}
use lib.ListN.{length, get_or, set, replicate}
use lib.Seq.{get_or-set_same, get_or-set_other}

-- the node n has no mark yet
abbrev pub fresh : List ℕ → ℕ → Bool
fresh ms n = eqb (get_or ms n 0) 0

pub put_there : (ms : List ℕ) (i : ℕ) → i < length ms → fresh (set ms i 1) i ≡ false
put_there ms i h = rw (get_or-set_same ms i 1 0 h)

pub put_keeps : (ms : List ℕ) (i j : ℕ) → i < length ms → fresh ms j ≡ false → fresh (set ms i 1) j ≡ false
put_keeps ms i j h t = go (ℕ_discrete j i)
  where
    go : Dec (j ≡ i) → fresh (set ms i 1) j ≡ false
    go (yes e) = rw (e, get_or-set_same ms i 1 0 h)
    go (no e) = rw (get_or-set_other ms i j 1 0 e) t

pub put_only : (ms : List ℕ) (i j : ℕ) → fresh (set ms i 1) j ≡ false → (j ≡ i) ⊎ (fresh ms j ≡ false)
put_only ms i j t = go (ℕ_discrete j i)
  where
    go : Dec (j ≡ i) → (j ≡ i) ⊎ (fresh ms j ≡ false)
    go (yes e) = inl e
    go (no e) = inr (rw (get_or-set_other ms i j 1 0 e) at t)

-- before the check no node has one
pub all_fresh : (n j : ℕ) → fresh (replicate n 0) j ≡ true
all_fresh zero j = refl
all_fresh (suc n) zero = refl
all_fresh (suc n) (suc j) = all_fresh n j
