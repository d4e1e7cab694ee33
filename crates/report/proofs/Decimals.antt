-- Numbers in decimal: the steps of the definition are enough, the digits stand for the number, and how many there are. Assumes nothing.
use mathlib.Core.Path.{◌≡◌, refl, sym, ap, ◌∙◌}
use mathlib.Core.Bool.{Bool, true, false}
use mathlib.Core.List.{List, [], ◌∷◌, ◌++◌}
use Prim.Native.Nat.{ℕ, zero, suc, ◌+◌, ◌-◌, ◌*◌, ◌/◌, ◌%◌, ◌^◌, ◌<◌, ◌≤◌}
use native.Mathlib.Nat.{not-suc-le-zero}
use native.Mathlib.Omega.{arith}
use borrow.Author.Tests.{lt-ltb, le-ltb, ltb-true, ltb-false}
use lib.Dec.{ltb}
use lib.ListN.{length, length-append}
use Rattle.report.specs.Text.{digits, decimal, value}

-- a number is below 10, or it is not
module _ (P : ℕ → Type 0) (n : ℕ) (small : n < 10 → P n) (large : 10 ≤ n → P n) where
  by_size : P n
  by_size = go (ltb n 10) (λ h. small (ltb-true n 10 h)) (λ h. large (ltb-false n 10 h))
    where
      go : (b : Bool) → (b ≡ true → P n) → (b ≡ false → P n) → P n
      go true f g = f refl
      go false f g = g refl

-- the two ways of a step
one : (k n : ℕ) → n < 10 → digits (suc k) n ≡ (48 + n) ∷ []
unfolding digits
one k n h = simp (lt-ltb n 10 h)

more : (k n : ℕ) → 10 ≤ n → digits (suc k) n ≡ digits k (n / 10) ++ ((48 + n % 10) ∷ [])
unfolding digits
more k n h = simp (le-ltb n 10 h)

-- more steps than the number are enough
enough : (k m n : ℕ) → n < k → n < m → digits k n ≡ digits m n
enough zero m n h g = absurd (not-suc-le-zero h)
enough (suc k) zero n h g = absurd (not-suc-le-zero g)
enough (suc k) (suc m) n h g =
    by_size (λ _. digits (suc k) n ≡ digits (suc m) n) n
    (λ s. one k n s ∙ sym (one m n s))
    (λ l. more k n l ∙ ap (λ (ds : List ℕ). ds ++ ((48 + n % 10) ∷ [])) (enough k m (n / 10) (omega arith) (omega arith)) ∙ sym (more m n l))

-- the two ways of a number
pub decimal_one : (n : ℕ) → n < 10 → decimal n ≡ (48 + n) ∷ []
unfolding decimal
decimal_one n h = one n n h

pub decimal_more : (n : ℕ) → 10 ≤ n → decimal n ≡ decimal (n / 10) ++ ((48 + n % 10) ∷ [])
unfolding decimal
decimal_more n h = more n n h ∙ ap (λ (ds : List ℕ). ds ++ ((48 + n % 10) ∷ [])) (enough n (suc (n / 10)) (n / 10) (omega arith) (omega arith))

-- the digits stand for the number
value_last : (b : ℕ) (ds : List ℕ) (d : ℕ) → value b (ds ++ (d ∷ [])) ≡ value b ds * 10 + (d - 48)
unfolding value
value_last b [] d = refl
value_last b (x ∷ ds) d = value_last (b * 10 + (x - 48)) ds d

value_one : (n : ℕ) → value 0 ((48 + n) ∷ []) ≡ n
unfolding value
value_one n = omega arith

value_digits : (k n : ℕ) → n < k → value 0 (digits k n) ≡ n
value_digits zero n h = absurd (not-suc-le-zero h)
value_digits (suc k) n h =
    by_size (λ _. value 0 (digits (suc k) n) ≡ n) n
    (λ s. ap (value 0) (one k n s) ∙ value_one n)
    (λ l. ap (value 0) (more k n l) ∙ value_last 0 (digits k (n / 10)) (48 + n % 10) ∙ rw (value_digits k (n / 10) (omega arith)) (omega arith))

pub read_back : (n : ℕ) → value 0 (decimal n) ≡ n
unfolding decimal
read_back n = value_digits (suc n) n (omega arith)

-- below 10 to the power of k, k steps are enough, and there are at most k digits
pub tens : (k m n : ℕ) → n < m → n < 10 ^ suc k → digits m n ≡ digits (suc k) n
tens k zero n h g = absurd (not-suc-le-zero h)
tens zero (suc m) n h g = one m n g ∙ sym (one zero n g)
tens (suc k) (suc m) n h g =
    by_size (λ _. digits (suc m) n ≡ digits (suc (suc k)) n) n
    (λ s. one m n s ∙ sym (one (suc k) n s))
    (λ l. more m n l ∙ ap (λ (ds : List ℕ). ds ++ ((48 + n % 10) ∷ [])) (tens k m (n / 10) (omega arith) (omega arith)) ∙ sym (more (suc k) n l))

length_digits : (k n : ℕ) → length (digits k n) ≤ k
unfolding digits
length_digits zero n = omega arith
length_digits (suc k) n =
    by_size (λ _. length (digits (suc k) n) ≤ suc k) n
    (λ s. rw (one k n s) (omega arith))
    (λ l. rw (more k n l) (omega (arith, length-append (digits k (n / 10)) ((48 + n % 10) ∷ []), length_digits k (n / 10))))

pub short : (k n : ℕ) → n < 10 ^ suc k → length (decimal n) ≤ suc k
unfolding decimal
short k n h = rw (tens k (suc n) n (omega arith) h) (length_digits (suc k) n)
