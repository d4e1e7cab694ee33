-- What `Root` says: `nearest_root n` is the one q with (2q - 1)² < 4n < (2q + 1)²; and what n is for m * 2 ^ j units, and that its root has 24 digits. Assumes nothing.
use Rattle.std.proofs.Common.{◌≡◌, ℕ, zero, suc, ◌+◌, ◌-◌, ◌*◌, ◌/◌, ◌^◌, ◌<◌, ◌≤◌, Bool, true, false, cond, not, T, sym, refl, ap, ◌∙◌, subst, inl, inr, le_trans, le_of_eq, lt_of_lt_of_le, lt_of_not-le, not-le_of_lt, le_of_mul-le-mul_right, lt_of_mul-lt-mul_right, mul-le-mul_right, mul-lt-mul_of_pos_right, mul_assoc, mul-div_cancel, add_assoc, add-mul, mul-le-mul, le_antisymm, mul-add, arith, ltb→lt, lt→ltb, nltb→le, pow_pos, pow_mono, pow-add}
use native.Mathlib.Nat.{mul-mul-mul_comm, pow-succ'}
use lib.Arith.{le→nltb}
use lib.Ieee.Bits.{is_true, is_false}
use lib.Ieee.{size, odd}
use lib.Ieee.Digits.{size-lt, size-le}
use Rattle.float.proofs.Compare.{T_of, order}
use Rattle.float.specs.Root.{below_root, digits, nearest_root, root_of_units}

-- ---- the digits: whatever the test, it passes at the result and fails at the number after it

-- the law at q, of k digits
abbrev Found : ℕ → ℕ → ℕ → Type 0
Found k n q = (below_root (digits k n q) n ≡ true) × (below_root (digits k n q + 1) n ≡ false)

digits_law : (k n q : ℕ) → below_root q n ≡ true → below_root (q + 2 ^ k) n ≡ false → Found k n q
unfolding digits
digits_law zero n q lo hi = (lo, hi)
digits_law (suc k) n q lo hi = go (below_root (q + 2 ^ k) n) refl (digits_law k n (q + 2 ^ k)) (digits_law k n q)
  where
    dbl : (p : ℕ) → 2 * p ≡ p + p
    dbl p = omega arith

    twice : q + 2 ^ suc k ≡ q + 2 ^ k + 2 ^ k
    twice = ap (λ (x : ℕ). q + x) (pow-succ' 2 k ∙ dbl (2 ^ k)) ∙ sym (add_assoc q (2 ^ k) (2 ^ k))

    go : (b : Bool) → below_root (q + 2 ^ k) n ≡ b
        → (below_root (q + 2 ^ k) n ≡ true → below_root (q + 2 ^ k + 2 ^ k) n ≡ false → Found k n (q + 2 ^ k))
        → (below_root q n ≡ true → below_root (q + 2 ^ k) n ≡ false → Found k n q)
        → Found k n (cond b (q + 2 ^ k) q)
    go true e f g = f e (subst (λ (x : ℕ). below_root x n ≡ false) twice hi)
    go false e f g = g lo e

-- q is nearest to the root of n
pub record Nearest (n q : ℕ) : Type 0 where
  pub above : (2 * q - 1) * (2 * q - 1) < 4 * n
  pub under : 4 * n < (2 * q + 1) * (2 * q + 1)

odd_square : (q : ℕ) → (2 * q + 1) * (2 * q + 1) ≡ 4 * (q * q) + 4 * q + 1
odd_square q =
    let a = add-mul (2 * q) 1 (2 * q + 1) in
    let b = mul-add (2 * q) (2 * q) 1 in
    let c : 2 * q * (2 * q) ≡ 4 * (q * q) = mul-mul-mul_comm 2 q 2 q in
    omega arith

next_root : (q : ℕ) → 2 * (q + 1) - 1 ≡ 2 * q + 1
next_root q = omega arith

-- 4n is even and an odd square is not
strict : (n q a : ℕ) → a ≡ 4 * (q * q) + 4 * q + 1 → 4 * n ≤ a → 4 * n < a
strict n q a e h = omega arith

pub nearest_root_law : (n : ℕ) → 0 < n → n < 2 ^ 48 → Nearest n (nearest_root n)
unfolding nearest_root
nearest_root_law n lo hi =
    let d = digits_law 25 n 0 (is_true (below_root 0 n) (lt→ltb 0 (4 * n) (start n lo))) (is_false (below_root 33554432 n) (le→nltb 4503599493152769 (4 * n) (end n hi))) in
    let q = digits 25 n 0 in
    record {
      above = ltb→lt ((2 * q - 1) * (2 * q - 1)) (4 * n) (T_of d.0);
      under = strict n q ((2 * q + 1) * (2 * q + 1)) (odd_square q)
          (subst (λ (x : ℕ). 4 * n ≤ x * x) (next_root q) (nltb→le ((2 * (q + 1) - 1) * (2 * (q + 1) - 1)) (4 * n) (subst (λ (b : Bool). T (not b)) (sym d.1) tt)));
    }
  where
    start : (n : ℕ) → 0 < n → 0 < 4 * n
    start n h = omega arith

    end : (n : ℕ) → n < 2 ^ 48 → 4 * n ≤ 4503599493152769
    end n h = omega arith

-- ---- there is one nearest root

square_mono : (a b : ℕ) → a ≤ b → a * a ≤ b * b
square_mono a b h = mul-le-mul h h

no_less : (n q r : ℕ) → Nearest n q → Nearest n r → q < r → ⊥
no_less n q r x y h = clash (4 * n) ((2 * q + 1) * (2 * q + 1)) ((2 * r - 1) * (2 * r - 1)) x.under (square_mono (2 * q + 1) (2 * r - 1) (between q r h)) y.above
  where
    between : (q r : ℕ) → q < r → 2 * q + 1 ≤ 2 * r - 1
    between q r h = omega arith

    clash : (a b c : ℕ) → a < b → b ≤ c → c < a → ⊥
    clash a b c h k l = omega arith

pub nearest_unique : (n q r : ℕ) → Nearest n q → Nearest n r → q ≡ r
nearest_unique n q r x y = le_antisymm (under q r (no_less n r q y x)) (under r q (no_less n q r x y))
  where
    under : (a b : ℕ) → (b < a → ⊥) → a ≤ b
    under a b f = elim (order b a) [ inl h ↦ absurd (f h) | inr h ↦ h ]

-- ---- how many digits a number has

pub size_exact : (a n : ℕ) → 2 ^ a ≤ n → n < 2 ^ suc a → size n ≡ suc a
size_exact a n lo hi = le_antisymm (size-le n (suc a) hi) (lt_of_not-le (λ (g : size n ≤ a). not-le_of_lt (lt_of_lt_of_le (size-lt n) (pow_mono g)) lo))

-- ---- m * 2 ^ j units, with suc a digits: h is half of them, and n = m * 2 ^ w is the number whose root is taken

module _ (m j a h w : ℕ) (lo : 2 ^ a ≤ m * 2 ^ j) (hi : m * 2 ^ j < 2 ^ suc a) (H : h ≡ suc a / 2) (W : w + 2 * h ≡ j + 47) where
  pub scaled : m * 2 ^ w * 2 ^ (2 * h) ≡ m * 2 ^ j * 2 ^ 47
  scaled =
      mul_assoc m (2 ^ w) (2 ^ (2 * h))
      ∙ ap (λ (x : ℕ). m * x) (sym (pow-add 2 w (2 * h)) ∙ ap (λ (x : ℕ). 2 ^ x) W ∙ pow-add 2 j 47)
      ∙ sym (mul_assoc m (2 ^ j) (2 ^ 47))

  pub n_lo : 2 ^ 46 ≤ m * 2 ^ w
  n_lo =
      le_of_mul-le-mul_right
      (le_trans (le_of_eq (sym (pow-add 2 46 (2 * h))))
      (le_trans (pow_mono {i = 46 + 2 * h} {j = a + 47} (room a h H))
      (le_trans (le_of_eq (pow-add 2 a 47))
      (le_trans (mul-le-mul_right (2 ^ 47) lo) (le_of_eq (sym scaled))))))
      (pow_pos (2 * h))
    where
      room : (a h : ℕ) → h ≡ suc a / 2 → 46 + 2 * h ≤ a + 47
      room a h e = omega arith

  pub n_hi : m * 2 ^ w < 2 ^ 48
  n_hi =
      lt_of_mul-lt-mul_right (2 ^ (2 * h))
      (subst (λ (x : ℕ). x < 2 ^ 48 * 2 ^ (2 * h)) (sym scaled)
      (lt_of_lt_of_le (mul-lt-mul_of_pos_right hi (pow_pos 47))
      (le_trans (le_of_eq (sym (pow-add 2 (suc a) 47))) (le_trans (pow_mono {i = suc a + 47} {j = 48 + 2 * h} (room a h H)) (le_of_eq (pow-add 2 48 (2 * h)))))))
    where
      room : (a h : ℕ) → h ≡ suc a / 2 → suc a + 47 ≤ 48 + 2 * h
      room a h e = omega arith

  pub root_is : root_of_units (m * 2 ^ j) ≡ odd 24 false (nearest_root (m * 2 ^ w)) (h + 51) 149
  unfolding root_of_units
  root_is =
      ap (λ (z : ℕ). odd 24 false (nearest_root (m * 2 ^ j * 2 ^ 47 / 2 ^ (2 * z))) (z + 51) 149) (ap (λ (x : ℕ). x / 2) (size_exact a (m * 2 ^ j) lo hi) ∙ sym H)
      ∙ ap (λ (z : ℕ). odd 24 false (nearest_root z) (h + 51) 149) (ap (λ (z : ℕ). z / 2 ^ (2 * h)) (sym scaled) ∙ mul-div_cancel (m * 2 ^ w) (pow_pos (2 * h)))

-- ---- the root of such an n has 24 digits

module _ (n : ℕ) (lo : 2 ^ 46 ≤ n) (hi : n ≤ 281474959933440) where
  law : Nearest n (nearest_root n)
  law = nearest_root_law n (omega arith) (omega arith)

  pub root_lo : 8388608 ≤ nearest_root n
  root_lo = le_of_lt_suc (lt_of_not-le (λ (g : suc (nearest_root n) ≤ 8388608). clash n (mul-le-mul (odd_le (nearest_root n) g) (odd_le (nearest_root n) g)) law.under lo))
    where
      le_of_lt_suc : 8388608 < suc (nearest_root n) → 8388608 ≤ nearest_root n
      le_of_lt_suc h = omega arith

      odd_le : (q : ℕ) → suc q ≤ 8388608 → 2 * q + 1 ≤ 16777215
      odd_le q h = omega arith

      clash : (n : ℕ) {s : ℕ} → s ≤ 281474943156225 → 4 * n < s → 70368744177664 ≤ n → ⊥
      clash n a b c = omega arith

  pub root_hi : nearest_root n < 16777216
  root_hi = lt_of_not-le (λ (g : 16777216 ≤ nearest_root n). clash n (mul-le-mul (odd_ge (nearest_root n) g) (odd_ge (nearest_root n) g)) law.above hi)
    where
      odd_ge : (q : ℕ) → 16777216 ≤ q → 33554431 ≤ 2 * q - 1
      odd_ge q h = omega arith

      clash : (n : ℕ) {s : ℕ} → 1125899839733761 ≤ s → s < 4 * n → n ≤ 281474959933440 → ⊥
      clash n a b c = omega arith
