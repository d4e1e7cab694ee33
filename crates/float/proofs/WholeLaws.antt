-- What `x != x` says of a NaN, and `floor_value` and `ceil_value`: `floor_of` and `ceil_of` have the whole number as their value that they hand to `round`. `floor_above` and `i16_below`: from 2 ^ 23 on a float is its own floor, and at -2 ^ 15 and below it the cast is the lowest `i16`. Assumes nothing.
use Rattle.std.proofs.Common.{◌≡◌, ℕ, zero, suc, ◌+◌, ◌-◌, ◌*◌, ◌/◌, ◌%◌, ◌^◌, ◌<◌, ◌≤◌, min, Bool, true, false, cond, not, ◌&&◌, ◌||◌, T, eqb, ltb, leb, ◌⊎◌, ℤ, pos, negsuc, neg_ℤ, sym, refl, ap, ◌∙◌, subst, inl, inr, le_trans, le_of_eq, lt_of_lt_of_le, le_of_suc-le-suc, lt_irrefl, zero-lt-suc, mul_assoc, div-lt_iff_lt-mul, mul-lt-mul_of_pos_right, mul-pos, zero-mul, mul-one, arith, lit<, lit≤, ltb→lt, pow_pos, pow-add, le-div_iff_mul-le, eqb→eq}
use native.Mathlib.Nat.{le-suc, pow-succ'}
use lib.Arith.{digits_div}
use lib.Ieee.{Float, nan, inf, fin, Format, binary32, prec, emax, low, up, down, round, neg, ne, le, fits, is_nan, of_bits, to_signed}
use mathlib.Core.Bool.{false≢true}
use lib.Ieee.Fits.{and_l, and_r, down_pos, round-fits}
use lib.Ieee.Exact.{HasValue, round_exact}
use lib.Ieee.Back.{round_whole, whole_unique}
use Rattle.float.specs.Whole.{cut, raised, of_whole, floor_of, ceil_of}
use Rattle.float.proofs.Compare.{eq_self, T_of, or_cases, order}
use Rattle.float.proofs.Rounded as Rounded

-- ---- min and max

pub not_nan : (x : Float) → ne x x ≡ false → is_nan x ≡ false
unfolding ne
not_nan x h = sym (double (is_nan x)) ∙ ap not (sym (eq_self x)) ∙ h
  where
    double : (b : Bool) → not (not b) ≡ b
    double true = refl
    double false = refl

pub is_nan_lem : (x : Float) → ne x x ≡ true → is_nan x ≡ true
unfolding ne
is_nan_lem x h = sym (double (is_nan x)) ∙ ap not (sym (eq_self x)) ∙ h
  where
    double : (b : Bool) → not (not b) ≡ b
    double true = refl
    double false = refl

-- ---- a sign moves through `round`

neg_neg : (x : Float) → neg (neg x) ≡ x
unfolding neg
neg_neg nan = refl
neg_neg (inf true) = refl
neg_neg (inf false) = refl
neg_neg (fin true m e) = refl
neg_neg (fin false m e) = refl

pub round_neg : (f : Format) (s : Bool) (a c : ℕ) → neg (round f s a c) ≡ round f (not s) a c
round_neg f true a c = ap neg (Rounded.round_neg f a c) ∙ neg_neg (round f false a c)
round_neg f false a c = sym (Rounded.round_neg f a c)

-- ---- whole quotients, and what is whole already

fits_odd : (f : Format) (s : Bool) (m : ℕ) (e : ℤ) → T (fits f (fin s (suc m) e)) → (suc m < 2 ^ prec f) × (suc m * up e < 2 ^ suc (emax f) * down e)
unfolding fits
fits_odd f s m e t =
    let a = eqb (suc m % 2) 1 in
    let b = ltb (suc m) (2 ^ prec f) in
    let c = leb (down e) (2 ^ low f) in
    let d = ltb (suc m * up e) (2 ^ suc (emax f) * down e) in (
      ltb→lt (suc m) (2 ^ prec f) (and_r a b (and_l (a && b) c (and_l (a && b && c) d t))),
      ltb→lt (suc m * up e) (2 ^ suc (emax f) * down e) (and_r (a && b && c) d t),
    )

-- `raised` and `cut` at a whole quotient
raised_whole : (a d q : ℕ) → 0 < d → a ≡ q * d → raised a d ≡ q
raised_whole a d q D e = ap (λ (x : ℕ). (x + (d - 1)) / d) e ∙ digits_div q (pred_lt d D)
  where
    pred_lt : (d : ℕ) → 0 < d → d - 1 < d
    pred_lt d h = omega arith

cut_whole : (a d q : ℕ) → 0 < d → a ≡ q * d → cut a d ≡ q
cut_whole a d q D e = ap (λ (x : ℕ). x / d) (e ∙ sym (plus q d)) ∙ digits_div q D
  where
    plus : (q d : ℕ) → q * d + 0 ≡ q * d
    plus q d = omega arith

-- a magnitude of 2 ^ 23 at least is whole: with a fraction it would have more than 24 digits
big_shape : (s : Bool) (m : ℕ) (e : ℤ) → T (fits binary32 (fin s m e)) → 8388608 * down e ≤ m * up e * 1 → (k : ℕ) × (e ≡ pos k)
big_shape s m (pos k) F h = (k, refl)
big_shape s zero (negsuc k) F h = absurd (lt_irrefl 0 (lt_of_lt_of_le (mul-pos (lit< {m = 0} {n = 8388608} tt) (pow_pos (suc k))) h))
big_shape s (suc m) (negsuc k) F h = absurd (clash (suc m) (2 ^ k) (fits_odd binary32 s m (negsuc k) F).0 (pow_pos k) (le_trans (le_of_eq (sym (grow k))) (le_trans h (le_of_eq (mul-one (suc m * 1) ∙ mul-one (suc m))))))
  where
    grow : (k : ℕ) → 8388608 * 2 ^ suc k ≡ 16777216 * 2 ^ k
    grow k = ap (λ (x : ℕ). 8388608 * x) (pow-succ' 2 k) ∙ sym (mul_assoc 8388608 2 (2 ^ k))

    clash : (m p : ℕ) → m < 16777216 → 0 < p → 16777216 * p ≤ m → ⊥
    clash m p a b c = omega arith

room : (k : ℕ) (m : ℕ) → m * 2 ^ k < 2 ^ 128 * 1 → m * 2 ^ (k + 149) < 2 ^ 277
room k m h =
    subst (λ (x : ℕ). x < 2 ^ 277) (mul_assoc m (2 ^ k) (2 ^ 149) ∙ ap (λ (x : ℕ). m * x) (sym (pow-add 2 k 149)))
    (mul-lt-mul_of_pos_right {k = 2 ^ 149} (subst (λ (x : ℕ). m * 2 ^ k < x) (mul-one (2 ^ 128)) h) (pow_pos 149))

exact_big : (s : Bool) (m k : ℕ) → T (fits binary32 (fin s (suc m) (pos k))) → HasValue (round binary32 s (suc m * 2 ^ k) 1) s (suc m * 2 ^ k) 1
exact_big s m k F =
    let b = fits_odd binary32 s m (pos k) F in
    round_exact binary32 s (suc m * 2 ^ k) 1 (suc m) (k + 149) (zero-lt-suc 0) b.0 (room k (suc m) b.1)
    (mul_assoc (suc m) (2 ^ k) (2 ^ 149) ∙ ap (λ (x : ℕ). suc m * x) (sym (pow-add 2 k 149)) ∙ sym (mul-one (suc m * 2 ^ (k + 149))))

-- ---- where a float is its own floor, and where the cast to an `i16` is at its lowest

-- x is a / d with d dividing a, so it is its own floor
floor_keeps : (s : Bool) (m : ℕ) (e : ℤ) (q : ℕ) → T (fits binary32 (fin s m e)) → m * up e ≡ q * down e → HasValue (round binary32 s q 1) s q 1 → fin s m e ≡ floor_of (fin s m e)
unfolding floor_of of_whole
floor_keeps s m e q F h v =
    whole_unique binary32 (fin s m e) (round binary32 s q 1) s q F (round-fits binary32 s q 1) (refl, mul-one (m * up e) ∙ h) v
    ∙ ap (λ (n : ℕ). round binary32 s n 1) (sym (either s))
  where
    either : (b : Bool) → cond b (raised (m * up e) (down e)) (cut (m * up e) (down e)) ≡ q
    either true = raised_whole (m * up e) (down e) q (down_pos e) h
    either false = cut_whole (m * up e) (down e) q (down_pos e) h

floor_big : (s : Bool) (m : ℕ) (e : ℤ) → T (fits binary32 (fin s m e)) → 8388608 * down e ≤ m * up e * 1 → fin s m e ≡ floor_of (fin s m e)
floor_big s zero e F h = absurd (lt_irrefl 0 (lt_of_lt_of_le (mul-pos (lit< {m = 0} {n = 8388608} tt) (down_pos e)) (le_trans h (le_of_eq (mul-one (0 * up e) ∙ zero-mul (up e))))))
floor_big s (suc m) e F h =
    let z = big_shape s (suc m) e F h in
    subst (λ (x : ℤ). fin s (suc m) x ≡ floor_of (fin s (suc m) x)) (sym z.1)
    (floor_keeps s (suc m) (pos z.0) (suc m * 2 ^ z.0) (subst (λ (x : ℤ). T (fits binary32 (fin s (suc m) x))) z.1 F) (sym (mul-one (suc m * 2 ^ z.0)))
    (exact_big s m z.0 (subst (λ (x : ℤ). T (fits binary32 (fin s (suc m) x))) z.1 F)))

-- what `le` says of two magnitudes
le_bool : (a b : ℕ) (z : Bool) → T (ltb a b || (eqb a b && z)) → a ≤ b
le_bool a b z t = elim (or_cases (ltb a b) (eqb a b && z) t) [
  | inl u ↦ le_trans (le-suc a) (ltb→lt a b u)
  | inr u ↦ le_of_eq (eqb→eq a b (and_l (eqb a b) z u))
]

-- and of two that are below zero
le_turned : (a b : ℕ) → T (ltb b a || (eqb a b && true)) → b ≤ a
le_turned a b t = elim (or_cases (ltb b a) (eqb a b && true) t) [
  | inl u ↦ le_trans (le-suc b) (ltb→lt b a u)
  | inr u ↦ le_of_eq (sym (eqb→eq a b (and_l (eqb a b) true u)))
]

-- a number above zero is not level with a value of the other sign
not_level : (a b : ℕ) → 0 < a → T (false || (eqb a b && (false || eqb a 0))) → ⊥
not_level a b h t = lt_irrefl 0 (subst (λ (x : ℕ). 0 < x) (eqb→eq a 0 (and_r (eqb a b) (eqb a 0) t)) h)

not_level' : (a b : ℕ) → 0 < b → T (false || (eqb a b && (false || eqb a 0))) → ⊥
not_level' a b h t = lt_irrefl 0 (subst (λ (x : ℕ). 0 < x) (sym (eqb→eq a b (and_l (eqb a b) (eqb a 0) t)) ∙ eqb→eq a 0 (and_r (eqb a b) (eqb a 0) t)) h)

-- From 2 ^ 23 on, the pattern 0x4b000000, a float is whole, and so its own floor.
pub floor_above : (x : Float) → fits binary32 x ≡ true → le (of_bits binary32 0x4b000000) x ≡ true → x ≡ floor_of x
unfolding le of_bits
floor_above nan F h = unfold floor_of in refl
floor_above (inf s) F h = unfold floor_of in refl
floor_above (fin true m e) F h = absurd (not_level (8388608 * down e) (m * up e * 1) (mul-pos (lit< {m = 0} {n = 8388608} tt) (down_pos e)) (T_of h))
floor_above (fin false m e) F h = floor_big false m e (T_of F) (le_bool (8388608 * down e) (m * up e * 1) true (T_of h))

-- At -2 ^ 15 and below it, which is the pattern 0x47000000 negated, the cast is the lowest `i16`.
pub i16_below : (x : Float) → le x (neg (of_bits binary32 0x47000000)) ≡ true → negsuc 32767 ≡ to_signed 15 x
unfolding le to_signed of_bits neg
i16_below nan h = absurd (false≢true h)
i16_below (inf true) h = refl
i16_below (inf false) h = absurd (false≢true h)
i16_below (fin false m e) h = absurd (not_level' (m * up e * 1) (32768 * down e) (mul-pos (lit< {m = 0} {n = 32768} tt) (down_pos e)) (T_of h))
i16_below (fin true m e) h = ap (λ (q : ℕ). neg_ℤ (pos q)) (capped (m * up e / down e) (reaches (le_turned (m * up e * 1) (32768 * down e) (T_of h))))
  where
    capped : (q : ℕ) → 32768 ≤ q → 32768 ≡ min q 32768
    capped q k = omega arith

    reaches : 32768 * down e ≤ m * up e * 1 → 32768 ≤ m * up e / down e
    reaches h = (le-div_iff_mul-le (down_pos e)).1 (subst (λ (x : ℕ). 32768 * down e ≤ x) (mul-one (m * up e)) h)

-- ---- `round` changes nothing at the numbers that `floor_of` and `ceil_of` hand it

raised_small : (a d : ℕ) → 0 < d → a * 1 < 8388608 * d → raised a d ≤ 16777216
raised_small a d D h = le_of_suc-le-suc (le_trans ((div-lt_iff_lt-mul {k = d} {x = a + (d - 1)} {y = 8388609} D).1 (under a d D (mul-one a) h)) (lit≤ {m = 8388609} {n = 16777217} tt))
  where
    under : (a d : ℕ) {b : ℕ} → 0 < d → b ≡ a → b < 8388608 * d → a + (d - 1) < 8388609 * d
    under a d D e h = omega arith

cut_small : (a d : ℕ) → 0 < d → a * 1 < 8388608 * d → cut a d ≤ 16777216
cut_small a d D h = le_trans (le-suc (cut a d)) (le_trans ((div-lt_iff_lt-mul D).1 (subst (λ (x : ℕ). x < 8388608 * d) (mul-one a) h)) (lit≤ {m = 8388608} {n = 16777216} tt))

-- a number q that is m * 2 ^ e cut, or moved up
abbrev OfValue : ℕ → ℤ → ℕ → Type 0
OfValue m e q = (q ≡ cut (m * up e) (down e)) ⊎ (q ≡ raised (m * up e) (down e))

whole_exact : (s : Bool) (m : ℕ) (e : ℤ) (q : ℕ) → T (fits binary32 (fin s m e)) → OfValue m e q → HasValue (round binary32 s q 1) s q 1
whole_exact s m e q F o = elim (order (m * up e * 1) (8388608 * down e)) [
  | inl h ↦ round_whole binary32 s q (small h o)
  | inr h ↦ large m F h o
]
  where
    small : m * up e * 1 < 8388608 * down e → OfValue m e q → q ≤ 16777216
    small h (inl i) = le_trans (le_of_eq i) (cut_small (m * up e) (down e) (down_pos e) h)
    small h (inr i) = le_trans (le_of_eq i) (raised_small (m * up e) (down e) (down_pos e) h)

    large : (m : ℕ) → T (fits binary32 (fin s m e)) → 8388608 * down e ≤ m * up e * 1 → OfValue m e q → HasValue (round binary32 s q 1) s q 1
    large zero F h o = absurd (lt_irrefl 0 (lt_of_lt_of_le (mul-pos (lit< {m = 0} {n = 8388608} tt) (down_pos e)) (le_trans h (le_of_eq (mul-one (0 * up e) ∙ zero-mul (up e))))))
    large (suc m) F h o =
        let z = big_shape s (suc m) e F h in
        let F' = subst (λ (x : ℤ). T (fits binary32 (fin s (suc m) x))) z.1 F in
        subst (λ (n : ℕ). HasValue (round binary32 s n 1) s n 1) (sym (is z.0 (subst (λ (x : ℤ). OfValue (suc m) x q) z.1 o))) (exact_big s m z.0 F')
      where
        is : (k : ℕ) → OfValue (suc m) (pos k) q → q ≡ suc m * 2 ^ k
        is k (inl i) = i ∙ cut_whole (suc m * 2 ^ k) 1 (suc m * 2 ^ k) (zero-lt-suc 0) (sym (mul-one (suc m * 2 ^ k)))
        is k (inr i) = i ∙ raised_whole (suc m * 2 ^ k) 1 (suc m * 2 ^ k) (zero-lt-suc 0) (sym (mul-one (suc m * 2 ^ k)))

pub floor_value : (s : Bool) (m : ℕ) (e : ℤ) → T (fits binary32 (fin s m e)) → HasValue (floor_of (fin s m e)) s (cond s (raised (m * up e) (down e)) (cut (m * up e) (down e))) 1
unfolding floor_of
floor_value true m e F = whole_exact true m e (raised (m * up e) (down e)) F (inr refl)
floor_value false m e F = whole_exact false m e (cut (m * up e) (down e)) F (inl refl)

pub ceil_value : (s : Bool) (m : ℕ) (e : ℤ) → T (fits binary32 (fin s m e)) → HasValue (ceil_of (fin s m e)) s (cond s (cut (m * up e) (down e)) (raised (m * up e) (down e))) 1
unfolding ceil_of
ceil_value true m e F = whole_exact true m e (cut (m * up e) (down e)) F (inl refl)
ceil_value false m e F = whole_exact false m e (raised (m * up e) (down e)) F (inr refl)
