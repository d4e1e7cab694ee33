-- `sqrt x` is the `f32` nearest to the root of x: for every other `f32` y, the root of x lies on the side of `sqrt x` of the middle between the two.
-- With each in units of 2 ^ -149, as N, R and Y, that is said by whole-number squares: (Y + R)² < 4 * N * 2 ^ 149 for Y below R, and the other way round above it. Assumes nothing.
use Rattle.std.proofs.Common.{◌≡◌, ℕ, zero, suc, ◌+◌, ◌-◌, ◌*◌, ◌/◌, ◌%◌, ◌^◌, ◌<◌, ◌≤◌, Bool, true, false, ◌&&◌, T, eqb, ltb, leb, ◌⊎◌, ℤ, pos, negsuc, sym, refl, ap, ◌∙◌, subst, inl, inr, zero-le, le_trans, le_of_eq, lt_of_lt_of_le, le_of_suc-le-suc, lt_of_le_of_lt, le_of_lt, lt_irrefl, mul-le-mul_right, zero-lt-suc, mul_assoc, lt-suc_self, suc-mul, add-mul, mul-le-mul, lt_of_mul-lt-mul_right, eq-or-lt_of_le, mul-le-mul_left, mul-lt-mul_of_pos_right, mul-pos, one-mul, pow-suc, lt_of_not-le, mul-one, not-le_of_lt, mul-div_cancel, arith, lit<, lit≤, ltb→lt, pow_pos, pow_mono, pow-add, shl_lt}
use native.Mathlib.Nat.{mul-mul-mul_comm}
use lib.Pow.{pow-lt}
use lib.Ieee.{Float, nan, inf, fin, binary32, up, down, size, odd, fits}
use lib.Ieee.Fits.{down_pos, and_l, and_r}
use lib.Ieee.Digits.{size-lt, size_reaches}
use lib.Ieee.Exact.{HasValue, odd_sign}
use lib.Ieee.Positive.{positive}
use Rattle.float.proofs.Compare.{order, fits_down}
use Rattle.float.specs.Root.{nearest_root, root_of_units, sqrt}
use Rattle.float.proofs.RootLaws.{Nearest, nearest_root_law, n_lo, n_hi, scaled, root_is, root_lo}

-- a finite value's size in units of 2 ^ -149
abbrev pub in_units : Float → ℕ
in_units nan = 0
in_units (inf s) = 0
in_units (fin s m e) = m * up e * 2 ^ 149 / down e

-- ---- the units of a value that fits: m * 2 ^ j, with m of 24 digits

pow_le_back : (a l : ℕ) → 2 ^ a ≤ 2 ^ l → a ≤ l
pow_le_back a l h = le_of_suc-le-suc (lt_of_not-le (λ (g : suc l ≤ a). lt_irrefl (2 ^ l) (lt_of_lt_of_le (pow-lt g) h)))

pub fits_digits : (s : Bool) (m : ℕ) (e : ℤ) → T (fits binary32 (fin s m e)) → m < 16777216
unfolding fits
fits_digits s zero e t = lit< tt
fits_digits s (suc m) e t =
    let a = eqb (suc m % 2) 1 in
    let b = ltb (suc m) (2 ^ 24) in
    let c = leb (down e) (2 ^ 149) in
    ltb→lt (suc m) 16777216 (and_r a b (and_l (a && b) c (and_l (a && b && c) (ltb (suc m * up e) (2 ^ 128 * down e)) t)))

pub placed_value : (m : ℕ) (e : ℤ) → down e ≤ 2 ^ 149 → (j : ℕ) × (m * up e * 2 ^ 149 ≡ m * 2 ^ j * down e)
placed_value m (pos k) h = (k + 149, mul_assoc m (2 ^ k) (2 ^ 149) ∙ ap (λ (x : ℕ). m * x) (sym (pow-add 2 k 149)) ∙ sym (mul-one (m * 2 ^ (k + 149))))
placed_value m (negsuc k) h =
    let g : suc k ≤ 149 = pow_le_back (suc k) 149 h in (
      149 - suc k,
      ap (λ (x : ℕ). x * 2 ^ 149) (mul-one m)
          ∙ ap (λ (x : ℕ). m * x) (ap (λ (x : ℕ). 2 ^ x) (sym (back k g)) ∙ pow-add 2 (149 - suc k) (suc k))
          ∙ sym (mul_assoc m (2 ^ (149 - suc k)) (2 ^ suc k)),
    )
  where
    back : (k : ℕ) → suc k ≤ 149 → 149 - suc k + suc k ≡ 149
    back k h = omega arith

placed : (m : ℕ) (e : ℤ) → down e ≤ 2 ^ 149 → (j : ℕ) × (m * up e * 2 ^ 149 / down e ≡ m * 2 ^ j)
placed m e h = let p = placed_value m e h in (p.0, ap (λ (x : ℕ). x / down e) p.1 ∙ mul-div_cancel (m * 2 ^ p.0) (down_pos e))

-- ---- the grid: at 2 ^ 23 steps of size G and above, every such value is a multiple of G

on_grid : (m j g : ℕ) → m < 16777216 → 8388608 * 2 ^ g ≤ m * 2 ^ j → (c : ℕ) × (m * 2 ^ j ≡ c * 2 ^ g)
on_grid m j g M h = elim (order j g) [
  | inl l ↦ absurd (too_small (2 ^ j) (2 ^ g) m M (pow_pos j) (le_trans (le_of_eq (sym (dbl j))) (pow_mono l)) h)
  | inr k ↦ (m * 2 ^ (j - g), ap (λ (x : ℕ). m * x) (ap (λ (x : ℕ). 2 ^ x) (sym (back j g k)) ∙ pow-add 2 (j - g) g) ∙ sym (mul_assoc m (2 ^ (j - g)) (2 ^ g)))
]
  where
    dbl : (j : ℕ) → 2 ^ suc j ≡ 2 ^ j * 2
    dbl j = pow-suc 2 j

    back : (j g : ℕ) → g ≤ j → j - g + g ≡ j
    back j g h = omega arith

    too_small : (p q m : ℕ) → m < 16777216 → 0 < p → p * 2 ≤ q → 8388608 * q ≤ m * p → ⊥
    too_small p q m M P a b =
        let x : m * p < 16777216 * p = mul-lt-mul_of_pos_right M P in
        omega arith

-- ---- the squares

sq : (a b : ℕ) → a * b * (a * b) ≡ a * a * (b * b)
sq a b = mul-mul-mul_comm a b a b

-- below: Y ≤ (q - 1) * G, or q is least and q * G is at most the root
below_by_step : (n q G Y : ℕ) → 1 ≤ q → 0 < G → (2 * q - 1) * (2 * q - 1) < 4 * n → Y + G ≤ q * G → (Y + q * G) * (Y + q * G) < 4 * n * (G * G)
below_by_step n q G Y Q P h k =
    lt_of_le_of_lt (mul-le-mul a a) (lt_of_le_of_lt (le_of_eq (sq (2 * q - 1) G)) (mul-lt-mul_of_pos_right h (mul-pos P P)))
  where
    twice : (q G : ℕ) → 1 ≤ q → (2 * q - 1) * G + G ≡ q * G + q * G
    twice q G Q = sym (one_more (2 * q - 1) G) ∙ ap (λ (x : ℕ). x * G) (up q Q) ∙ mul_assoc 2 q G ∙ dbl (q * G)
      where
        one_more : (a G : ℕ) → suc a * G ≡ a * G + G
        one_more a G = suc-mul a G

        up : (q : ℕ) → 1 ≤ q → suc (2 * q - 1) ≡ 2 * q
        up q h = omega arith

        dbl : (x : ℕ) → 2 * x ≡ x + x
        dbl x = omega arith

    cut : (Y G R S : ℕ) → S + G ≡ R + R → Y + G ≤ R → Y + R ≤ S
    cut Y G R S e h = omega arith

    a : Y + q * G ≤ (2 * q - 1) * G
    a = cut Y G (q * G) ((2 * q - 1) * G) (twice q G Q) k

below_least : (n q G Y : ℕ) → 0 < G → q * q ≤ n → Y < q * G → (Y + q * G) * (Y + q * G) < 4 * n * (G * G)
below_least n q G Y P h k =
    lt_of_lt_of_le (square_lt (Y + q * G) (2 * q * G) (cut Y (q * G) (2 * q * G) (mul_assoc 2 q G ∙ dbl (q * G)) k))
    (le_trans (le_of_eq (sq (2 * q) G)) (mul-le-mul_right (G * G) (le_trans (le_of_eq (mul-mul-mul_comm 2 q 2 q)) (mul-le-mul_left 4 h))))
  where
    dbl : (x : ℕ) → 2 * x ≡ x + x
    dbl x = omega arith

    cut : (Y R S : ℕ) → S ≡ R + R → Y < R → Y + R < S
    cut Y R S e h = omega arith

    square_lt : (a b : ℕ) → a < b → a * a < b * b
    square_lt a b h = lt_of_le_of_lt (mul-le-mul_left a (le_of_lt h)) (mul-lt-mul_of_pos_right h (lt_of_le_of_lt zero-le h))

above_by_step : (n q G Y : ℕ) → 0 < G → 4 * n < (2 * q + 1) * (2 * q + 1) → q * G + G ≤ Y → 4 * n * (G * G) < (Y + q * G) * (Y + q * G)
above_by_step n q G Y P h k =
    lt_of_lt_of_le (mul-lt-mul_of_pos_right h (mul-pos P P)) (le_trans (le_of_eq (sym (sq (2 * q + 1) G))) (mul-le-mul a a))
  where
    dbl : (x : ℕ) → 2 * x ≡ x + x
    dbl x = omega arith

    cut : (Y G R S : ℕ) → S ≡ R + R + G → R + G ≤ Y → S ≤ Y + R
    cut Y G R S e h = omega arith

    a : (2 * q + 1) * G ≤ Y + q * G
    a = cut Y G (q * G) ((2 * q + 1) * G) (add-mul (2 * q) 1 G ∙ ap (λ (x : ℕ). x + 1 * G) (mul_assoc 2 q G ∙ dbl (q * G)) ∙ ap (λ (x : ℕ). q * G + q * G + x) (one-mul G)) k

-- ---- the units N = m * 2 ^ j, the root R = q * G with G = 2 ^ (h + 51), and any Y = k * 2 ^ i

abbrev pub Closer : ℕ → ℕ → ℕ → Type 0
Closer N R Y = (Y < R → (Y + R) * (Y + R) < 4 * N * 2 ^ 149) × (R < Y → 4 * N * 2 ^ 149 < (Y + R) * (Y + R))

next_multiple : (c q G : ℕ) → q * G < c * G → q * G + G ≤ c * G
next_multiple c q G h = le_trans (le_of_eq (sym (suc-mul q G))) (mul-le-mul_right G (lt_of_mul-lt-mul_right G h))

module _ (N n h q : ℕ) (scaled : n * 2 ^ (2 * h) ≡ N * 2 ^ 47) (law : Nearest n q) (lo : 8388608 ≤ q) (n-least : 2 ^ 46 ≤ n) (k i : ℕ) (K : k < 16777216) where
  abbrev G : ℕ
  G = 2 ^ (h + 51)

  abbrev Y : ℕ
  Y = k * 2 ^ i

  -- 4 * N * 2 ^ 149 is 4 * n * G²
  same : 4 * n * (G * G) ≡ 4 * N * 2 ^ 149
  same =
      mul_assoc 4 n (G * G)
      ∙ ap (λ (x : ℕ). 4 * x) (ap (λ (x : ℕ). n * x) (sym (pow-add 2 (h + 51) (h + 51)) ∙ ap (λ (x : ℕ). 2 ^ x) (regroup h) ∙ pow-add 2 (2 * h) 102) ∙ sym (mul_assoc n (2 ^ (2 * h)) (2 ^ 102)) ∙ ap (λ (x : ℕ). x * 2 ^ 102) scaled ∙ mul_assoc N (2 ^ 47) (2 ^ 102))
      ∙ sym (mul_assoc 4 N (2 ^ 149))
    where
      regroup : (h : ℕ) → h + 51 + (h + 51) ≡ 2 * h + 102
      regroup h = omega arith

  -- below R
  under : Y < q * G → (Y + q * G) * (Y + q * G) < 4 * n * (G * G)
  under l = elim (eq-or-lt_of_le lo) [
    | inl e ↦ below_least n q G Y (pow_pos (h + 51)) (subst (λ (x : ℕ). x * x ≤ n) e n-least) l
    | inr g ↦ below_by_step n q G Y (le_trans (lit≤ {m = 1} {n = 8388608} tt) lo) (pow_pos (h + 51)) law.above (step g (order Y (8388608 * G)))
  ]
    where
      short : (Y q G B : ℕ) → Y < B → B + G ≤ q → Y + G ≤ q
      short Y q G B a b = omega arith

      step : 8388608 < q → (Y < 8388608 * G) ⊎ (8388608 * G ≤ Y) → Y + G ≤ q * G
      step g (inl a) = short Y (q * G) G (8388608 * G) a (le_trans (le_of_eq (sym (suc-mul 8388608 G))) (mul-le-mul_right G g))
      step g (inr a) =
          let c = on_grid k i (h + 51) K a in
          subst (λ (x : ℕ). x + G ≤ q * G) (sym c.1) (next_multiple q c.0 G (subst (λ (x : ℕ). x < q * G) c.1 l))

  over : q * G < Y → 4 * n * (G * G) < (Y + q * G) * (Y + q * G)
  over l =
      let c = on_grid k i (h + 51) K (le_trans (mul-le-mul_right G lo) (le_of_lt l)) in
      above_by_step n q G Y (pow_pos (h + 51)) law.under (subst (λ (x : ℕ). q * G + G ≤ x) (sym c.1) (next_multiple c.0 q G (subst (λ (x : ℕ). q * G < x) c.1 l)))

  closer : Closer N (q * G) Y
  closer = (λ l. subst (λ (x : ℕ). (Y + q * G) * (Y + q * G) < x) same (under l), λ l. subst (λ (x : ℕ). x < (Y + q * G) * (Y + q * G)) same (over l))

-- ---- the law

odd_units : (q g : ℕ) → in_units (odd 24 false q g 149) ≡ q * 2 ^ g
odd_units q g = of (odd 24 false q g 149) (odd_sign 24 false q g 149)
  where
    of : (x : Float) → HasValue x false (q * 2 ^ g) (2 ^ 149) → in_units x ≡ q * 2 ^ g
    of nan v = absurd v
    of (inf s) v = absurd v
    of (fin s m e) v = ap (λ (x : ℕ). x / down e) v.1 ∙ mul-div_cancel (q * 2 ^ g) (down_pos e)

module _ (m j : ℕ) (M : m < 16777216) (P : 0 < m) where
  abbrev N : ℕ
  N = m * 2 ^ j

  abbrev pub a : ℕ
  a = size N - 1

  above : 0 < size N
  above = lt_of_not-le (λ (g : size N ≤ 0). not-le_of_lt (lt_of_lt_of_le (size-lt N) (pow_mono g)) (mul-pos P (pow_pos j)))

  is_size : suc a ≡ size N
  is_size = pred (size N) above
    where
      pred : (z : ℕ) → 0 < z → suc (z - 1) ≡ z
      pred z h = omega arith

  pub N-lo : 2 ^ a ≤ N
  N-lo = size_reaches N a (subst (λ (x : ℕ). a < x) is_size (lt-suc_self a))

  pub N-hi : N < 2 ^ suc a
  N-hi = subst (λ (x : ℕ). N < 2 ^ x) (sym is_size) (size-lt N)

  abbrev pub h : ℕ
  h = suc a / 2

  abbrev pub w : ℕ
  w = j + 47 - 2 * h

  a_le : suc a ≤ 24 + j
  a_le = lt_of_not_le' (λ (g : 24 + j ≤ a). not-le_of_lt (shl_lt 24 j M) (le_trans (pow_mono g) N-lo))
    where
      lt_of_not_le' : (24 + j ≤ a → ⊥) → a < 24 + j
      lt_of_not_le' f = lt_of_not-le f

  pub W : w + 2 * h ≡ j + 47
  W = rest a j h refl a_le
    where
      rest : (a j h : ℕ) → suc a / 2 ≡ h → suc a ≤ 24 + j → j + 47 - 2 * h + 2 * h ≡ j + 47
      rest a j h e l = omega arith

  pub top : m * 2 ^ w ≤ 281474959933440
  top = elim (order 24 w) [
    | inl g ↦ multiple (m * 2 ^ w) (m * 2 ^ (w - 24)) (ap (λ (x : ℕ). m * 2 ^ x) (sym (back w g)) ∙ ap (λ (x : ℕ). m * x) (pow-add 2 (w - 24) 24) ∙ sym (mul_assoc m (2 ^ (w - 24)) (2 ^ 24))) (n_hi m j a h w N-lo N-hi refl W)
    | inr g ↦ le_trans (mul-le-mul (le_of_suc-le-suc M) (pow_mono {i = w} {j = 24} g)) (lit≤ {m = 16777215 * 2 ^ 24} {n = 281474959933440} tt)
  ]
    where
      back : (w : ℕ) → 24 < w → w - 24 + 24 ≡ w
      back w g = omega arith

      multiple : (n c : ℕ) → n ≡ c * 16777216 → n < 281474976710656 → n ≤ 281474959933440
      multiple n c e l = omega arith

  nearer : (k i : ℕ) → k < 16777216 → Closer N (in_units (root_of_units N)) (k * 2 ^ i)
  nearer k i K =
      let n = m * 2 ^ w in
      let lo = n_lo m j a h w N-lo N-hi refl W in
      subst (λ (R : ℕ). Closer N R (k * 2 ^ i)) (sym (ap in_units (root_is m j a h w N-lo N-hi refl W) ∙ odd_units (nearest_root n) (h + 51)))
      (closer N n h (nearest_root n)
      (scaled m j a h w N-lo N-hi refl W)
      (nearest_root_law n (lt_of_lt_of_le (lit< {m = 0} {n = 2 ^ 46} tt) lo) (n_hi m j a h w N-lo N-hi refl W))
      (root_lo n lo top)
      lo
      k i K)

pub sqrt_nearest : (x y : Float) → T (fits binary32 x) → T (positive x) → T (fits binary32 y) → Closer (in_units x) (in_units (sqrt x)) (in_units y)
unfolding sqrt
sqrt_nearest nan y X P F = absurd P
sqrt_nearest (inf s) y X P F = absurd P
sqrt_nearest (fin true m e) y X P F = absurd P
sqrt_nearest (fin false zero e) y X P F = absurd (lt_irrefl 0 (ltb→lt 0 0 P))
sqrt_nearest (fin false (suc m) e) y X P F =
    let p = placed (suc m) e (fits_down binary32 false (suc m) e X) in
    let near = nearer (suc m) p.0 (fits_digits false (suc m) e X) (zero-lt-suc m) in
    subst (λ (N : ℕ). Closer N (in_units (root_of_units N)) (in_units y)) (sym p.1) (at (suc m * 2 ^ p.0) (in_units (root_of_units (suc m * 2 ^ p.0))) y F near)
  where
    at : (N R : ℕ) (y : Float) → T (fits binary32 y) → ((k i : ℕ) → k < 16777216 → Closer N R (k * 2 ^ i)) → Closer N R (in_units y)
    at N R nan F f = f 0 0 (lit< tt)
    at N R (inf s) F f = f 0 0 (lit< tt)
    at N R (fin s k e) F f =
        let p = placed k e (fits_down binary32 s k e F) in
        subst (λ (z : ℕ). Closer N R z) (sym p.1) (f k p.0 (fits_digits s k e F))
