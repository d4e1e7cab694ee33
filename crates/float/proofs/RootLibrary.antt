-- The library's `sqrt` at the values of an `f32` is that of `specs/Root.antt`: `sqrt_of_library`. It takes the whole part of a root with more than two thousand binary places,
-- half a place more where the root goes on, and rounds that; `Root` takes the whole number that is nearest to the root of n, of 24 digits. No multiple of half a unit
-- of those 24 digits lies between the root and what is rounded, so the two give the same. Assumes nothing.
use Rattle.std.proofs.Common.{◌≡◌, ℕ, zero, suc, ◌+◌, ◌-◌, ◌*◌, ◌/◌, ◌%◌, ◌^◌, ◌<◌, ◌≤◌, Bool, true, false, cond, not, ◌&&◌, T, eqb, ltb, leb, ℤ, pos, negsuc, sym, refl, ap, ◌∙◌, subst, le_trans, le_of_eq, lt_of_lt_of_le, lt_of_le_of_lt, le_of_lt, lt_of_not-le, not-le_of_lt, zero-lt-suc, mul_assoc, mul_comm, mul_right_comm, mul_left_comm, add-mul, mul-le-mul, mul-le-mul_right, mul-lt-mul_of_pos_right, lt_of_mul-lt-mul_right, mul-pos, mul-one, one-mul, div-add-mod', mod-lt, div-lt_iff_lt-mul, le-div_iff_mul-le, mul-div_cancel, arith, lit<, ltb→lt, lt→ltb, leb→le, eqb→eq, pow_pos, pow_mono, pow-add, shl_lt}
use Prim.Native.Nat.{compare, Ordering}
use native.Mathlib.Nat.{mul-mul-mul_comm, pow-succ'}
use lib.Dec.{is_le, compare_is_eq, nleb→lt}
use lib.Count.{count_trailing_zeros, under}
use lib.Ieee.{Float, nan, inf, fin, binary32, up, down, minus, size, nearest, odd, units, round, root_below, root_twice, fits}
use lib.Ieee as Ieee
use lib.Ieee.Fits.{down_pos, and_r, round_is}
use lib.Ieee.Nearest.{closest, closest_same, div_same}
use lib.Ieee.Order.{drop}
use lib.Ieee.Root.{whole_part}
use Rattle.float.proofs.Compare.{fits_down}
use Rattle.float.specs.Root.{nearest_root, root_of_units, sqrt}
use Rattle.float.proofs.RootLaws.{Nearest, nearest_root_law, n_lo, scaled, root_is, root_hi, size_exact}
use Rattle.float.proofs.RootNearest as Near

-- ---- a / b is q to the nearest whole number where it is less than a half from q

module _ (a b q : ℕ) (lo : (2 * q - 1) * b < 2 * a) (hi : 2 * a < (2 * q + 1) * b) where
  spread : (k : ℕ) → (2 * (a / b) + k) * b ≡ 2 * (a / b * b) + k * b
  spread k = add-mul (2 * (a / b)) k b ∙ ap (λ (x : ℕ). x + k * b) (mul_assoc 2 (a / b) b)

  from_under : (k : ℕ) → 2 * (a / b * b) + k * b ≤ 2 * a → 2 * (a / b) + k < 2 * q + 1
  from_under k h = lt_of_mul-lt-mul_right b (lt_of_le_of_lt (le_trans (le_of_eq (spread k)) h) hi)

  from_over : (k : ℕ) → 2 * a ≤ 2 * (a / b * b) + k * b → 2 * q - 1 < 2 * (a / b) + k
  from_over k h = lt_of_mul-lt-mul_right b (lt_of_lt_of_le lo (le_trans h (le_of_eq (sym (spread k)))))

  closest_is : 0 < b → closest a b ≡ q
  closest_is B = go (compare (a % b * 2) b) (leb→le (a % b * 2) b) (nleb→lt (a % b * 2) b) (eqb→eq (a % b * 2) b)
    where
      parts : a / b * b + a % b ≡ a
      parts = div-add-mod' a b

      go : (o : Ordering) → (T (is_le o) → a % b * 2 ≤ b) → (T (not (is_le o)) → b < a % b * 2) → (T (compare_is_eq o) → a % b * 2 ≡ b) → nearest (a / b) o ≡ q
      go Ordering.lt h k e = omega (arith, from_under 0 (omega (arith, parts)), from_over 1 (omega (arith, parts, h tt)))
      go Ordering.eq h k e = absurd (omega (arith, from_under 1 (omega (arith, parts, e tt)), from_over 1 (omega (arith, parts, e tt))))
      go Ordering.gt h k e = omega (arith, from_under 1 (omega (arith, parts, k tt)), from_over 2 (omega (arith, parts, mod-lt a B)))

-- ---- twice the root of M = 4n * B², with a half where it goes on: between 2pB and 2sB for p below twice the root of n and s above it

square_back : (a b : ℕ) → a * a < b * b → a < b
square_back a b h = lt_of_not-le (λ (g : b ≤ a). not-le_of_lt h (mul-le-mul g g))

module _ (n B r : ℕ) (P : 0 < B) (lo : r * r ≤ 4 * n * (B * B)) (hi : 4 * n * (B * B) < (r + 1) * (r + 1)) where
  abbrev M : ℕ
  M = 4 * n * (B * B)

  abbrev t : ℕ
  t = 2 * r + cond (eqb (r * r) M) 0 1

  scaled_square : (p : ℕ) → p * B * (p * B) ≡ p * p * (B * B)
  scaled_square p = mul-mul-mul_comm p B p B

  twice_above : (p : ℕ) → p * p < 4 * n → 2 * (p * B) < t
  twice_above p h = go (eqb (r * r) M) (eqb→eq (r * r) M)
    where
      below : p * B * (p * B) < M
      below = lt_of_le_of_lt (le_of_eq (scaled_square p)) (mul-lt-mul_of_pos_right h (mul-pos P P))

      go : (b : Bool) → (T b → r * r ≡ M) → 2 * (p * B) < 2 * r + cond b 0 1
      go true e = omega (arith, square_back (p * B) r (lt_of_lt_of_le below (le_of_eq (sym (e tt)))))
      go false e = omega (arith, square_back (p * B) (r + 1) (lt_of_lt_of_le below (le_of_lt hi)))

  twice_from : (p : ℕ) → p * p ≤ 4 * n → 2 * (p * B) ≤ t
  twice_from p h = omega (arith, square_back (p * B) (r + 1) (lt_of_le_of_lt (le_trans (le_of_eq (scaled_square p)) (mul-le-mul_right (B * B) h)) hi))

  twice_under : (s : ℕ) → 4 * n < s * s → t < 2 * (s * B)
  twice_under s h = go (eqb (r * r) M) (s * B) (square_back r (s * B) (lt_of_le_of_lt lo (lt_of_lt_of_le (mul-lt-mul_of_pos_right h (mul-pos P P)) (le_of_eq (sym (scaled_square s))))))
    where
      go : (b : Bool) (x : ℕ) → r < x → 2 * r + cond b 0 1 < 2 * x
      go true x h = omega arith
      go false x h = omega arith

-- ---- what `round` makes of t / (D * 2 ^ 149): with D * 2 ^ k for a unit, 24 digits are left of it, and they are q

has_digits : (v k : ℕ) → 2 ^ (k + 23) ≤ v → v < 2 ^ (k + 24) → size v - 24 ≡ k
has_digits v k lo hi = ap (λ (x : ℕ). x - 24) (size_exact (k + 23) v lo (lt_of_lt_of_le hi (pow_mono {i = k + 24} {j = suc (k + 23)} (omega arith)))) ∙ omega arith

module _ (t D k q : ℕ) (P : 0 < D) (least : 8388608 * (D * 2 ^ k) ≤ t) (most : t < 16777216 * (D * 2 ^ k)) (lo : (2 * q - 1) * (D * 2 ^ k) < 2 * t) (hi : 2 * t < (2 * q + 1) * (D * 2 ^ k)) where
  drops : drop 24 (t * 2 ^ 149) (D * 2 ^ 149) ≡ k
  drops =
      ap (λ (x : ℕ). size x - 24) (div_same (t * 2 ^ 149) (D * 2 ^ 149) t D (mul-pos P (pow_pos 149)) P (mul_right_comm t (2 ^ 149) D ∙ mul_assoc t D (2 ^ 149)))
      ∙ has_digits (t / D) k
      ((le-div_iff_mul-le P).1 (le_trans (le_of_eq (ap (λ (x : ℕ). x * D) (pow-add 2 k 23) ∙ turn (2 ^ k) 8388608 D)) least))
      ((div-lt_iff_lt-mul P).1 (lt_of_lt_of_le most (le_of_eq (sym (ap (λ (x : ℕ). x * D) (pow-add 2 k 24) ∙ turn (2 ^ k) 16777216 D)))))
    where
      turn : (p c D : ℕ) → p * c * D ≡ c * (D * p)
      turn p c D = ap (λ (x : ℕ). x * D) (mul_comm p c) ∙ mul_assoc c p D ∙ ap (λ (x : ℕ). c * x) (mul_comm p D)

  keeps : closest (t * 2 ^ 149) (D * 2 ^ 149 * 2 ^ k) ≡ q
  keeps =
      closest_same (t * 2 ^ 149) (D * 2 ^ 149 * 2 ^ k) t (D * 2 ^ k) (mul-pos (mul-pos P (pow_pos 149)) (pow_pos k)) (mul-pos P (pow_pos k))
      (mul_assoc t (2 ^ 149) (D * 2 ^ k) ∙ ap (λ (x : ℕ). t * x) (mul_comm (2 ^ 149) (D * 2 ^ k) ∙ mul_right_comm D (2 ^ k) (2 ^ 149)))
      ∙ closest_is t (D * 2 ^ k) q lo hi (mul-pos P (pow_pos k))

  rounds_to : round binary32 false t (D * 2 ^ 149) ≡ units binary32 false q k
  rounds_to =
      round_is binary32 false t (D * 2 ^ 149)
      ∙ ap (λ (z : ℕ). units binary32 false (closest (t * 2 ^ 149) (D * 2 ^ 149 * 2 ^ z)) z) drops
      ∙ ap (λ (z : ℕ). units binary32 false z k) keeps

-- ---- a number below 2 ^ d has no more zeros at its end in d + 1 digits than in d

same_zeros : (d q : ℕ) → 0 < q → q < 2 ^ d → count_trailing_zeros (suc d) q ≡ count_trailing_zeros d q
unfolding count_trailing_zeros
same_zeros zero q h k = absurd (omega arith)
same_zeros (suc d) q h k = go (q % 2) refl (λ e. same_zeros d (q / 2) (omega arith) (omega (arith, subst (λ (x : ℕ). q < x) (pow-succ' 2 d) k)))
  where
    go : (r : ℕ) → q % 2 ≡ r → (q % 2 ≡ 0 → count_trailing_zeros (suc d) (q / 2) ≡ count_trailing_zeros d (q / 2))
        → under r (count_trailing_zeros (suc d) (q / 2)) ≡ under r (count_trailing_zeros d (q / 2))
    go zero e f = ap suc (f e)
    go (suc r) e f = refl

same_odd : (d q k l : ℕ) → q < 2 ^ d → odd (suc d) false q k l ≡ odd d false q k l
unfolding odd
same_odd d zero k l h = refl
same_odd d (suc q) k l h = ap (λ (t : ℕ). fin false (suc q / 2 ^ t) (minus (k + t) l)) (same_zeros d (suc q) (zero-lt-suc q) h)

units_are : (q k : ℕ) → q < 16777216 → k ≤ 253 → units binary32 false q k ≡ odd 24 false q k 149
unfolding units
units_are q k h K =
    go (ltb (q * 2 ^ k) (2 ^ 277)) (lt→ltb (q * 2 ^ k) (2 ^ 277) (lt_of_lt_of_le (shl_lt 24 k h) (pow_mono {i = 24 + k} {j = 277} (omega arith)))) ∙ same_odd 24 q k 149 h
  where
    go : (b : Bool) → T b → cond b (odd 25 false q k 149) (inf false) ≡ odd 25 false q k 149
    go true t = refl
    go false t = absurd t

-- ---- the root of N = m * 2 ^ j units, as the library takes it: M is N * 2 ^ 4393, which is 4n * B², and the unit of the 24 digits is 4B

root_twice_is : (M : ℕ) → root_twice M ≡ 2 * root_below (size M) M + cond (eqb (root_below (size M) M * root_below (size M) M) M) 0 1
unfolding root_twice
root_twice_is M = refl

module _ (n h : ℕ) (lo : 2 ^ 46 ≤ n) (top : n ≤ 281474959933440) where
  abbrev B : ℕ
  B = 2 ^ (h + 2172)

  abbrev big : ℕ
  big = 4 * n * (B * B)

  abbrev root : ℕ
  root = root_below (size big) big

  abbrev q : ℕ
  q = nearest_root n

  law : Nearest n q
  law = nearest_root_law n (lt_of_lt_of_le (lit< {m = 0} {n = 2 ^ 46} tt) lo) (lt_of_le_of_lt top (lit< {m = 281474959933440} {n = 2 ^ 48} tt))

  -- the unit
  unit_is : 2 ^ 2123 * 2 ^ (h + 51) ≡ 4 * B
  unit_is = sym (pow-add 2 2123 (h + 51)) ∙ ap (λ (x : ℕ). 2 ^ x) (regroup h) ∙ pow-add 2 2 (h + 2172)
    where
      regroup : (h : ℕ) → 2123 + (h + 51) ≡ 2 + (h + 2172)
      regroup h = omega arith

  rounded : round binary32 false (root_twice big) (2 ^ 2272) ≡ units binary32 false q (h + 51)
  rounded =
      let w = whole_part big in
      let t = 2 * root + cond (eqb (root * root) big) 0 1 in
      let P : 0 < B = pow_pos (h + 2172) in
      ap (λ (z : ℕ). round binary32 false z (2 ^ 2272)) (root_twice_is big)
      ∙ rounds_to t (2 ^ 2123) (h + 51) q (pow_pos 2123)
      (subst (λ (x : ℕ). 8388608 * x ≤ t) (sym unit_is) (omega (arith, twice_from n B root P w.0 w.1 16777216 (omega (arith, lo)))))
      (subst (λ (x : ℕ). t < 16777216 * x) (sym unit_is) (omega (arith, twice_under n B root P w.0 w.1 33554432 (omega (arith, top)))))
      (subst (λ (x : ℕ). (2 * q - 1) * x < 2 * t) (sym unit_is) (subst (λ (x : ℕ). x < 2 * t) (mul_left_comm 4 (2 * q - 1) B) (omega (arith, twice_above n B root P w.0 w.1 (2 * q - 1) law.above))))
      (subst (λ (x : ℕ). 2 * t < (2 * q + 1) * x) (sym unit_is) (subst (λ (x : ℕ). 2 * t < x) (mul_left_comm 4 (2 * q + 1) B) (omega (arith, twice_under n B root P w.0 w.1 (2 * q + 1) law.under))))

module _ (m j : ℕ) (D : m < 16777216) (P : 0 < m) (U : m * 2 ^ j < 2 ^ 277) where
  abbrev a : ℕ
  a = Near.a m j D P

  abbrev h : ℕ
  h = Near.h m j D P

  abbrev w : ℕ
  w = Near.w m j D P

  abbrev n : ℕ
  n = m * 2 ^ w

  N-lo : 2 ^ a ≤ m * 2 ^ j
  N-lo = Near.N-lo m j D P

  N-hi : m * 2 ^ j < 2 ^ suc a
  N-hi = Near.N-hi m j D P

  W : w + 2 * h ≡ j + 47
  W = Near.W m j D P

  n-lo : 2 ^ 46 ≤ n
  n-lo = n_lo m j a h w N-lo N-hi refl W

  n-top : n ≤ 281474959933440
  n-top = Near.top m j D P

  big_is : m * 2 ^ j * 2 ^ 4393 ≡ 4 * n * (2 ^ (h + 2172) * 2 ^ (h + 2172))
  big_is =
      sym (mul_assoc 4 n (2 ^ (h + 2172) * 2 ^ (h + 2172))
      ∙ ap (λ (x : ℕ). 4 * x)
      (ap (λ (x : ℕ). n * x) (sym (pow-add 2 (h + 2172) (h + 2172)) ∙ ap (λ (x : ℕ). 2 ^ x) (regroup h) ∙ pow-add 2 (2 * h) 4344)
      ∙ sym (mul_assoc n (2 ^ (2 * h)) (2 ^ 4344))
      ∙ ap (λ (x : ℕ). x * 2 ^ 4344) (scaled m j a h w N-lo N-hi refl W)
      ∙ mul_assoc (m * 2 ^ j) (2 ^ 47) (2 ^ 4344))
      ∙ mul_comm 4 (m * 2 ^ j * 2 ^ 4391)
      ∙ mul_assoc (m * 2 ^ j) (2 ^ 4391) 4)
    where
      regroup : (h : ℕ) → h + 2172 + (h + 2172) ≡ 2 * h + 4344
      regroup h = omega arith

  h-top : h + 51 ≤ 253
  h-top = half a (lt_of_not-le (λ (g : 277 ≤ a). not-le_of_lt U (le_trans (pow_mono {i = 277} {j = a} g) N-lo)))
    where
      half : (a : ℕ) → a < 277 → suc a / 2 + 51 ≤ 253
      half a h = omega arith

  root_of_library : round binary32 false (root_twice (m * 2 ^ j * 2 ^ 4393)) (2 ^ 2272) ≡ root_of_units (m * 2 ^ j)
  root_of_library =
      ap (λ (z : ℕ). round binary32 false (root_twice z) (2 ^ 2272)) big_is
      ∙ rounded n h n-lo n-top
      ∙ units_are (nearest_root n) (h + 51) (root_hi n n-lo n-top) h-top
      ∙ sym (root_is m j a h w N-lo N-hi refl W)

-- ---- the law

fits_top : (m : ℕ) (e : ℤ) → T (fits binary32 (fin false (suc m) e)) → suc m * up e < 2 ^ 128 * down e
unfolding fits
fits_top m e t = ltb→lt (suc m * up e) (2 ^ 128 * down e) (and_r (eqb (suc m % 2) 1 && ltb (suc m) (2 ^ 24) && leb (down e) (2 ^ 149)) (ltb (suc m * up e) (2 ^ 128 * down e)) t)

-- a zero that fits has the exponent 0
two_up : (p : ℕ) → 0 < p → 2 * p ≡ 1 → ⊥
two_up p h e = omega arith

flat : (e : ℤ) → up e * down e ≡ 1 → e ≡ pos 0
flat (pos zero) h = refl
flat (pos (suc k)) h = absurd (two_up (2 ^ k) (pow_pos k) (sym (pow-succ' 2 k) ∙ sym (mul-one (2 ^ suc k)) ∙ h))
flat (negsuc k) h = absurd (two_up (2 ^ k) (pow_pos k) (sym (pow-succ' 2 k) ∙ sym (one-mul (2 ^ suc k)) ∙ h))

zero_is : (s : Bool) (e : ℤ) → T (fits binary32 (fin s zero e)) → e ≡ pos 0
unfolding fits
zero_is s e t = flat e (eqb→eq (up e * down e) 1 t)

pub sqrt_of_library : (x : Float) → T (fits binary32 x) → Ieee.sqrt binary32 x ≡ sqrt x
unfolding Ieee.sqrt sqrt
sqrt_of_library nan t = refl
sqrt_of_library (inf true) t = refl
sqrt_of_library (inf false) t = refl
sqrt_of_library (fin s zero e) t = ap (λ z. fin s zero z) (sym (zero_is s e t))
sqrt_of_library (fin true (suc m) e) t = refl
sqrt_of_library (fin false (suc m) e) t =
    let p = Near.placed_value (suc m) e (fits_down binary32 false (suc m) e t) in
    let j = p.0 in
    let U : suc m * 2 ^ j < 2 ^ 277 = below (suc m * 2 ^ j) (suc m * up e) (down e) p.1 (fits_top m e t) in
    ap (λ (z : ℕ). round binary32 false (root_twice z) (2 ^ 2272)) (far (suc m * up e) (suc m * 2 ^ j) (down e) (down_pos e) p.1)
    ∙ root_of_library (suc m) j (Near.fits_digits false (suc m) e t) (zero-lt-suc m) U
    ∙ ap root_of_units (sym (ap (λ (z : ℕ). z / down e) p.1 ∙ mul-div_cancel (suc m * 2 ^ j) (down_pos e)))
  where
    below : (N u d : ℕ) → u * 2 ^ 149 ≡ N * d → u < 2 ^ 128 * d → N < 2 ^ 277
    below N u d e h = lt_of_mul-lt-mul_right d (lt_of_le_of_lt (le_of_eq (sym e)) (lt_of_lt_of_le (mul-lt-mul_of_pos_right h (pow_pos 149)) (le_of_eq (mul_right_comm (2 ^ 128) d (2 ^ 149)))))

    far : (u N d : ℕ) → 0 < d → u * 2 ^ 149 ≡ N * d → u * 2 ^ 4542 / d ≡ N * 2 ^ 4393
    far u N d h e = ap (λ (x : ℕ). x / d) (sym (mul_assoc u (2 ^ 149) (2 ^ 4393)) ∙ ap (λ (x : ℕ). x * 2 ^ 4393) e ∙ mul_right_comm N d (2 ^ 4393)) ∙ mul-div_cancel (N * 2 ^ 4393) h
