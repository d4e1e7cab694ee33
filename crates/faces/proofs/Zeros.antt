-- Two floats that differ at most in the sign of a zero, and what does not tell them apart.
-- Assumes nothing.
use Prim.Native.Nat.compare
use Prim.Native.Nat.{ℕ, zero, suc, ◌-◌, ◌*◌, ◌<◌, compare, zero-le}
use mathlib.Core.Path.{◌≡◌, refl, sym, ◌∙◌, subst}
use mathlib.Core.Bool.{Bool, true, false, not, ◌&&◌, cond}
use native.Mathlib.Nat.{zero-mul, mul-one, add-zero, zero-add, zero-div, zero-mod, mul-pos, zero-lt-suc}
use native.Mathlib.Omega.{arith}
use borrow.Author.Tests.{lt-ltb, le-ltb}
use lib.Dec.{ltb}
use lib.IntN.{ℤ, pos}
use lib.Ieee.{Float, nan, inf, fin, binary32, of_bits, up, down, unlike, nearest, size, odd, units, round, neg, sum, add, sub, div, lt, is_nan, to_signed}
use lib.Ieee.Fits.{up_pos}
use Rattle.float.specs.Whole.{minimum, maximum, floor_of, ceil_of, of_whole}

abbrev zero_of : Bool → Float
zero_of s = fin s 0 (pos 0)

pub data Alike : Float → Float → Type 0 where
  same : {x : Float} → Alike x x
  zeros : {s t : Bool} → Alike (zero_of s) (zero_of t)

of_eq : {x y : Float} → x ≡ y → Alike x y
of_eq {x} e = subst (λ (z : Float). Alike x z) e same

near : (u : ℕ) → nearest 0 (compare 0 u) ≡ 0
near zero = refl
near (suc u) = rw (compare.zero-suc u) refl

-- what is rounded from nothing is a zero
pub round_zero : (s : Bool) (c : ℕ) → round binary32 s 0 c ≡ zero_of s
unfolding round units odd size
round_zero s c = rw (zero-div c, zero-div (c * 1), zero-mod (c * 1), near (c * 1)) refl

-- a comparison with a zero looks at the other side alone
above : Float → Bool
above nan = false
above (inf t) = not t
above (fin t n e) = not t && ltb 0 (n * up e)

under : Float → Bool
under nan = false
under (inf t) = t
under (fin t n e) = t && ltb 0 (n * up e)

zero_lt : (s : Bool) (y : Float) → lt (zero_of s) y ≡ above y
unfolding lt above
zero_lt s nan = refl
zero_lt s (inf t) = refl
zero_lt false (fin false n e) = rw (zero-mul (down e), mul-one (n * up e))
zero_lt false (fin true n e) = refl
zero_lt true (fin false n e) = rw (zero-mul (down e), mul-one (n * up e), zero-add (n * up e))
zero_lt true (fin true n e) = rw (zero-mul (down e)) (le-ltb (n * up e * 1) 0 zero-le)

lt_zero : (x : Float) (t : Bool) → lt x (zero_of t) ≡ under x
unfolding lt under
lt_zero nan t = refl
lt_zero (inf s) t = refl
lt_zero (fin false m e) false = rw (zero-mul (down e)) (le-ltb (m * up e * 1) 0 zero-le)
lt_zero (fin false m e) true = refl
lt_zero (fin true m e) false = rw (zero-mul (down e), mul-one (m * up e), add-zero (m * up e))
lt_zero (fin true m e) true = rw (zero-mul (down e), mul-one (m * up e))

lt_left : (x y z : Float) → Alike x y → lt x z ≡ lt y z
lt_left x y z same = refl
lt_left x y z (zeros {s} {t}) = zero_lt s z ∙ sym (zero_lt t z)

lt_right : (x y z : Float) → Alike x y → lt z x ≡ lt z y
lt_right x y z same = refl
lt_right x y z (zeros {s} {t}) = lt_zero z s ∙ sym (lt_zero z t)

no_number : (x y : Float) → Alike x y → is_nan x ≡ is_nan y
unfolding is_nan
no_number x y same = refl
no_number x y zeros = refl

pub join : {x y z : Float} → Alike x y → Alike y z → Alike x z
join same g = g
join zeros same = zeros
join zeros zeros = zeros

picked : (a b : Bool) {x y : Float} (z : Float) → Alike x y → Alike (cond a z (cond b z x)) (cond a z (cond b z y))
picked true b z h = same
picked false true z h = same
picked false false z h = h

-- a minimum and a maximum of numbers that differ in the sign of a zero
pub min_alike : (x y z : Float) → Alike x y → Alike (minimum x z) (minimum y z)
unfolding minimum
min_alike x y z h = rw (sym (no_number x y h), sym (lt_right x y z h)) (picked (is_nan x) (lt z x) z h)

pub max_alike : (x y z : Float) → Alike x y → Alike (maximum x z) (maximum y z)
unfolding maximum
max_alike x y z h = rw (sym (no_number x y h), sym (lt_left x y z h)) (picked (is_nan x) (lt x z) z h)

-- division by 16, floor and ceiling
pub div_alike : (x y : Float) → Alike x y → Alike (div binary32 x (of_bits binary32 0x4180_0000)) (div binary32 y (of_bits binary32 0x4180_0000))
unfolding div of_bits
div_alike x y same = same
div_alike x y (zeros {s} {t}) = join (of_eq (round_zero (unlike s false) 16)) (join zeros (of_eq (sym (round_zero (unlike t false) 16))))

floor_zero : (s : Bool) → floor_of (zero_of s) ≡ zero_of s
unfolding floor_of of_whole
floor_zero true = round_zero true 1
floor_zero false = round_zero false 1

ceil_zero : (s : Bool) → ceil_of (zero_of s) ≡ zero_of s
unfolding ceil_of of_whole
ceil_zero true = round_zero true 1
ceil_zero false = round_zero false 1

pub floor_alike : {x y : Float} → Alike x y → Alike (floor_of x) (floor_of y)
floor_alike same = same
floor_alike (zeros {s} {t}) = join (of_eq (floor_zero s)) (join zeros (of_eq (sym (floor_zero t))))

pub ceil_alike : {x y : Float} → Alike x y → Alike (ceil_of x) (ceil_of y)
ceil_alike same = same
ceil_alike (zeros {s} {t}) = join (of_eq (ceil_zero s)) (join zeros (of_eq (sym (ceil_zero t))))

-- a difference: with a zero on one side it is the other side, rounded, or a zero
neg_alike : {x y : Float} → Alike x y → Alike (neg x) (neg y)
unfolding neg
neg_alike same = same
neg_alike zeros = zeros

-- a sum of nothing and b / c, with b above 0, has b's sign
plus_left : (s t : Bool) (b c : ℕ) → 0 < b → sum binary32 s 0 t b c ≡ round binary32 t b c
unfolding sum
plus_left true true b c h = rw (zero-add b) refl
plus_left true false b c h = let z : b - 0 ≡ b = omega arith in rw (lt-ltb 0 b h, z) refl
plus_left false true b c h = let z : b - 0 ≡ b = omega arith in rw (lt-ltb 0 b h, z) refl
plus_left false false b c h = rw (zero-add b) refl

plus_right : (s t : Bool) (a c : ℕ) → 0 < a → sum binary32 s a t 0 c ≡ round binary32 s a c
unfolding sum
plus_right true true a c h = rw (add-zero a) refl
plus_right true false a c h = let z : a - 0 ≡ a = omega arith in rw (le-ltb a 0 zero-le, lt-ltb 0 a h, z) refl
plus_right false true a c h = let z : a - 0 ≡ a = omega arith in rw (le-ltb a 0 zero-le, z) refl
plus_right false false a c h = rw (add-zero a) refl

sign_of : Bool → Bool → Bool
sign_of true t = t
sign_of false t = false

nothing : (s t : Bool) (c : ℕ) → sum binary32 s 0 t 0 c ≡ zero_of (sign_of s t)
unfolding sum sign_of
nothing true true c = round_zero true c
nothing true false c = round_zero false c
nothing false true c = round_zero false c
nothing false false c = round_zero false c

some : (n : ℕ) (e : ℤ) → 0 < suc n * up e * 1
some n e = rw (mul-one (suc n * up e)) (mul-pos (zero-lt-suc n) (up_pos e))

add_left : (s t : Bool) (y : Float) → Alike (add binary32 (zero_of s) y) (add binary32 (zero_of t) y)
unfolding add
add_left s t nan = same
add_left s t (inf u) = same
add_left s t (fin u zero e) =
    rw (zero-mul (down e), zero-mul (up e)) (join (of_eq (nothing s u (1 * down e))) (join zeros (of_eq (sym (nothing t u (1 * down e))))))
add_left s t (fin u (suc n) e) =
    rw (zero-mul (down e)) (of_eq (plus_left s u (suc n * up e * 1) (1 * down e) (some n e) ∙ sym (plus_left t u (suc n * up e * 1) (1 * down e) (some n e))))

add_right : (s t : Bool) (x : Float) → Alike (add binary32 x (zero_of s)) (add binary32 x (zero_of t))
unfolding add
add_right s t nan = same
add_right s t (inf u) = same
add_right s t (fin u zero e) =
    rw (zero-mul (down e), zero-mul (up e)) (join (of_eq (nothing u s (down e * 1))) (join zeros (of_eq (sym (nothing u t (down e * 1))))))
add_right s t (fin u (suc n) e) =
    rw (zero-mul (down e)) (of_eq (plus_right u s (suc n * up e * 1) (down e * 1) (some n e) ∙ sym (plus_right u t (suc n * up e * 1) (down e * 1) (some n e))))

pub add_alike : {x y z w : Float} → Alike x y → Alike z w → Alike (add binary32 x z) (add binary32 y w)
add_alike same same = same
add_alike {x} same (zeros {s} {t}) = add_right s t x
add_alike {x} {y} {z} (zeros {s} {t}) same = add_left s t z
add_alike (zeros {s} {t}) (zeros {s = u} {t = v}) = join (add_left s t (zero_of u)) (add_right u v (zero_of t))

pub sub_alike : {x y z w : Float} → Alike x y → Alike z w → Alike (sub binary32 x z) (sub binary32 y w)
unfolding sub
sub_alike h g = add_alike h (neg_alike g)

cast_zero : (s : Bool) → to_signed 15 (zero_of s) ≡ pos 0
unfolding to_signed
cast_zero true = refl
cast_zero false = refl

pub cast_alike : {x y : Float} → Alike x y → to_signed 15 x ≡ to_signed 15 y
cast_alike same = refl
cast_alike (zeros {s} {t}) = cast_zero s ∙ sym (cast_zero t)
