-- 1 / root of the eight f32 next to 1: it is 1 + 2 ^ -23 (0x3f800001), 1, or 1 - 2 ^ -23 (0x3f7ffffe), and a number times 1 is itself, so
-- that normalising a vector whose square is one of them works out no root. Assumes nothing.
use mathlib.Core.Path.{◌≡◌, refl, sym, ap, ◌∙◌, subst}
use Prim.Native.Nat.{ℕ, zero, suc, ◌+◌, ◌-◌, ◌*◌, ◌/◌, ◌%◌, ◌^◌, ◌≤◌, ◌<◌}
use native.Mathlib.Nat.{one-mul, mul-one, zero-mul, mul_assoc, mul_right_comm, lt_of_lt_of_le, lt_of_le_of_lt, lt_irrefl}
use native.Mathlib.Omega.{arith}
use mathlib.Core.Logic.{inl, inr}
use mathlib.Core.Bool.{Bool, true, false, ◌&&◌, cond}
use lib.Dec.{T, leb, ltb, eqb, leb→le, ltb→lt}
use lib.IntN.{ℤ, pos, negsuc}
use lib.Pow.{pow-add, pow_pos, pow_mono, pow-lt, shl_lt}
use lib.Ieee.{Float, nan, inf, fin, binary32, prec, low, hid, top, unlike, up, down, size, fits, of_bits, to_bits, div, mul, round}
use lib.Ieee.Bits.{of_bits-to_bits}
use lib.Ieee.Exact.{HasValue, round_exact}
use lib.Ieee.Nearest.{div_same}
use lib.Ieee.Fits.{and_l, and_r, down_pos, round-fits}
use Rattle.float.proofs.Compare.{order}
use Rattle.float.specs.Root as Root
use Rattle.math.specs.Vector as Vec
use Rattle.math.specs.declared.vector.Vector3.{Vector3}
use Rattle.math.proofs.Fits.{Fits3, dot_fits}

-- ---- two f32 that have one value are equal

-- the bit pattern of a magnitude of n units of 2 ^ -149
abbrev pattern : Bool → ℕ → ℕ
pattern s n = let k = size n - prec binary32 in cond s (top binary32) 0 + k * hid binary32 + n / 2 ^ k

pattern_of : (x : Float) (s : Bool) (a c : ℕ) → 0 < c → HasValue x s a c → to_bits binary32 x ≡ pattern s (a * 2 ^ low binary32 / c)
unfolding to_bits
pattern_of nan s a c C v = absurd v
pattern_of (inf t) s a c C v = absurd v
pattern_of (fin t m e) s a c C v =
    ap (pattern t)
    (div_same (m * up e * 2 ^ low binary32) (down e) (a * 2 ^ low binary32) c (down_pos e) C
    (mul_right_comm (m * up e) (2 ^ low binary32) c ∙ ap (λ (n : ℕ). n * 2 ^ low binary32) v.1 ∙ mul_right_comm a (down e) (2 ^ low binary32)))
    ∙ ap (λ (u : Bool). pattern u (a * 2 ^ low binary32 / c)) v.0

one_value : (x y : Float) (s : Bool) (a c : ℕ) → 0 < c → T (fits binary32 x) → T (fits binary32 y) → HasValue x s a c → HasValue y s a c → x ≡ y
one_value x y s a c C X Y v w =
    sym (of_bits-to_bits binary32 x X) ∙ ap (of_bits binary32) (pattern_of x s a c C v ∙ sym (pattern_of y s a c C w)) ∙ of_bits-to_bits binary32 y Y

-- ---- a number times 1 is itself

-- a value that an f32 holds is q * 2 ^ j units of 2 ^ -149, with 24 binary digits in q
record Held (m : ℕ) (e : ℤ) : Type 0 where
  q : ℕ
  j : ℕ
  small : q < 2 ^ 24
  fine : q * 2 ^ j < 2 ^ 277
  level : m * up e * 2 ^ 149 ≡ q * 2 ^ j * down e

held : (s : Bool) (m : ℕ) (e : ℤ) → T (fits binary32 (fin s m e)) → Held m e
unfolding fits
held s zero e t = record { q = 0; j = 0; small = pow_pos 24; fine = pow_pos 277; level = simp (zero-mul) }
held s (suc m) (pos k) t =
    let a = eqb (suc m % 2) 1 && ltb (suc m) (2 ^ 24) in
    let b = a && leb 1 (2 ^ 149) in
    let g = ltb→lt (suc m * 2 ^ k) (2 ^ 128 * 1) (and_r b (ltb (suc m * 2 ^ k) (2 ^ 128 * 1)) t) in
    let f : suc m * 2 ^ k * 2 ^ 149 ≡ suc m * 2 ^ (k + 149) = mul_assoc (suc m) (2 ^ k) (2 ^ 149) ∙ ap (λ (n : ℕ). suc m * n) (sym (pow-add 2 k 149)) in
    record {
      q = suc m;
      j = k + 149;
      small = ltb→lt (suc m) (2 ^ 24) (and_r (eqb (suc m % 2) 1) (ltb (suc m) (2 ^ 24)) (and_l a (leb 1 (2 ^ 149)) (and_l b (ltb (suc m * 2 ^ k) (2 ^ 128 * 1)) t)));
      fine = subst (λ (n : ℕ). n < 2 ^ 277) f (shl_lt 128 149 g);
      level = f ∙ sym (mul-one (suc m * 2 ^ (k + 149)));
    }
held s (suc m) (negsuc k) t =
    let a = eqb (suc m % 2) 1 && ltb (suc m) (2 ^ 24) in
    let b = a && leb (2 ^ suc k) (2 ^ 149) in
    let u = and_l b (ltb (suc m * 1) (2 ^ 128 * 2 ^ suc k)) t in
    let l = ltb→lt (suc m) (2 ^ 24) (and_r (eqb (suc m % 2) 1) (ltb (suc m) (2 ^ 24)) (and_l a (leb (2 ^ suc k) (2 ^ 149)) u)) in
    let h = exponent (suc k) 149 (leb→le (2 ^ suc k) (2 ^ 149) (and_r a (leb (2 ^ suc k) (2 ^ 149)) u)) in
    record {
      q = suc m;
      j = 149 - suc k;
      small = l;
      fine = lt_of_lt_of_le (shl_lt 24 (149 - suc k) l) (pow_mono {i = 24 + (149 - suc k)} {j = 277} (room (suc k)));
      level =
          ap (λ (n : ℕ). n * 2 ^ 149) (mul-one (suc m))
          ∙ ap (λ (n : ℕ). suc m * n) (ap (λ (n : ℕ). 2 ^ n) (sym (rest (suc k) h)) ∙ pow-add 2 (149 - suc k) (suc k))
          ∙ sym (mul_assoc (suc m) (2 ^ (149 - suc k)) (2 ^ suc k));
    }
  where
    exponent : (i j : ℕ) → 2 ^ i ≤ 2 ^ j → i ≤ j
    exponent i j h = elim (order j i) [ inl l ↦ absurd (lt_irrefl (2 ^ i) (lt_of_le_of_lt h (pow-lt l))) | inr l ↦ l ]

    room : (i : ℕ) → 24 + (149 - i) ≤ 277
    room i = omega arith

    rest : (i : ℕ) → i ≤ 149 → 149 - i + i ≡ 149
    rest i h = omega arith

unlike_false : (s : Bool) → unlike false s ≡ s
unlike_false true = refl
unlike_false false = refl

pub one_times : (x : Float) → T (fits binary32 x) → mul binary32 Vec.one32 x ≡ x
unfolding of_bits mul
one_times nan t = refl
one_times (inf true) t = refl
one_times (inf false) t = refl
one_times (fin s m e) t =
    let h = held s m e t in
    ap (λ (u : Bool). round binary32 u (1 * (m * up e)) (1 * down e)) (unlike_false s)
    ∙ ap (λ (n : ℕ). round binary32 s n (1 * down e)) (one-mul (m * up e))
    ∙ ap (λ (n : ℕ). round binary32 s (m * up e) n) (one-mul (down e))
    ∙ one_value (round binary32 s (m * up e) (down e)) (fin s m e) s (m * up e) (down e) (down_pos e) (round-fits binary32 s (m * up e) (down e)) t
    (round_exact binary32 s (m * up e) (down e) h.q h.j (down_pos e) h.small h.fine h.level)
    (refl, refl)

-- ---- 1 / root at the eight f32 next to 1: four below it, 1 and the one above it, and the next two

abbrev pub inverse_root : Float → Float
inverse_root d = div binary32 Vec.one32 (Root.sqrt d)

below_one : (k : ℕ) → k < 4 → inverse_root (of_bits binary32 (k + 0x3f7f_fffc)) ≡ of_bits binary32 0x3f80_0001
unfolding Root.sqrt Root.root_of_units Root.nearest_root Root.digits of_bits div
below_one zero h = refl
below_one (suc zero) h = refl
below_one (suc (suc zero)) h = refl
below_one (suc (suc (suc zero))) h = refl
below_one (suc (suc (suc (suc k)))) h = absurd (omega arith)

at_one : (k : ℕ) → k < 2 → inverse_root (of_bits binary32 (k + 0x3f80_0000)) ≡ Vec.one32
unfolding Root.sqrt Root.root_of_units Root.nearest_root Root.digits of_bits div
at_one zero h = refl
at_one (suc zero) h = refl
at_one (suc (suc k)) h = absurd (omega arith)

above_one : (k : ℕ) → k < 2 → inverse_root (of_bits binary32 (k + 0x3f80_0002)) ≡ of_bits binary32 0x3f7f_fffe
unfolding Root.sqrt Root.root_of_units Root.nearest_root Root.digits of_bits div
above_one zero h = refl
above_one (suc zero) h = refl
above_one (suc (suc k)) h = absurd (omega arith)

-- a number and its pattern
module _ (d : Float) {b : ℕ} (F : T (fits binary32 d)) (B : b ≡ to_bits binary32 d) where
  -- the number is the f32 of its pattern
  number_is : (n : ℕ) → b ≡ n → d ≡ of_bits binary32 n
  number_is n e = sym (of_bits-to_bits binary32 d F) ∙ ap (of_bits binary32) (sym B ∙ e)

  pub inverse_below : 0x3f7f_fffc ≤ b → b < 0x3f80_0000 → inverse_root d ≡ of_bits binary32 0x3f80_0001
  inverse_below l u = ap inverse_root (number_is (b - 0x3f7f_fffc + 0x3f7f_fffc) (omega arith)) ∙ below_one (b - 0x3f7f_fffc) (omega arith)

  pub inverse_at : 0x3f80_0000 ≤ b → b < 0x3f80_0002 → inverse_root d ≡ Vec.one32
  inverse_at l u = ap inverse_root (number_is (b - 0x3f80_0000 + 0x3f80_0000) (omega arith)) ∙ at_one (b - 0x3f80_0000) (omega arith)

  pub inverse_above : 0x3f80_0002 ≤ b → b < 0x3f80_0004 → inverse_root d ≡ of_bits binary32 0x3f7f_fffe
  inverse_above l u = ap inverse_root (number_is (b - 0x3f80_0002 + 0x3f80_0002) (omega arith)) ∙ above_one (b - 0x3f80_0002) (omega arith)

-- ---- normalising a vector whose square is 1 or the next f32

pub normalize_at : (v : Vector3) {d : Float} {b : ℕ} → d ≡ Vec.dot v v → b ≡ to_bits binary32 d → Fits3 v → 0x3f80_0000 ≤ b → b < 0x3f80_0002 → Vec.normalize v ≡ v
unfolding Vec.normalize
normalize_at v D B f l u =
    ap (λ (i : Float). Vec.scaled i v) (inverse_at (Vec.dot v v) (dot_fits v v) (B ∙ ap (to_bits binary32) D) l u)
    ∙ simp (one_times v.x f.x_fits, one_times v.y f.y_fits, one_times v.z f.z_fits)
