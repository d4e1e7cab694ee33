-- A group of at most 64 points as a number: the points are the places of its bits.
use Prim.Native.Nat.{ℕ, zero, suc, ◌+◌, ◌-◌, ◌*◌, ◌/◌, ◌%◌, ◌^◌, ◌<◌, ◌≤◌, min}
use native.Mathlib.Omega.{arith}
use native.Mathlib.Nat.{pow-suc}
use mathlib.Core.Bool.{Bool, true, false, cond, not}
use mathlib.Core.List.{List, [], ◌∷◌}
use mathlib.Core.Path.{◌≡◌, refl, sym, ◌∙◌, ap}
use lib.Bits.{bit_and, and_step, and_self, and_le_r}
use lib.Pow.{pow_mono}
use Rattle.std.proofs.lemmas.Nat.{pow_pos, one_shl}
use lib.Count.{count_trailing_zeros, under}
use lib.Ieee.{Float}
use mir.Val.{bool_byte}
use lib.Dec.{eqb}
use lib.ListN.{length, set}
use Rattle.math.specs.declared.vector.Axis.{Axis}
use Rattle.math.specs.declared.plane.Alignment.TheVariants.{Axis as Aligned}
use Rattle.math.specs.declared.plane.Hyperplane.{Hyperplane}
use Rattle.ways.specs.Groups.{kept, fill, in_front}
use Rattle.points.specs.Going.{point_at, axis_number, reaches, members_from, members, chosen_from, chosen, first, second, from}
use Rattle.points.proofs.Lists.{reaches_is}

-- a number without its lowest bit
abbrev pub cleared : ℕ → ℕ
cleared x = bit_and x (x - 1)

cleared_odd : (x : ℕ) → x % 2 ≡ 1 → (cleared x % 2 ≡ 0) × (cleared x / 2 ≡ x / 2)
cleared_odd x e =
    let half : (x - 1) / 2 ≡ x / 2 = omega arith in
    let same : bit_and (x / 2) ((x - 1) / 2) ≡ x / 2 = ap (bit_and (x / 2)) half ∙ and_self (x / 2) in
    let low : min (x % 2) ((x - 1) % 2) ≡ 0 = omega arith in
    omega (arith, and_step x (x - 1), same, low)

cleared_even : (x : ℕ) → 0 < x → x % 2 ≡ 0 → (cleared x % 2 ≡ 0) × (cleared x / 2 ≡ cleared (x / 2))
cleared_even x h e =
    let half : (x - 1) / 2 ≡ x / 2 - 1 = omega arith in
    let same : bit_and (x / 2) ((x - 1) / 2) ≡ cleared (x / 2) = ap (bit_and (x / 2)) half in
    let low : min (x % 2) ((x - 1) % 2) ≡ 0 = omega arith in
    omega (arith, and_step x (x - 1), same, low)

pub cleared_less : (x : ℕ) → 0 < x → cleared x < x
cleared_less x h = omega (arith, and_le_r x (x - 1))

-- its lowest bit
pub cleared_by : (n x : ℕ) → 0 < x → x < 2 ^ n → cleared x + 2 ^ count_trailing_zeros n x ≡ x
unfolding count_trailing_zeros
cleared_by zero x h m = absurd (omega arith)
cleared_by (suc n) x h m = go (x % 2) refl (λ k. cleared_by n (x / 2) k (omega (arith, pow-suc 2 n)))
  where
    go : (d : ℕ) → x % 2 ≡ d → (0 < x / 2 → cleared (x / 2) + 2 ^ count_trailing_zeros n (x / 2) ≡ x / 2) → cleared x + 2 ^ under d (count_trailing_zeros n (x / 2)) ≡ x
    go zero e ih = let c = cleared_even x h e in omega (arith, c.0, c.1, ih (omega arith), pow-suc 2 (count_trailing_zeros n (x / 2)))
    go (suc zero) e ih = let c = cleared_odd x e in omega (arith, c.0, c.1)
    go (suc (suc d)) e ih = absurd (omega arith)

-- ---- the members, one by one

pub members_none : (n i : ℕ) → members_from n i 0 ≡ []
unfolding members_from
members_none zero i = refl
members_none (suc n) i = members_none n (suc i)

members_step : (n i x : ℕ) → 0 < x → (d : ℕ) → x % 2 ≡ d → (0 < x / 2 → members_from n (suc i) (x / 2) ≡ (suc i + count_trailing_zeros n (x / 2)) ∷ members_from n (suc i) (cleared (x / 2)))
    → cond (eqb d 1) (i ∷ members_from n (suc i) (x / 2)) (members_from n (suc i) (x / 2))
    ≡ (i + under d (count_trailing_zeros n (x / 2))) ∷ cond (eqb (cleared x % 2) 1) (i ∷ members_from n (suc i) (cleared x / 2)) (members_from n (suc i) (cleared x / 2))
members_step n i x h zero e ih =
    let c = cleared_even x h e in
    let place : suc i + count_trailing_zeros n (x / 2) ≡ i + suc (count_trailing_zeros n (x / 2)) = omega arith in
    rw (c.0, c.1) (ih (omega arith) ∙ ap (λ (j : ℕ). j ∷ members_from n (suc i) (cleared (x / 2))) place)
members_step n i x h (suc zero) e ih =
    let c = cleared_odd x e in
    let place : i ≡ i + 0 = omega arith in
    rw (c.0, c.1) (ap (λ (j : ℕ). j ∷ members_from n (suc i) (x / 2)) place)
members_step n i x h (suc (suc d)) e ih = absurd (omega arith)

pub members_next : (n i x : ℕ) → 0 < x → x < 2 ^ n → members_from n i x ≡ (i + count_trailing_zeros n x) ∷ members_from n i (cleared x)
unfolding members_from count_trailing_zeros
members_next zero i x h m = absurd (omega arith)
members_next (suc n) i x h m = members_step n i x h (x % 2) refl (λ k. members_next n (suc i) (x / 2) k (omega (arith, pow-suc 2 n)))

pub members_some : (n i x : ℕ) → 0 < x → x < 2 ^ n → 0 < length (members_from n i x)
members_some n i x h m = omega (arith, ap length (members_next n i x h m))

pub members_few : (n i x : ℕ) → length (members_from n i x) ≤ n
unfolding members_from
members_few zero i x = omega arith
members_few (suc n) i x = go (eqb (x % 2) 1) (members_few n (suc i) (x / 2))
  where
    go : (b : Bool) → length (members_from n (suc i) (x / 2)) ≤ n → length (cond b (i ∷ members_from n (suc i) (x / 2)) (members_from n (suc i) (x / 2))) ≤ suc n
    go true e = omega (arith, e)
    go false e = omega (arith, e)

-- the first c numbers
pub members_all : (n i c : ℕ) → c ≤ n → members_from n i (2 ^ c - 1) ≡ from i c
unfolding members_from
members_all n i zero h = members_none n i
members_all zero i (suc c) h = absurd (omega arith)
members_all (suc n) i (suc c) h =
    let odd : (2 ^ suc c - 1) % 2 ≡ 1 = omega (arith, pow-suc 2 c, pow_pos c) in
    let half : (2 ^ suc c - 1) / 2 ≡ 2 ^ c - 1 = omega (arith, pow-suc 2 c, pow_pos c) in
    rw (odd, half) (ap (λ (l : List ℕ). i ∷ l) (members_all n (suc i) c (omega arith)))

-- ---- those for which a test holds

module _ (f : ℕ → Bool) where
  abbrev low : ℕ → ℕ → ℕ
  low i d = cond (f i) d 0

  low_at : (i d : ℕ) → d < 2 → low i d < 2
  low_at i d h = go (f i)
    where
      go : (b : Bool) → cond b d 0 < 2
      go true = h
      go false = omega arith

  chosen_low : (n i x : ℕ) → (chosen_from f (suc n) i x % 2 ≡ low i (x % 2)) × (chosen_from f (suc n) i x / 2 ≡ chosen_from f n (suc i) (x / 2))
  unfolding chosen_from
  chosen_low n i x = let l = low_at i (x % 2) (omega arith) in (omega (arith, l), omega (arith, l))

  pub chosen_none : (n i : ℕ) → chosen_from f n i 0 ≡ 0
  unfolding chosen_from
  chosen_none zero i = refl
  chosen_none (suc n) i = go (f i) (chosen_none n (suc i))
    where
      go : (b : Bool) → chosen_from f n (suc i) 0 ≡ 0 → cond b 0 0 + 2 * chosen_from f n (suc i) 0 ≡ 0
      go true e = omega (arith, e)
      go false e = omega (arith, e)

  pub chosen_most : (n i x : ℕ) → chosen_from f n i x ≤ x
  unfolding chosen_from
  chosen_most zero i x = omega arith
  chosen_most (suc n) i x = go (f i) (chosen_most n (suc i) (x / 2))
    where
      go : (b : Bool) → chosen_from f n (suc i) (x / 2) ≤ x / 2 → cond b (x % 2) 0 + 2 * chosen_from f n (suc i) (x / 2) ≤ x
      go true e = omega (arith, e)
      go false e = omega (arith, e)

  pub chosen_members : (n i x : ℕ) → members_from n i (chosen_from f n i x) ≡ kept f (members_from n i x)
  unfolding members_from
  chosen_members zero i x = refl
  chosen_members (suc n) i x =
      let c = chosen_low n i x in
      rw (c.0, c.1) (go (f i) refl (x % 2) (omega arith) (chosen_members n (suc i) (x / 2)))
    where
      rest : ℕ → List ℕ
      rest y = members_from n (suc i) y

      go : (b : Bool) → f i ≡ b → (d : ℕ) → d < 2 → rest (chosen_from f n (suc i) (x / 2)) ≡ kept f (rest (x / 2))
          → cond (eqb (cond b d 0) 1) (i ∷ rest (chosen_from f n (suc i) (x / 2))) (rest (chosen_from f n (suc i) (x / 2))) ≡ kept f (cond (eqb d 1) (i ∷ rest (x / 2)) (rest (x / 2)))
      go true e zero h ih = ih
      go true e (suc zero) h ih = rw e (ap (λ (l : List ℕ). i ∷ l) ih)
      go true e (suc (suc d)) h ih = absurd (omega arith)
      go false e zero h ih = ih
      go false e (suc zero) h ih = rw e ih
      go false e (suc (suc d)) h ih = absurd (omega arith)

  -- one point: its bit, where the test holds
  abbrev bit_of : ℕ → ℕ → ℕ
  bit_of t i = cond (f i) (2 ^ t) 0

  chosen_step : (n i x : ℕ) → 0 < x → (d : ℕ) → x % 2 ≡ d → (0 < x / 2 → chosen_from f n (suc i) (x / 2) ≡ bit_of (count_trailing_zeros n (x / 2)) (suc i + count_trailing_zeros n (x / 2)) + chosen_from f n (suc i) (cleared (x / 2)))
      → cond (f i) d 0 + 2 * chosen_from f n (suc i) (x / 2)
      ≡ bit_of (under d (count_trailing_zeros n (x / 2))) (i + under d (count_trailing_zeros n (x / 2))) + (cond (f i) (cleared x % 2) 0 + 2 * chosen_from f n (suc i) (cleared x / 2))
  chosen_step n i x h zero e ih =
      let c = cleared_even x h e in
      let t = count_trailing_zeros n (x / 2) in
      let place : suc i + t ≡ i + suc t = omega arith in
      let g = ih (omega arith) ∙ ap (λ (j : ℕ). bit_of t j + chosen_from f n (suc i) (cleared (x / 2))) place in
      rw (c.0, c.1) (none (f i) (f (i + suc t)) t _ _ g)
    where
      none : (b a : Bool) (t u v : ℕ) → u ≡ cond a (2 ^ t) 0 + v → cond b 0 0 + 2 * u ≡ cond a (2 ^ suc t) 0 + (cond b 0 0 + 2 * v)
      none true true t u v g = omega (arith, g, pow-suc 2 t)
      none true false t u v g = omega (arith, g)
      none false true t u v g = omega (arith, g, pow-suc 2 t)
      none false false t u v g = omega (arith, g)
  chosen_step n i x h (suc zero) e ih =
      let c = cleared_odd x e in
      let place : i + 0 ≡ i = omega arith in
      rw (c.0, c.1, place) (one (f i) _)
    where
      one : (b : Bool) (u : ℕ) → cond b 1 0 + 2 * u ≡ cond b (2 ^ 0) 0 + (cond b 0 0 + 2 * u)
      one true u = omega arith
      one false u = omega arith
  chosen_step n i x h (suc (suc d)) e ih = absurd (omega arith)

  pub chosen_next : (n i x : ℕ) → 0 < x → x < 2 ^ n → chosen_from f n i x ≡ bit_of (count_trailing_zeros n x) (i + count_trailing_zeros n x) + chosen_from f n i (cleared x)
  unfolding chosen_from count_trailing_zeros
  chosen_next zero i x h m = absurd (omega arith)
  chosen_next (suc n) i x h m = chosen_step n i x h (x % 2) refl (λ k. chosen_next n (suc i) (x / 2) k (omega (arith, pow-suc 2 n)))

-- the others
pub chosen_both : (f : ℕ → Bool) (n i x : ℕ) → x < 2 ^ n → chosen_from f n i x + chosen_from (λ q. not (f q)) n i x ≡ x
unfolding chosen_from
chosen_both f zero i x m = omega arith
chosen_both f (suc n) i x m = go (f i) (chosen_both f n (suc i) (x / 2) (omega (arith, pow-suc 2 n)))
  where
    go : (b : Bool) → chosen_from f n (suc i) (x / 2) + chosen_from (λ q. not (f q)) n (suc i) (x / 2) ≡ x / 2
        → (cond b (x % 2) 0 + 2 * chosen_from f n (suc i) (x / 2)) + (cond (not b) (x % 2) 0 + 2 * chosen_from (λ q. not (f q)) n (suc i) (x / 2)) ≡ x
    go true e = omega (arith, e)
    go false e = omega (arith, e)

pub others_members : (f : ℕ → Bool) (n i x : ℕ) → x < 2 ^ n → members_from n i (x - chosen_from f n i x) ≡ kept (λ q. not (f q)) (members_from n i x)
others_members f n i x m =
    let rest : x - chosen_from f n i x ≡ chosen_from (λ q. not (f q)) n i x = omega (arith, chosen_both f n i x m) in
    ap (members_from n i) rest ∙ chosen_members (λ q. not (f q)) n i x

pub chosen_same : (f g : ℕ → Bool) → ((q : ℕ) → f q ≡ g q) → (n i x : ℕ) → chosen_from f n i x ≡ chosen_from g n i x
unfolding chosen_from
chosen_same f g e zero i x = refl
chosen_same f g e (suc n) i x = ap (λ (b : Bool). cond b (x % 2) 0 + 2 * chosen_from f n (suc i) (x / 2)) (e i) ∙ ap (λ (y : ℕ). cond (g i) (x % 2) 0 + 2 * y) (chosen_same f g e n (suc i) (x / 2))

-- ---- the loops over the points of a group

module _ (x : ℕ) (h : 0 < x) (m : x < 18446744073709551616) where
  abbrev lowest : ℕ
  lowest = count_trailing_zeros 64 x

  bit_is : (b : Bool) → bool_byte b * 2 ^ lowest % 18446744073709551616 ≡ cond b (2 ^ lowest) 0
  bit_is true = omega (arith, cleared_by 64 x h m)
  bit_is false = omega arith

  -- the lowest point's bit, where it is chosen, is no more than what is taken from the rest
  pub bit_most : (b : Bool) → bool_byte b * 2 ^ lowest % 18446744073709551616 + cleared x ≤ x
  bit_most true = omega (arith, cleared_by 64 x h m)
  bit_most false = omega (arith, cleared_less x h)

  pub chosen_on : (f : ℕ → Bool) (b : Bool) → b ≡ f lowest → bool_byte b * 2 ^ lowest % 18446744073709551616 + chosen f (cleared x) ≡ chosen f x
  chosen_on f b e =
      let place : 0 + lowest ≡ lowest = omega arith in
      omega (arith, bit_is b ∙ ap (λ (a : Bool). cond a (2 ^ lowest) 0) (e ∙ ap f (sym place)), chosen_next f 64 0 x h m)

  pub filled_on : (v : ℕ → ℕ) (out : List ℕ) → fill v (members x) out ≡ fill v (members (cleared x)) (set out lowest (v lowest))
  unfolding fill
  filled_on v out =
      let place : 0 + lowest ≡ lowest = omega arith in
      ap (λ (l : List ℕ). fill v l out) (members_next 64 0 x h m ∙ ap (λ (q : ℕ). q ∷ members (cleared x)) place)

pub filled_none : (v : ℕ → ℕ) (out : List ℕ) → fill v (members 0) out ≡ out
unfolding fill
filled_none v out = ap (λ (l : List ℕ). fill v l out) (members_none 64 0)

-- ---- along an axis

pub chosen_axis : (cs : List Float) (h : Hyperplane) (a : Axis) → h.alignment ≡ Aligned a → (k : ℕ) → k ≡ axis_number a → (x : ℕ) → chosen (reaches cs k h.dist) x ≡ chosen (in_front (point_at cs) h) x
chosen_axis cs h a e k is-k x = chosen_same (reaches cs k h.dist) (in_front (point_at cs) h) (reaches_is cs h a e k is-k) 64 0 x

-- ---- a group of one point

pub one_member : (x : ℕ) → 0 < x → x < 18446744073709551616 → cleared x ≡ 0 → members x ≡ first x ∷ []
one_member x h m e =
    let place : 0 + first x ≡ first x = omega arith in
    members_next 64 0 x h m ∙ ap (λ (y : ℕ). (0 + first x) ∷ members y) e ∙ ap (λ (l : List ℕ). (0 + first x) ∷ l) (members_none 64 0) ∙ ap (λ (q : ℕ). q ∷ []) place

-- ---- a group of two points

pub two_members : (x : ℕ) → 0 < x → x < 18446744073709551616 → (cleared x ≡ 0 → ⊥) → cleared (cleared x) ≡ 0 → members x ≡ first x ∷ second x ∷ []
two_members x h m n e =
    let place : 0 + first x ≡ first x = omega arith in
    members_next 64 0 x h m ∙ ap (λ (q : ℕ). q ∷ members (cleared x)) place
    ∙ ap (λ (l : List ℕ). first x ∷ l) (one_member (cleared x) (omega (arith, n)) (omega (arith, cleared_less x h, m)) e)

-- ---- all points of a call

module _ (c : ℕ) (h : 0 < c) (m : c ≤ 64) where
  last_is : 1 * 2 ^ (c - 1) % 18446744073709551616 ≡ 2 ^ (c - 1)
  last_is = one_shl (c - 1) 64 (omega arith)

  twice : 2 ^ c ≡ 2 ^ (c - 1) * 2
  twice = let e : suc (c - 1) ≡ c = omega arith in ap (λ (n : ℕ). 2 ^ n) (sym e) ∙ pow-suc 2 (c - 1)

  pub all_members : (x : ℕ) → x ≡ 1 * 2 ^ (c - 1) % 18446744073709551616 → (0 < x) × ((x + (x - 1) < 18446744073709551616) × (members (x + (x - 1)) ≡ from 0 c))
  all_members x e =
      let half = pow_pos (c - 1) in
      let is : x + (x - 1) ≡ 2 ^ c - 1 = omega (arith, e, last_is, twice, half) in
      (omega (arith, e, last_is, half), (omega (arith, is, pow_mono m), ap members is ∙ members_all 64 0 c m))
