-- The first eight points of a call: a list of them, and the bits of their sides.
-- Assumes nothing.
use Prim.Native.Nat.{ℕ, zero, suc, ◌+◌, ◌*◌, ◌/◌, ◌%◌, ◌^◌, ◌<◌, min}
use native.Mathlib.Omega.{arith}
use native.Mathlib.Nat.{pow-suc}
use mathlib.Core.Bool.{Bool, true, false, cond}
use mathlib.Core.List.{List, [], ◌∷◌, ◌++◌}
use mathlib.Core.Path.{◌≡◌, refl, sym, ◌∙◌, ap}
use lib.Bits.{bit_and, and_step, and_le_r}
use lib.Ieee.{Float, nan}
use lib.ListN.{take, drop, get_or}
use Rattle.std.proofs.Common.{get_or-take}
use Rattle.math.specs.Vector.{vector}
use Rattle.math.specs.Plane as Pl
use Rattle.math.specs.declared.plane.Hyperplane.{Hyperplane}
use Rattle.math.specs.declared.plane.HyperplaneSide.{HyperplaneSide}
use Rattle.math.specs.declared.plane.HyperplaneSide.TheVariants.{Positive, Negative}
use Rattle.nodes.specs.Lanes.{number, of_eight, Sides}
use Rattle.ways.specs.Groups.{in_front, is_front}
use Rattle.points.specs.Going.{point_at, chosen_from, chosen, Eight}
use Rattle.points.proofs.Bits.{chosen_none}

-- ---- the list

same_entries : (cs l : List Float) → ((k : ℕ) → k < 24 → get_or l k nan ≡ get_or cs k nan) → Eight cs l
same_entries cs l e q h =
    let place : 3 * q ≡ q * 3 = omega arith in
    rw (e (3 * q) (omega (arith, h)), e (3 * q + 1) (omega (arith, h)), e (3 * q + 2) (omega (arith, h))) (ap (λ (n : ℕ). vector (get_or cs n nan) (get_or cs (n + 1) nan) (get_or cs (n + 2) nan)) place)

-- nothing but NaNs, so many
abbrev nans : ℕ → List Float
nans zero = []
nans (suc n) = nan ∷ nans n

none : (n m k : ℕ) → get_or (drop n (nans m)) k nan ≡ nan
none zero zero k = refl
none zero (suc m) zero = refl
none zero (suc m) (suc k) = none zero m k
none (suc n) zero k = refl
none (suc n) (suc m) k = none n m k

past : (cs l : List Float) → ((k : ℕ) → get_or l k nan ≡ nan) → (k : ℕ) → get_or (cs ++ l) k nan ≡ get_or cs k nan
past [] l e k = e k
past (x ∷ cs) l e zero = refl
past (x ∷ cs) l e (suc k) = past cs l e k

pub of_more : (cs l : List Float) → l ≡ take 24 cs → Eight cs l
of_more cs l e = same_entries cs l (λ k h. ap (λ (y : List Float). get_or y k nan) e ∙ get_or-take 24 cs k nan h)

pub of_fewer : (cs l : List Float) (n : ℕ) → l ≡ cs → Eight cs (l ++ drop n (nans 24))
of_fewer cs l n e = same_entries cs (l ++ drop n (nans 24)) (λ k h. past l (drop n (nans 24)) (none n 24) k ∙ ap (λ (y : List Float). get_or y k nan) e)

-- ---- the bits

module _ (f : ℕ → Bool) where
  abbrev flags : ℕ → ℕ → List Bool
  flags zero i = []
  flags (suc n) i = f i ∷ flags n (suc i)

  and_bit : (b : Bool) (r x c : ℕ) → bit_and r (x / 2) ≡ c → bit_and (cond b 1 0 + 2 * r) x ≡ cond b (x % 2) 0 + 2 * c
  and_bit true r x c e =
      let half : (1 + 2 * r) / 2 ≡ r = omega arith in
      let low : min ((1 + 2 * r) % 2) (x % 2) ≡ x % 2 = omega arith in
      omega (arith, and_step (1 + 2 * r) x, ap (λ (y : ℕ). bit_and y (x / 2)) half ∙ e, low)
  and_bit false r x c e =
      let half : (0 + 2 * r) / 2 ≡ r = omega arith in
      let low : min ((0 + 2 * r) % 2) (x % 2) ≡ 0 = omega arith in
      omega (arith, and_step (0 + 2 * r) x, ap (λ (y : ℕ). bit_and y (x / 2)) half ∙ e, low)

  and_flags : (n i x : ℕ) → x < 2 ^ n → bit_and (number (flags n i)) x ≡ chosen_from f n i x
  unfolding chosen_from
  and_flags zero i x h = let e : x ≡ 0 = omega (arith, h) in omega (arith, and_le_r 0 x, e)
  and_flags (suc n) i x h = and_bit (f i) (number (flags n (suc i))) x (chosen_from f n (suc i) (x / 2)) (and_flags n (suc i) (x / 2) (omega (arith, h, pow-suc 2 n)))

  fewer : (n k i x : ℕ) → x < 2 ^ n → chosen_from f (n + k) i x ≡ chosen_from f n i x
  unfolding chosen_from
  fewer zero k i x h = let e : x ≡ 0 = omega (arith, h) in ap (λ (y : ℕ). chosen_from f y i x) {x = 0 + k} {y = k} (omega arith) ∙ ap (chosen_from f k i) e ∙ chosen_none f k i
  fewer (suc n) k i x h = ap (λ (y : ℕ). chosen_from f y i x) {x = suc n + k} {y = suc (n + k)} (omega arith) ∙ ap (λ (y : ℕ). cond (f i) (x % 2) 0 + 2 * y) (fewer n k (suc i) (x / 2) (omega (arith, h, pow-suc 2 n)))

  and_chosen : (x : ℕ) → x < 256 → bit_and (number (of_eight f)) x ≡ chosen f x
  and_chosen x h = and_flags 8 0 x h ∙ sym (fewer 8 56 0 x h)

if_front : (s : HyperplaneSide) → Pl.side_if (is_front s) ≡ s
if_front Positive = refl
if_front Negative = refl

pub sides_chosen : (cs l : List Float) → Eight cs l → (h : Hyperplane) (r : ℕ) → Sides h l r → (x : ℕ) → x < 256 → bit_and r x ≡ chosen (in_front (point_at cs) h) x
unfolding in_front
sides_chosen cs l e h r says x small =
    ap (λ (y : ℕ). bit_and y x) (says (in_front (point_at cs) h) (λ q k. if_front (Pl.point_side h (point_at cs q)) ∙ ap (Pl.point_side h) (sym (e q k))))
    ∙ and_chosen (in_front (point_at cs) h) x small
