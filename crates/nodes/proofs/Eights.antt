-- The sides of eight points as the bits of a number.
-- Assumes nothing.
use Rattle.std.proofs.Common.{◌≡◌, ℕ, zero, suc, ◌+◌, ◌*◌, ◌<◌, Bool, true, false, List, get_or, sym, refl, ap, ◌∙◌, arith}
use Rattle.std.specs.Prelude.{cond}
use lib.Ieee.{Float, nan}
use Rattle.math.specs.Plane as Pl
use Rattle.math.specs.declared.plane.Hyperplane.{Hyperplane}
use Rattle.nodes.specs.Fast.{along}
use Rattle.nodes.specs.Lanes.{number, of_eight, point_in, Sides}

pub side_same : (a b : Bool) → Pl.side_if a ≡ Pl.side_if b → a ≡ b
side_same true true e = refl
side_same false false e = refl
side_same true false e = let z : ◌≡◌ {A = ℕ} 0 1 = cc in absurd (omega arith)
side_same false true e = let z : ◌≡◌ {A = ℕ} 0 1 = cc in absurd (omega arith)

pub eight_same : (g f : ℕ → Bool) → ((q : ℕ) → q < 8 → g q ≡ f q) → number (of_eight g) ≡ number (of_eight f)
eight_same g f e = rw (e 0 (omega arith), e 1 (omega arith), e 2 (omega arith), e 3 (omega arith), e 4 (omega arith), e 5 (omega arith), e 6 (omega arith), e 7 (omega arith)) refl

-- the coordinate along an axis of the point at a place
pub coordinate_in : (l : List Float) (k q : ℕ) → k < 3 → get_or l (k + 3 * q) nan ≡ along (point_in l q) k
coordinate_in l zero q h = ap (λ (n : ℕ). get_or l n nan) {x = 0 + 3 * q} {y = 3 * q} (omega arith)
coordinate_in l (suc zero) q h = ap (λ (n : ℕ). get_or l n nan) {x = 1 + 3 * q} {y = 3 * q + 1} (omega arith)
coordinate_in l (suc (suc zero)) q h = ap (λ (n : ℕ). get_or l n nan) {x = 2 + 3 * q} {y = 3 * q + 2} (omega arith)
coordinate_in l (suc (suc (suc k))) q h = absurd (omega arith)

-- each of eight bits says a point's side, and the number is made of them, the last one first
module _ (h k : Hyperplane) (same : k ≡ h) (cs : List Float) (a b c d e f g i : Bool)
    (is-a : Pl.side_if a ≡ Pl.point_side k (point_in cs 0)) (is-b : Pl.side_if b ≡ Pl.point_side k (point_in cs 1))
    (is-c : Pl.side_if c ≡ Pl.point_side k (point_in cs 2)) (is-d : Pl.side_if d ≡ Pl.point_side k (point_in cs 3))
    (is-e : Pl.side_if e ≡ Pl.point_side k (point_in cs 4)) (is-f : Pl.side_if f ≡ Pl.point_side k (point_in cs 5))
    (is-g : Pl.side_if g ≡ Pl.point_side k (point_in cs 6)) (is-i : Pl.side_if i ≡ Pl.point_side k (point_in cs 7)) where
  it_is : (t : ℕ → Bool) → ((q : ℕ) → q < 8 → Pl.side_if (t q) ≡ Pl.point_side h (point_in cs q)) → (q : ℕ) → q < 8 → (x : Bool) → Pl.side_if x ≡ Pl.point_side k (point_in cs q) → x ≡ t q
  it_is t says q l x z = side_same x (t q) (z ∙ ap (λ (y : Hyperplane). Pl.point_side y (point_in cs q)) same ∙ sym (says q l))

  pub sides_are : (r s t u v w x y : ℕ) → y ≡ cond i 1 0 + 2 * 0 → x ≡ cond g 1 0 + 2 * y → w ≡ cond f 1 0 + 2 * x → v ≡ cond e 1 0 + 2 * w → u ≡ cond d 1 0 + 2 * v → t ≡ cond c 1 0 + 2 * u
      → s ≡ cond b 1 0 + 2 * t → r ≡ cond a 1 0 + 2 * s → Sides h cs r
  sides_are r s t u v w x y iy ix iw iv iu it is ir z says =
      let j = it_is z says in
      rw (ir, is, it, iu, iv, iw, ix, iy, j 0 (omega arith) a is-a, j 1 (omega arith) b is-b, j 2 (omega arith) c is-c, j 3 (omega arith) d is-d, j 4 (omega arith) e is-e, j 5 (omega arith) f is-f, j 6 (omega arith) g is-g, j 7 (omega arith) i is-i) refl
