-- The law of the loop over the records of a part: n records are one record and then n - 1, or reading stops at one that is refused. A loop
-- that counts up to `count` keeps `Left`: where the rest stops is where all of them stop.
-- Assumes nothing.
use Prim.Native.Nat.{ℕ, zero, suc, ◌+◌, ◌-◌, ◌<◌, ◌≤◌}
use mathlib.Core.Path.{◌≡◌, refl, ap, ◌∙◌}
use mathlib.Core.List.{List}
use native.Mathlib.Nat.{not-suc-le-zero}
use native.Mathlib.Omega.{arith}
use Rattle.format.specs.Step.{Step, ok, refused}
use Rattle.format.specs.declared.section.BspData.{BspData}
use Rattle.place.specs.Part.{record_at, span_of, stop_in}
use Rattle.place.specs.Stop.{stop, stops}
use Rattle.place.specs.declared.part.Part.{Part}
use Rattle.place.specs.declared.part.Span.{Span}

module _ {A : Type 0} (one : ℕ → ℕ → Step A) where
  last : (n i at : ℕ) → n ≤ 0 → stop i at ≡ stops one n i at
  unfolding stops
  last zero i at h = refl
  last (suc n) i at h = absurd (not-suc-le-zero h)

  next : (n i at : ℕ) {v : A} {p : ℕ} → 0 < n → one i at ≡ ok v p → stops one (n - 1) (i + 1) p ≡ stops one n i at
  unfolding stops
  next zero i at h e = absurd (not-suc-le-zero h)
  next (suc n) i at {v} {p} h e = let q : suc n - 1 ≡ n = omega arith in rw e (ap (λ (k : ℕ). stops one k (i + 1) p) q)

  here : (n i at : ℕ) {e : ℕ} → 0 < n → one i at ≡ refused e → stop i at ≡ stops one n i at
  unfolding stops
  here zero i at h q = absurd (not-suc-le-zero h)
  here (suc n) i at h q = rw q refl

-- where the records from i on stop, the first of them at p, is where all records of the part stop
abbrev pub Left : List ℕ → Part → BspData → ℕ → ℕ → ℕ → Type 0
Left s part m count p i = stops (record_at part s m) (count - i) i p ≡ stop_in part s m

module _ (s : List ℕ) (part : Part) (m : BspData) where
  pub starts : (z : Span) → z ≡ span_of part m → Left s part m z.count z.start 0
  unfolding stop_in
  starts z e = let q : z.count - 0 ≡ z.count = omega arith in rw (q, e) refl

  module _ (count i p : ℕ) (inv : Left s part m count p i) where
    pub goes_on : {v : Unit {0}} {q : ℕ} → i < count → record_at part s m i p ≡ ok v q → Left s part m count q (i + 1)
    goes_on {v} {q} h e =
        let k : count - (i + 1) ≡ count - i - 1 = omega arith in
        ap (λ (n : ℕ). stops (record_at part s m) n (i + 1) q) k ∙ next (record_at part s m) (count - i) i p (omega arith) e ∙ inv

    pub stops_here : {e : ℕ} → i < count → record_at part s m i p ≡ refused e → stop i p ≡ stop_in part s m
    stops_here h e = here (record_at part s m) (count - i) i p (omega arith) e ∙ inv

    pub ends : count ≤ i → stop i p ≡ stop_in part s m
    ends h = last (record_at part s m) (count - i) i p (omega arith) ∙ inv
