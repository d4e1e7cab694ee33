-- The three ways out of the call of the place.
-- Assumes nothing.
use Prim.Native.Nat.{ℕ, ◌<◌}
use mathlib.Core.Path.{◌≡◌, sym, ap, ◌∙◌}
use mathlib.Core.List.{List, [], ◌∷◌}
use borrow.Author.Tests.{lt-ltb}
use lib.ListN.{length}
use Rattle.format.specs.Refusal.{number_of}
use Rattle.words.specs.Words.{Written, written, give}
use Rattle.place.specs.Place.{place_of}
use Rattle.std.specs.Prelude.{Result, Ok, Err}
use Rattle.place.specs.Answers.{place_answer, section_number}
use Rattle.place.specs.declared.RefusedAt.{RefusedAt}
use Rattle.ffi_place.specs.Calls.{bsp_load_place}

pub too_short : (s out : List ℕ) → length out < 4 → written 22 out ≡ bsp_load_place s out
unfolding bsp_load_place
too_short s out h = simp (lt-ltb (length out) 4 h)

module _ (s out : List ℕ) (w : Written) (r : Result (Unit {0}) RefusedAt) (e : place_answer r ≡ place_of s) where
  pub it_loads : (u : Unit {0}) → r ≡ Ok u → w ≡ give (0 ∷ 0 ∷ 0 ∷ 0 ∷ []) out → w ≡ bsp_load_place s out
  unfolding bsp_load_place
  it_loads u q g = rw (sym e ∙ ap place_answer q) g

  pub it_is_refused : (a : RefusedAt) (n z : ℕ) → r ≡ Err a → n ≡ number_of a.refusal → z ≡ section_number a.section
      → w ≡ give (n ∷ z ∷ a.stop.index ∷ a.stop.byte ∷ []) out → w ≡ bsp_load_place s out
  unfolding bsp_load_place
  it_is_refused a n z q h k g =
      rw (sym e ∙ ap place_answer q) (g ∙ ap (λ (j : ℕ). give (j ∷ z ∷ a.stop.index ∷ a.stop.byte ∷ []) out) h ∙ ap (λ (j : ℕ). give (number_of a.refusal ∷ j ∷ a.stop.index ∷ a.stop.byte ∷ []) out) k)
