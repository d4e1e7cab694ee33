-- One texture after the other gets its number.
-- Assumes nothing.
use Prim.Native.Nat.{ℕ, ◌+◌, ◌<◌, ◌≤◌}
use mathlib.Core.Path.{◌≡◌, refl, sym, ap, ◌∙◌}
use mathlib.Core.Bool.{Bool, true, false, cond}
use mathlib.Core.List.{List}
use native.Mathlib.Omega.{arith}
use borrow.Author.Tests.{eqb-true, eqb-false, ne_eqb, ltb-true, ltb-false, lt-ltb, le-ltb}
use lib.Dec.{eqb, ltb}
use mir.Val.{bool_byte}
use lib.ListN.{length, get_or, set}
use lib.Seq.{get_or-set_same, get_or-set_other}
use Rattle.textures.specs.Count.{count, values_below}
use Rattle.textures.proofs.Firsts.{flag_more}
use Rattle.textures.proofs.Leads.{each_is}
use Rattle.texture_numbers.specs.Renumber.{has_none, leads, number_in, Led, Partly}

module _ (l : List ℕ) where
  pub starts : Partly l 0 l
  starts i h = rw (le-ltb i 0 (omega arith)) refl

  module _ (led : Led l) (j : ℕ) (list : List ℕ) (partly : Partly l j list) (inside : j < length l) where
    pub first_is : get_or list j 0 ≡ get_or l j 0
    first_is = partly j inside ∙ rw (le-ltb j j (omega arith)) refl

    pub first_inside : (get_or list j 0 ≡ 4294967295 → ⊥) → get_or list j 0 < length l
    first_inside z = omega (arith, first_is, inside, (led j inside (λ e. z (first_is ∙ e))).0)

    -- the number of the first texture with j's stem
    later_is : (get_or l j 0 ≡ 4294967295 → ⊥) → get_or l j 0 < j → get_or list (get_or l j 0) 0 ≡ number_in l j
    unfolding number_in
    later_is z h =
        let q = (led j inside z).1 in
        let a : (get_or l (get_or l j 0) 0 ≡ 4294967295 → ⊥) = λ e. z (sym q ∙ e) in
        partly (get_or l j 0) (omega (arith, h, inside))
        ∙ rw (lt-ltb (get_or l j 0) j h, ne_eqb (get_or l (get_or l j 0) 0) 4294967295 a, ne_eqb (get_or l j 0) 4294967295 z, q) refl

    pub number_is : (before statics firsts : ℕ) → before ≡ count (has_none l) j → statics ≡ count (has_none l) (length l) → firsts ≡ count (leads l) j
        → cond (eqb (get_or list j 0) 4294967295) before (cond (eqb (get_or list j 0) j) (statics + firsts) (get_or list (get_or list j 0) 0)) ≡ number_in l j
    unfolding number_in
    number_is before statics firsts eb es ef = rw first_is (by (eqb (get_or l j 0) 4294967295) (eqb (get_or l j 0) j) refl refl)
      where
        by : (x y : Bool) → eqb (get_or l j 0) 4294967295 ≡ x → eqb (get_or l j 0) j ≡ y
            → cond (eqb (get_or l j 0) 4294967295) before (cond (eqb (get_or l j 0) j) (statics + firsts) (get_or list (get_or l j 0) 0)) ≡ number_in l j
        by true y e f = rw (e, eb) refl
        by false true e f = rw (e, f, es, ef, eqb-true (get_or l j 0) j f) refl
        by false false e f =
            let z = eqb-false (get_or l j 0) 4294967295 e in
            let n = eqb-false (get_or l j 0) j f in
            rw (e, f) (later_is z (omega (arith, n, (led j inside z).0)) ∙ rw e refl)

    pub counts_none : (before : ℕ) → before ≡ count (has_none l) j → before + bool_byte (eqb (get_or list j 0) 4294967295) ≡ count (has_none l) (j + 1)
    counts_none before e = flag_more (has_none l) j before _ e (ap (λ (x : ℕ). eqb x 4294967295) first_is)

    pub counts_first : (firsts : ℕ) → firsts ≡ count (leads l) j → firsts + bool_byte (eqb (get_or list j 0) j) ≡ count (leads l) (j + 1)
    counts_first firsts e = flag_more (leads l) j firsts _ e (ap (λ (x : ℕ). eqb x j) first_is)

    pub next : (x : ℕ) → length list ≡ length l → x ≡ number_in l j → Partly l (j + 1) (set list j x)
    next x k e i h = by (eqb i j) refl
      where
        by : (y : Bool) → eqb i j ≡ y → get_or (set list j x) i 0 ≡ cond (ltb i (j + 1)) (number_in l i) (get_or l i 0)
        by true g =
            let q : i ≡ j = eqb-true i j g in
            rw (q, lt-ltb j (j + 1) (omega arith)) (get_or-set_same list j x 0 (omega (arith, k, inside)) ∙ e)
        by false g = get_or-set_other list j i x 0 (eqb-false i j g) ∙ (partly i h ∙ ap (λ (b : Bool). cond b (number_in l i) (get_or l i 0)) (sym (same_side_lem (eqb-false i j g))))
          where
            same_side_lem : (i ≡ j → ⊥) → ltb i (j + 1) ≡ ltb i j
            same_side_lem z = side (ltb i j) refl
              where
                side : (y : Bool) → ltb i j ≡ y → ltb i (j + 1) ≡ y
                side true e = lt-ltb i (j + 1) (omega (arith, ltb-true i j e))
                side false e = le-ltb i (j + 1) (omega (arith, ltb-false i j e, z))

  pub ends : (j : ℕ) (list : List ℕ) → length list ≡ length l → length l ≤ j → Partly l j list → list ≡ values_below (number_in l) (length l)
  ends j list e h partly = each_is (number_in l) (length l) list e (λ i k. partly i k ∙ rw (lt-ltb i j (omega (arith, h, k))) refl)
