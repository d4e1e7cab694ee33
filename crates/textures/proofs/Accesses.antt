-- The ways through the accessors of textures.
-- Assumes nothing.
use Prim.Native.Nat.{ℕ, ◌-◌, ◌<◌, ◌≤◌}
use mathlib.Core.Path.{◌≡◌, refl, sym, ◌∙◌}
use mathlib.Core.Bool.{Bool, true, false, ◌&&◌, cond}
use mathlib.Core.List.{List}
use native.Mathlib.Omega.{arith}
use borrow.Author.Tests.{ne_eqb, le-ltb, leb-true}
use lib.Dec.{eqb, ltb}
use Rattle.format.specs.Answer.{answer, refused, then_answer}
use Rattle.textures.specs.Count.{count, lowest, nth}
use Rattle.textures.specs.Group.{is_static, is_first, alike, precedes, place_of, within, static_by, frame_by}
use Rattle.textures.specs.Access.{sound_at}
use Rattle.textures.proofs.Marks.{any_none, and_left}
use Rattle.textures.proofs.Firsts.{count_below, lowest_none}

-- ---- a section that reads

pub few_textures : (s : List ℕ) (base n : ℕ) (x : Bool) → x ≡ sound_at s base n → x ≡ true → n ≤ 2097152
unfolding sound_at
few_textures s base n x is e = leb-true _ _ (and_left _ _ (sym is ∙ e))

-- ---- numbers past all

nth_past : (p : ℕ → Bool) (k n : ℕ) → n ≤ k → nth p k n ≡ n
nth_past p k n h = lowest_none _ n (any_none _ n one)
  where
    one : (i : ℕ) → i < n → (p i && eqb (count p i) k) ≡ false
    one i g = by (p i)
      where
        by : (x : Bool) → (x && eqb (count p i) k) ≡ false
        by true = ne_eqb (count p i) k (λ q. absurd (omega (arith, q, g, h, count_below p i)))
        by false = refl

within_past : (n i : ℕ) → n ≤ i → within n i ≡ refused 20
within_past n i h = rw (le-ltb i n h) refl

pub static_past : (name : ℕ → List ℕ) (n k : ℕ) → n ≤ k → static_by name n k ≡ refused 20
unfolding static_by
static_past name n k h = rw (nth_past (is_static name) k n h) (within_past n n (omega arith))

module _ (kind : List ℕ → Bool) (name : ℕ → List ℕ) (n : ℕ) (few : n ≤ 2097152) where
  pub number_past : (number place : ℕ) → 4294967295 < number → refused 20 ≡ frame_by kind name n number place
  unfolding frame_by
  number_past number place h =
      let c = count_below (is_static name) n in
      rw (le-ltb number (count (is_static name) n) (omega (arith, c, few, h)), nth_past (is_first name) (number - count (is_static name) n) n (omega (arith, c, few, h)), le-ltb n n (omega arith)) refl

  no_such_place : (place i : ℕ) → 4294967295 < place → lowest (λ j. alike kind name i j && eqb (place_of kind name n j) place) n ≡ n
  unfolding place_of
  no_such_place place i h = lowest_none _ n (any_none _ n one)
    where
      one : (j : ℕ) → j < n → (alike kind name i j && eqb (place_of kind name n j) place) ≡ false
      one j g = by (alike kind name i j)
        where
          by : (x : Bool) → (x && eqb (place_of kind name n j) place) ≡ false
          by true = ne_eqb (place_of kind name n j) place (λ q. absurd (omega (arith, q, few, h, count_below (λ l. alike kind name j l && precedes name j l) n)))
          by false = refl

  pub place_past : (number place : ℕ) → 4294967295 < place → refused 20 ≡ frame_by kind name n number place
  unfolding frame_by
  place_past number place h = by (ltb number (count (is_static name) n)) (ltb (nth (is_first name) (number - count (is_static name) n) n) n)
    where
      i : ℕ
      i = nth (is_first name) (number - count (is_static name) n) n

      by : (x y : Bool) → refused 20 ≡ cond x (refused 20) (then_answer (cond y (answer i) (refused 20)) (λ i. within n (lowest (λ j. alike kind name i j && eqb (place_of kind name n j) place) n)))
      by true y = refl
      by false false = refl
      by false true = rw (no_such_place place i h) (sym (within_past n n (omega arith)))
