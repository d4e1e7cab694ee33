-- The new numbers by keys are those by names.
-- Assumes nothing.
use Prim.Native.Nat.{ℕ, zero, suc, ◌+◌, ◌<◌, ◌≤◌}
use mathlib.Core.Path.{◌≡◌, refl, sym, ap, ◌∙◌}
use mathlib.Core.Bool.{Bool, true, false, not, ◌&&◌}
use mathlib.Core.List.{List}
use native.Mathlib.Omega.{arith}
use lib.Dec.{eqb}
use lib.ListN.{get_or}
use Rattle.std.specs.Prelude.{Option, Some, None, Result}
use Rattle.std.specs.Option.{MatchOption, ok_or, unwrap_or}
use Rattle.format.specs.Answers.{answer_of}
use Rattle.format.specs.declared.refusal.Refusal.{Refusal}
use Rattle.format.specs.declared.refusal.Refusal.TheVariants.{NoSuchRecord}
use Rattle.texture_list.specs.Name.{is_animated}
use Rattle.textures.specs.Count.{count, lowest, nth}
use Rattle.textures.specs.Group.{alike, is_static, is_first, within, numbered_by, static_by}
use Rattle.texture_list.specs.Kind.{is_of, is_kind, key_of, passing, starts, ends}
use Rattle.texture_list.specs.List.{names_of}
use Rattle.textures.specs.Table.{is_earliest, Reached}
use Rattle.texture_list.specs.declared.kind.Kind.TheVariants.{Animated}
use Rattle.texture_list.specs.declared.kind.Key.{Key}
use Rattle.texture_list.proofs.Keys.{kind_is, same_is}
use Rattle.textures.proofs.Marks.{any_same, any_none}
use Rattle.textures.proofs.Firsts.{count_same, count_below, lowest_at, lowest_none, reached_within}

pub both : {a b c d : Bool} → a ≡ b → c ≡ d → (a && c) ≡ (b && d)
both e f = rw (e, f) refl

pub lowest_same : (p q : ℕ → Bool) (n : ℕ) → ((i : ℕ) → p i ≡ q i) → lowest p n ≡ lowest q n
unfolding lowest
lowest_same p q zero h = refl
lowest_same p q (suc n) h = rw (any_same p q n h, lowest_same p q n h, h n) refl

-- what the library's `find` answers of the numbers below n is the lowest
pub found_lowest : (p : ℕ → Bool) (n : ℕ) (r : Option ℕ)
    → MatchOption r ((k : ℕ) → 0 ≤ k → k < n → p k ≡ false) (λ i. (0 ≤ i) × (i < n) × (p i ≡ true) × ((k : ℕ) → 0 ≤ k → k < i → p k ≡ false))
    → (unwrap_or r n ≡ lowest p n) × (unwrap_or r n ≤ n)
found_lowest p n None h = (sym (lowest_none p n (any_none p n (λ k l. h k (omega arith) l))), omega arith)
found_lowest p n (Some i) h = (sym (lowest_at p n i h.1 h.2 (any_none p i (λ k l. h.3 k (omega arith) l))), omega (arith, h.1))

pub animated_is : (s : List ℕ) (base i : ℕ) → is_animated (names_of s base i) ≡ passing s base Animated i
unfolding is_of
animated_is s base i = kind_is Animated s base i

module _ (s : List ℕ) (bytes : (i : ℕ) → get_or s i 0 < 256) (base : ℕ) where
  pub like_is : (i j : ℕ) → alike is_animated (names_of s base) i j ≡ (passing s base Animated j && (eqb (starts s base i) (starts s base j) && eqb (ends s base i) (ends s base j)))
  like_is i j = both (animated_is s base j) (same_is s bytes base i j)

  pub statics_are : (n : ℕ) → count (is_static (names_of s base)) n ≡ count (λ i. not (passing s base Animated i)) n
  statics_are n = count_same _ _ n (λ i. ap not (animated_is s base i))

  pub first_is_earliest : (i : ℕ) → is_first (names_of s base) i ≡ is_earliest (passing s base Animated) (starts s base) (ends s base) i
  first_is_earliest i = both (animated_is s base i) (ap not (any_same _ _ i (like_is i)))

  pub firsts_are : (n : ℕ) → count (is_first (names_of s base)) n ≡ count (is_earliest (passing s base Animated) (starts s base) (ends s base)) n
  firsts_are n = count_same _ _ n first_is_earliest

  -- the ways through `texture_number`
  module _ (n i : ℕ) (key : Key) (is_key : key ≡ key_of s base i) (x : Bool) (is-kind : x ≡ is_kind Animated key) where
    is_animated_lem : is_animated (names_of s base i) ≡ x
    is_animated_lem = animated_is s base i ∙ (ap (is_kind Animated) (sym is_key) ∙ sym is-kind)

    pub number_static : (st : ℕ) → x ≡ false → st ≡ count (λ i. not (passing s base Animated i)) i → st ≡ numbered_by (names_of s base) n i
    unfolding numbered_by
    number_static st e f = rw (is_animated_lem, e) (f ∙ sym (statics_are i))

    module _ (first : ℕ) (is_first_lem : first ≡ lowest (λ j. passing s base Animated j && (eqb key.stem.start (starts s base j) && eqb key.stem.end (ends s base j))) n)
        (low : first ≤ n) (few : n ≤ 2097152) (at : Option ℕ) (seen : ℕ) (reached : Reached (is_earliest (passing s base Animated) (starts s base) (ends s base)) 4294967295 first at seen) where
      -- there are not so many
      to_the_end : seen ≡ count (is_earliest (passing s base Animated) (starts s base) (ends s base)) first
      to_the_end = by at reached
        where
          by : (r : Option ℕ) → Reached (is_earliest (passing s base Animated) (starts s base) (ends s base)) 4294967295 first r seen → seen ≡ count (is_earliest (passing s base Animated) (starts s base) (ends s base)) first
          by None h = h.0
          by (Some i) h = absurd (omega (arith, h.0, h.2, h.3, low, few, count_below (is_earliest (passing s base Animated) (starts s base) (ends s base)) i))

      pub seen_low : seen ≤ 2097152
      seen_low = omega (arith, to_the_end, low, few, count_below (is_earliest (passing s base Animated) (starts s base) (ends s base)) first)

      first_is : lowest (alike is_animated (names_of s base) i) n ≡ first
      first_is = lowest_same _ _ n (λ j. like_is i j ∙ ap (λ (k : Key). passing s base Animated j && (eqb k.stem.start (starts s base j) && eqb k.stem.end (ends s base j))) (sym is_key)) ∙ sym is_first_lem

      pub number_animated : (st : ℕ) → x ≡ true → st ≡ count (λ i. not (passing s base Animated i)) n → st + seen ≡ numbered_by (names_of s base) n i
      unfolding numbered_by
      number_animated st e f =
          rw (is_animated_lem, e) (rw (first_is, statics_are n, firsts_are first, ← to_the_end, ← f) refl)

pub nth_same : (p q : ℕ → Bool) (k n : ℕ) → ((i : ℕ) → p i ≡ q i) → nth p k n ≡ nth q k n
nth_same p q k n h = lowest_same _ _ n (λ i. both (h i) (ap (λ (c : ℕ). eqb c k) (count_same p q i h)))

-- the ways through `static_texture`
module _ (s : List ℕ) (base n k : ℕ) (at : Option ℕ) (seen : ℕ) (reached : Reached (λ i. not (passing s base Animated i)) k n at seen) where
  pub static_within : (r : Result ℕ Refusal) → r ≡ ok_or at NoSuchRecord → answer_of r ≡ static_by (names_of s base) n k
  unfolding static_by
  static_within r e = ap answer_of e ∙ reached_within _ k n at seen reached ∙ ap (λ (i : ℕ). within n i) (sym (nth_same _ _ k n (λ i. ap not (animated_is s base i))))
