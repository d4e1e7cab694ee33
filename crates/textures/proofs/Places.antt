-- The frame at a place of a group, by names and by keys.
-- Assumes nothing.
use Rattle.std.specs.Prelude.{Option, Some, None}
use Prim.Native.Nat.{ℕ, zero, suc, ◌+◌, ◌*◌, ◌-◌, ◌<◌, ◌≤◌}
use mathlib.Core.Path.{◌≡◌, refl, sym, ap, ◌∙◌, subst}
use mathlib.Core.Bool.{Bool, true, false, not, ◌&&◌, ◌||◌}
use mathlib.Core.List.{List, [], ◌∷◌}
use native.Mathlib.Omega.{arith}
use borrow.Author.Tests.{eqb-true, eq-eqb, lt-ltb, le-ltb, leb-true, le-leb}
use lib.Dec.{eqb, ltb, leb}
use lib.ListN.{get_or}
use Rattle.std.specs.Option.{unwrap_or}
use Rattle.format.specs.Answer.{Answer, answer, refused}
use Rattle.format.specs.Step.{Step, ok}
use Rattle.records.specs.Number.{offset_at}
use Rattle.texture_list.specs.Name.{chars, stem_of, same, less}
use Rattle.textures.specs.Count.{any, count, lowest, nth}
use Rattle.textures.specs.Group.{alike, is_static, is_first, precedes, place_of, within, frame_by}
use Rattle.texture_list.specs.Key.{key_at}
use Rattle.texture_list.specs.Kind.{passing, starts, ends, key_by, key_of, lettered, grouped, is_frame, framed, frames}
use Rattle.texture_list.specs.List.{name_of, names_of}
use Rattle.textures.specs.Table.{is_earliest, Reached, ranked}
use Rattle.texture_list.specs.declared.kind.Key.{Key}
use Rattle.texture_list.specs.declared.kind.Kind.TheVariants.{Animated}
use Rattle.texture_list.proofs.Keys.{same_is}
use Rattle.textures.proofs.Tables.{true_false}
use Rattle.textures.proofs.Marks.{and_left, and_right}
use Rattle.textures.proofs.Firsts.{count_same, reached_nth}
use Rattle.textures.proofs.Frames.{count_alike, ranked_is, next_letter, no_place, is_place}
use Rattle.textures.proofs.Numbers.{both, statics_are, first_is_earliest, nth_same}

never : (n : ℕ) → count (λ l. false) n ≡ 0
unfolding count
never zero = refl
never (suc n) = rw (never n) refl

any_alike : (p q : ℕ → Bool) (n : ℕ) → ((i : ℕ) → i < n → p i ≡ q i) → any p n ≡ any q n
unfolding any
any_alike p q zero h = refl
any_alike p q (suc n) h = rw (any_alike p q n (λ i k. h i (omega (arith, k))), h n (omega arith)) refl

lowest_alike : (p q : ℕ → Bool) (n : ℕ) → ((i : ℕ) → i < n → p i ≡ q i) → lowest p n ≡ lowest q n
unfolding lowest
lowest_alike p q zero h = refl
lowest_alike p q (suc n) h = rw (any_alike p q n (λ i k. h i (omega (arith, k))), lowest_alike p q n (λ i k. h i (omega (arith, k))), h n (omega arith)) refl

-- ---- the order of names with one stem

same_equal : (xs ys : List ℕ) → same xs ys ≡ true → xs ≡ ys
unfolding same
same_equal [] [] e = refl
same_equal [] (b ∷ ys) e = absurd (true_false (sym e))
same_equal (a ∷ xs) [] e = absurd (true_false (sym e))
same_equal (a ∷ xs) (b ∷ ys) e = rw (eqb-true a b (and_left _ _ e), same_equal xs ys (and_right (eqb a b) _ e)) refl

same_self : (xs : List ℕ) → same xs xs ≡ true
unfolding same
same_self [] = refl
same_self (a ∷ xs) = rw (eq-eqb a a refl, same_self xs) refl

less_self : (xs : List ℕ) → less xs xs ≡ false
unfolding less
less_self [] = refl
less_self (a ∷ xs) = rw (le-ltb a a (omega arith), eq-eqb a a refl, less_self xs) refl

or_and_false : (x y : Bool) → (x || (y && false)) ≡ x
or_and_false true y = refl
or_and_false false true = refl
or_and_false false false = refl

and_true : (x : Bool) → (x && true) ≡ x
and_true true = refl
and_true false = refl

less_frames : (a f g : ℕ) (stem : List ℕ) → less (a ∷ f ∷ stem) (a ∷ g ∷ stem) ≡ ltb f g
unfolding less
less_frames a f g stem = rw (le-ltb a a (omega arith), eq-eqb a a refl, less_self stem) (or_and_false (ltb f g) (eqb f g))

same_frames : (a f g : ℕ) (stem : List ℕ) → same (a ∷ f ∷ stem) (a ∷ g ∷ stem) ≡ eqb f g
unfolding same
same_frames a f g stem = rw (eq-eqb a a refl, same_self stem) (and_true (eqb f g))

-- ---- names and keys

name_parts : (s : List ℕ) (base : ℕ) (x : Step (Option ℕ)) → name_of s base x ≡ ((key_by s base x).first ∷ (key_by s base x).frame ∷ stem_of (name_of s base x))
unfolding chars key_at
name_parts s base (ok None p) = refl
name_parts s base (ok (Some o) p) = refl
name_parts s base (Step.refused n) = refl

parts : (s : List ℕ) (base i : ℕ) → names_of s base i ≡ ((key_of s base i).first ∷ (key_of s base i).frame ∷ stem_of (names_of s base i))
unfolding names_of key_of
parts s base i = name_parts s base (offset_at s (base + 4 + 4 * i))

name_lettered : (lo : ℕ) (s : List ℕ) (base : ℕ) (x : Step (Option ℕ)) → lettered lo (name_of s base x) ≡ (eqb (key_by s base x).first 43 && (leb lo (key_by s base x).frame && leb (key_by s base x).frame (lo + 9)))
unfolding chars key_at
name_lettered lo s base (ok None p) = refl
name_lettered lo s base (ok (Some o) p) = refl
name_lettered lo s base (Step.refused n) = refl

is_lettered : (lo : ℕ) (s : List ℕ) (base i : ℕ) → lettered lo (names_of s base i) ≡ (eqb (key_of s base i).first 43 && (leb lo (key_of s base i).frame && leb (key_of s base i).frame (lo + 9)))
unfolding names_of key_of
is_lettered lo s base i = name_lettered lo s base (offset_at s (base + 4 + 4 * i))

-- a number below n, and one that is not
inside : (n i : ℕ) → i < n → answer i ≡ within n i
inside n i h = rw (lt-ltb i n h) refl

outside : (n i : ℕ) → n ≤ i → refused 20 ≡ within n i
outside n i h = rw (le-ltb i n h) refl

-- two names with one first byte and one stem
precedes_by : (names : ℕ → List ℕ) (j l a f g : ℕ) (stem : List ℕ) → names j ≡ (a ∷ g ∷ stem) → names l ≡ (a ∷ f ∷ stem) → precedes names j l ≡ (ltb f g || (eqb f g && ltb l j))
precedes_by names j l a f g stem e h = rw (e, h, less_frames a f g stem, same_frames a f g stem) refl

module _ (lo : ℕ) (s : List ℕ) (base : ℕ) where
  module _ (a b : ℕ) where
    abbrev group : ℕ → Bool
    group = grouped lo s base a b

    plus : (j : ℕ) → group j ≡ true → (key_of s base j).first ≡ 43
    unfolding grouped
    plus j e = eqb-true _ _ (and_left _ _ (and_left _ _ e))

    start_is : (j : ℕ) → group j ≡ true → a ≡ starts s base j
    unfolding grouped
    start_is j e = eqb-true _ _ (and_left _ _ (and_right (eqb (key_of s base j).first 43 && (leb lo (key_of s base j).frame && leb (key_of s base j).frame (lo + 9))) _ e))

    end_is : (j : ℕ) → group j ≡ true → b ≡ ends s base j
    unfolding grouped
    end_is j e = eqb-true _ _ (and_right (eqb a (starts s base j)) _ (and_right (eqb (key_of s base j).first 43 && (leb lo (key_of s base j).frame && leb (key_of s base j).frame (lo + 9))) _ e))

    -- the letters of a group
    letter_from : (j : ℕ) → group j ≡ true → lo ≤ frames s base j
    unfolding grouped
    letter_from j e = leb-true _ _ (and_left _ _ (and_right (eqb (key_of s base j).first 43) _ (and_left _ _ e)))

    letter_to : (j : ℕ) → group j ≡ true → frames s base j ≤ lo + 9
    unfolding grouped
    letter_to j e = leb-true _ _ (and_right (leb lo (key_of s base j).frame) _ (and_right (eqb (key_of s base j).first 43) _ (and_left _ _ e)))

    -- those of a letter
    letter_is : (c j : ℕ) → lo ≤ c → c ≤ lo + 9 → (group j && eqb (frames s base j) c) ≡ framed s base a b c j
    unfolding grouped is_frame
    letter_is c j h k = by (eqb (frames s base j) c) refl
      where
        rest : Bool
        rest = eqb a (starts s base j) && eqb b (ends s base j)

        with_letter : (x y : Bool) → (((x && true) && y) && true) ≡ (x && y)
        with_letter true true = refl
        with_letter true false = refl
        with_letter false y = refl

        without : (x y z : Bool) → ((x && y) && false) ≡ (z && false)
        without true true true = refl
        without true true false = refl
        without true false true = refl
        without true false false = refl
        without false y true = refl
        without false y false = refl

        by : (u : Bool) → eqb (frames s base j) c ≡ u
            → (((eqb (key_of s base j).first 43 && (leb lo (key_of s base j).frame && leb (key_of s base j).frame (lo + 9))) && (eqb a (starts s base j) && eqb b (ends s base j))) && u)
            ≡ (eqb (key_of s base j).first 43 && (u && (eqb a (starts s base j) && eqb b (ends s base j))))
        by true e =
            let q : frames s base j ≡ c = eqb-true _ _ e in
            rw (le-leb lo (frames s base j) (omega (arith, q, h)), le-leb (frames s base j) (lo + 9) (omega (arith, q, k))) (with_letter (eqb (key_of s base j).first 43) (eqb a (starts s base j) && eqb b (ends s base j)))
        by false e = without (eqb (key_of s base j).first 43 && (leb lo (key_of s base j).frame && leb (key_of s base j).frame (lo + 9))) (eqb a (starts s base j) && eqb b (ends s base j)) (eqb (key_of s base j).first 43)

    -- the ways through `at_place`
    module _ (n place letter left : ℕ) (from : lo ≤ letter) (sum : count (λ l. group l && ltb (frames s base l) letter) n + left ≡ place) where
      pub at_end : lo + 10 ≤ letter → refused 20 ≡ within n (lowest (λ j. group j && eqb (ranked group (frames s base) n j) place) n)
      at_end h = outside n n (omega arith) ∙ ap (λ (i : ℕ). within n i) (no_place group (frames s base) n letter place (λ l e. omega (arith, h, letter_to l e)) (omega (arith, sum)))

      module _ (to : letter ≤ lo + 9) (at : Option ℕ) (seen : ℕ) (reached : Reached (framed s base a b letter) left n at seen) where
        level_count : (m : ℕ) → count (λ l. group l && eqb (frames s base l) letter) m ≡ count (framed s base a b letter) m
        level_count m = count_same _ _ m (λ l. letter_is letter l from to)

        pub at_found : (i : ℕ) → at ≡ Some i → answer i ≡ within n (lowest (λ j. group j && eqb (ranked group (frames s base) n j) place) n)
        at_found i is =
            let r = subst (λ (o : Option ℕ). Reached (framed s base a b letter) left n o seen) is reached in
            let e : (group i && eqb (frames s base i) letter) ≡ true = letter_is letter i from to ∙ r.1 in
            inside n i r.0 ∙ ap (λ (j : ℕ). within n j) (is_place group (frames s base) n letter left place i (and_left _ _ e) (eqb-true _ _ (and_right (group i) _ e)) r.0 (level_count i ∙ (sym r.2 ∙ r.3)) sum)

        pub at_further : at ≡ None → count (λ l. group l && ltb (frames s base l) (letter + 1)) n + (left - seen) ≡ place
        at_further is =
            let r = subst (λ (o : Option ℕ). Reached (framed s base a b letter) left n o seen) is reached in
            omega (arith, next_letter group (frames s base) letter n, level_count n, r.0, sum, r.1)

    none_lower : (n : ℕ) → count (λ l. group l && ltb (frames s base l) lo) n ≡ 0
    none_lower n = count_alike _ (λ l. false) n (λ l h. one l) ∙ never n
      where
        one : (l : ℕ) → (group l && ltb (frames s base l) lo) ≡ false
        one l = by (group l) refl
          where
            by : (x : Bool) → group l ≡ x → (x && ltb (frames s base l) lo) ≡ false
            by true e = le-ltb _ _ (letter_from l e)
            by false e = refl

    pub at_start : (n place : ℕ) → count (λ l. group l && ltb (frames s base l) lo) n + place ≡ place
    at_start n place = omega (arith, none_lower n)

-- ---- the place by names is the place by keys

module _ (lo : ℕ) (s : List ℕ) (bytes : (i : ℕ) → get_or s i 0 < 256) (base : ℕ) where
  alike_is : (i j : ℕ) → alike (lettered lo) (names_of s base) i j ≡ grouped lo s base (starts s base i) (ends s base i) j
  unfolding grouped
  alike_is i j = both (is_lettered lo s base j) (same_is s bytes base i j)

  module _ (i n : ℕ) where
    abbrev mine : ℕ → Bool
    mine = grouped lo s base (starts s base i) (ends s base i)

    order_is : (j l : ℕ) → mine j ≡ true → (alike (lettered lo) (names_of s base) j l && precedes (names_of s base) j l) ≡ (mine l && (ltb (frames s base l) (frames s base j) || (eqb (frames s base l) (frames s base j) && ltb l j)))
    order_is j l e = by (mine l) refl
      where
        same_group : alike (lettered lo) (names_of s base) j l ≡ mine l
        same_group = alike_is j l ∙ rw (← start_is lo s base (starts s base i) (ends s base i) j e, ← end_is lo s base (starts s base i) (ends s base i) j e) refl

        by : (x : Bool) → mine l ≡ x → (alike (lettered lo) (names_of s base) j l && precedes (names_of s base) j l) ≡ (x && (ltb (frames s base l) (frames s base j) || (eqb (frames s base l) (frames s base j) && ltb l j)))
        by false g = rw (same_group, g) refl
        by true g =
            let st : stem_of (names_of s base j) ≡ stem_of (names_of s base l) = same_equal _ _ (and_right (lettered lo (names_of s base l)) _ (same_group ∙ g)) in
            let nj : names_of s base j ≡ (43 ∷ frames s base j ∷ stem_of (names_of s base l)) = parts s base j ∙ rw (plus lo s base (starts s base i) (ends s base i) j e, st) refl in
            let nl : names_of s base l ≡ (43 ∷ frames s base l ∷ stem_of (names_of s base l)) = parts s base l ∙ rw (plus lo s base (starts s base i) (ends s base i) l g) refl in
            rw (same_group, g) (precedes_by (names_of s base) j l 43 (frames s base l) (frames s base j) (stem_of (names_of s base l)) nj nl)

    place_is : (j : ℕ) → j < n → mine j ≡ true → place_of (lettered lo) (names_of s base) n j ≡ ranked mine (frames s base) n j
    unfolding place_of
    place_is j h e = count_same _ _ n (λ l. order_is j l e) ∙ ranked_is mine (frames s base) n j (omega (arith, h))

    sought_is : (place j : ℕ) → j < n → (alike (lettered lo) (names_of s base) i j && eqb (place_of (lettered lo) (names_of s base) n j) place) ≡ (mine j && eqb (ranked mine (frames s base) n j) place)
    sought_is place j h = by (mine j) refl
      where
        by : (x : Bool) → mine j ≡ x → (alike (lettered lo) (names_of s base) i j && eqb (place_of (lettered lo) (names_of s base) n j) place) ≡ (x && eqb (ranked mine (frames s base) n j) place)
        by true e = rw (alike_is i j, e, place_is j h e) refl
        by false e = rw (alike_is i j, e) refl

    lowest_is : (place : ℕ) → lowest (λ j. alike (lettered lo) (names_of s base) i j && eqb (place_of (lettered lo) (names_of s base) n j) place) n ≡ lowest (λ j. mine j && eqb (ranked mine (frames s base) n j) place) n
    lowest_is place = lowest_alike _ _ n (sought_is place)

  -- the ways through `find_frame`
  module _ (n number place st : ℕ) (statics : st ≡ count (λ i. not (passing s base Animated i)) n) where
    static_count : count (is_static (names_of s base)) n ≡ st
    static_count = statics_are s bytes base n ∙ sym statics

    pub frame_of_static : number < st → refused 20 ≡ frame_by (lettered lo) (names_of s base) n number place
    unfolding frame_by
    frame_of_static h = rw static_count (simp (lt-ltb number st h))

    module _ (above : st ≤ number) (at : Option ℕ) (seen : ℕ) (reached : Reached (is_earliest (passing s base Animated) (starts s base) (ends s base)) (number - st) n at seen) where
      first_at : nth (is_first (names_of s base)) (number - st) n ≡ unwrap_or at n
      first_at = nth_same _ _ (number - st) n (first_is_earliest s bytes base) ∙ reached_nth _ (number - st) n at seen reached

      pub frame_of_none : at ≡ None → refused 20 ≡ frame_by (lettered lo) (names_of s base) n number place
      unfolding frame_by
      frame_of_none is =
          let f : nth (is_first (names_of s base)) (number - st) n ≡ n = first_at ∙ ap (λ (o : Option ℕ). unwrap_or o n) is in
          rw (static_count, f) (simp (le-ltb number st above, le-ltb n n (omega arith)))

      module _ (first : ℕ) (is-first : at ≡ Some first) (key : Key) (is_key : key ≡ key_of s base first) (j : ℕ)
          (is-j : j ≡ lowest (λ j. grouped lo s base key.stem.start key.stem.end j && eqb (ranked (grouped lo s base key.stem.start key.stem.end) (frames s base) n j) place) n) where
        found_is : lowest (λ j. alike (lettered lo) (names_of s base) first j && eqb (place_of (lettered lo) (names_of s base) n j) place) n ≡ j
        found_is = lowest_is first n place ∙ sym (subst (λ (k : Key). j ≡ lowest (λ j. grouped lo s base k.stem.start k.stem.end j && eqb (ranked (grouped lo s base k.stem.start k.stem.end) (frames s base) n j) place) n) is_key is-j)

        pub frame_within : (r : Answer ℕ) → r ≡ within n j → r ≡ frame_by (lettered lo) (names_of s base) n number place
        unfolding frame_by
        frame_within r e =
            let f : nth (is_first (names_of s base)) (number - st) n ≡ first = first_at ∙ ap (λ (o : Option ℕ). unwrap_or o n) is-first in
            let h = subst (λ (o : Option ℕ). Reached (is_earliest (passing s base Animated) (starts s base) (ends s base)) (number - st) n o seen) is-first reached in
            rw (static_count, f) (simp (le-ltb number st above, lt-ltb first n h.0) (rw found_is e))
