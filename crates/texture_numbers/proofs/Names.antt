-- The numbers by the first textures of stems are those by names.
-- Assumes nothing.
use Prim.Native.Nat.{ℕ, zero, suc, ◌<◌, ◌≤◌}
use mathlib.Core.Path.{◌≡◌, refl, sym, ap, ◌∙◌}
use mathlib.Core.Bool.{Bool, true, false, not, ◌&&◌}
use mathlib.Core.List.{List, [], ◌∷◌}
use native.Mathlib.Omega.{arith}
use borrow.Author.Tests.{eqb-true, eq-eqb, ne_eqb, ltb-true, ltb-false}
use lib.Dec.{eqb, ltb}
use lib.ListN.{length, get_or}
use Rattle.textures.specs.Count.{any, count, lowest, values_below}
use Rattle.textures.specs.Group.{alike, is_static, is_first, numbered_by}
use Rattle.textures.specs.Private.{earliest_by}
use Rattle.texture_list.specs.Name.{is_animated, stem_of, same}
use Rattle.textures.proofs.Tables.{true_false}
use Rattle.textures.proofs.Marks.{any_below, any_at, any_same, and_left, and_right}
use Rattle.textures.proofs.Firsts.{lowest_at}
use Rattle.textures.proofs.Leads.{Lowest, the_lowest, each_is, each_at, each_length}
use Rattle.texture_numbers.specs.Renumber.{has_none, leads, number_in, Led}

same_self : (xs : List ℕ) → same xs xs ≡ true
unfolding same
same_self [] = refl
same_self (x ∷ xs) = rw (eq-eqb x x refl, same_self xs) refl

same_equal : (xs ys : List ℕ) → same xs ys ≡ true → xs ≡ ys
unfolding same
same_equal [] [] e = refl
same_equal [] (y ∷ ys) e = absurd (true_false (sym e))
same_equal (x ∷ xs) [] e = absurd (true_false (sym e))
same_equal (x ∷ xs) (y ∷ ys) e = rw (eqb-true x y (and_left _ _ e), same_equal xs ys (and_right (eqb x y) _ e)) refl

count_like : (p q : ℕ → Bool) (n : ℕ) → ((i : ℕ) → i < n → p i ≡ q i) → count p n ≡ count q n
unfolding count
count_like p q zero h = refl
count_like p q (suc n) h = rw (count_like p q n (λ i k. h i (omega (arith, k))), h n (omega arith)) refl

module _ (name : ℕ → List ℕ) (n : ℕ) (few : n ≤ 2097152) where
  alike_self : (i : ℕ) → is_animated (name i) ≡ true → alike is_animated name i i ≡ true
  alike_self i e = rw (e, same_self (stem_of (name i))) refl

  of_static : (i : ℕ) → is_animated (name i) ≡ false → earliest_by name n i ≡ 4294967295
  unfolding earliest_by
  of_static i e = rw e refl

  of_animated : (i : ℕ) → is_animated (name i) ≡ true → earliest_by name n i ≡ lowest (alike is_animated name i) n
  unfolding earliest_by
  of_animated i e = rw e refl

  module _ (i : ℕ) (h : i < n) (e : is_animated (name i) ≡ true) where
    pub first : Lowest (alike is_animated name i) n
    first = the_lowest (alike is_animated name i) n (any_at _ n i h (alike_self i e))

    is_first_lem : earliest_by name n i ≡ first.number
    is_first_lem = of_animated i e ∙ first.is

    not_after : first.number ≤ i
    not_after = by (ltb i first.number) refl
      where
        by : (x : Bool) → ltb i first.number ≡ x → first.number ≤ i
        by true f = absurd (true_false (sym (alike_self i e) ∙ any_below _ first.number i first.none (ltb-true i first.number f)))
        by false f = ltb-false i first.number f

    -- the first texture with a stem is the first with its own
    first_of_first : earliest_by name n first.number ≡ first.number
    first_of_first =
        let f = first.number in
        let e' : is_animated (name f) ≡ true = and_left _ _ first.passes in
        of_animated f e' ∙ lowest_at (alike is_animated name f) n f first.below (alike_self f e') (any_same _ _ f (λ j. ap (λ (x : List ℕ). is_animated (name j) && same x (stem_of (name j))) (sym stems)) ∙ first.none)
      where
        stems : stem_of (name i) ≡ stem_of (name first.number)
        stems = same_equal _ _ (and_right (is_animated (name first.number)) _ first.passes)

    leads_is : eqb (earliest_by name n i) i ≡ not (any (alike is_animated name i) i)
    leads_is = by (any (alike is_animated name i) i) refl
      where
        by : (x : Bool) → any (alike is_animated name i) i ≡ x → eqb (earliest_by name n i) i ≡ not x
        by true f =
            let d = the_lowest (alike is_animated name i) i f in
            let q = of_animated i e ∙ lowest_at (alike is_animated name i) n d.number (omega (arith, d.below, h)) d.passes d.none in
            ne_eqb (earliest_by name n i) i (λ z. absurd (omega (arith, z, q, d.below)))
        by false f = eq-eqb (earliest_by name n i) i (of_animated i e ∙ lowest_at (alike is_animated name i) n i h (alike_self i e) f)

  abbrev firsts : List ℕ
  firsts = values_below (earliest_by name n) n

  at : (i : ℕ) → i < n → get_or firsts i 0 ≡ earliest_by name n i
  at i h = each_at (earliest_by name n) n i h

  none_is : (i : ℕ) → i < n → has_none firsts i ≡ is_static name i
  none_is i h = rw (at i h) (by (is_animated (name i)) refl)
    where
      by : (x : Bool) → is_animated (name i) ≡ x → eqb (earliest_by name n i) 4294967295 ≡ not (is_animated (name i))
      by true e = rw e (ne_eqb (earliest_by name n i) 4294967295 (λ z. absurd (omega (arith, z, is_first_lem i h e, (first i h e).below, few))))
      by false e = rw e (eq-eqb (earliest_by name n i) 4294967295 (of_static i e))

  first_is : (i : ℕ) → i < n → leads firsts i ≡ is_first name i
  first_is i h = rw (at i h) (by (is_animated (name i)) refl)
    where
      by : (x : Bool) → is_animated (name i) ≡ x → eqb (earliest_by name n i) i ≡ is_first name i
      by true e = rw e (leads_is i h e)
      by false e = rw e (ne_eqb (earliest_by name n i) i (λ z. absurd (omega (arith, z, of_static i e, h, few))))

  pub led : Led firsts
  led i h z = by (is_animated (name i)) refl
    where
      inside : i < n
      inside = omega (arith, h, each_length (earliest_by name n) n)

      by : (x : Bool) → is_animated (name i) ≡ x → (get_or firsts i 0 ≤ i) × (get_or firsts (get_or firsts i 0) 0 ≡ get_or firsts i 0)
      by true e =
          let q : get_or firsts i 0 ≡ (first i inside e).number = at i inside ∙ is_first_lem i inside e in
          rw q (not_after i inside e, at (first i inside e).number (first i inside e).below ∙ first_of_first i inside e)
      by false e = absurd (z (at i inside ∙ of_static i e))

  number_is : (i : ℕ) → i < n → number_in firsts i ≡ numbered_by name n i
  unfolding number_in numbered_by
  number_is i h = by (is_animated (name i)) refl
    where
      statics : (m : ℕ) → m ≤ n → count (has_none firsts) m ≡ count (is_static name) m
      statics m k = count_like (has_none firsts) (is_static name) m (λ j g. none_is j (omega (arith, g, k)))

      by : (x : Bool) → is_animated (name i) ≡ x → number_in firsts i ≡ numbered_by name n i
      by true e =
          let q : get_or firsts i 0 ≡ lowest (alike is_animated name i) n = at i h ∙ of_animated i e in
          let k : lowest (alike is_animated name i) n ≤ n = omega (arith, (first i h e).is, (first i h e).below) in
          rw (none_is i h, e, each_length (earliest_by name n) n, q, statics n (omega arith), count_like (leads firsts) (is_first name) (lowest (alike is_animated name i) n) (λ j g. first_is j (omega (arith, g, k)))) refl
      by false e = rw (none_is i h, e) (statics i (omega (arith, h)))

  pub numbers_are : (l : List ℕ) → l ≡ values_below (number_in firsts) (length firsts) → l ≡ values_below (numbered_by name n) n
  numbers_are l e =
      let k = each_length (earliest_by name n) n in
      each_is (numbered_by name n) n l (ap length e ∙ (each_length (number_in firsts) (length firsts) ∙ k))
      (λ i h. ap (λ (x : List ℕ). get_or x i 0) e ∙ (each_at (number_in firsts) (length firsts) i (omega (arith, h, k)) ∙ number_is i h))
