-- The first texture with the stem of each texture, part by part.
-- Assumes nothing.
use Prim.Native.Nat.{ℕ, zero, suc, ◌+◌, ◌*◌, ◌<◌, ◌≤◌}
use mathlib.Core.Path.{◌≡◌, refl, sym, ap, ◌∙◌, subst}
use mathlib.Core.Bool.{Bool, true, false, ◌||◌, cond}
use mathlib.Core.List.{List, [], ◌∷◌, ◌++◌}
use native.Mathlib.Nat.{not-suc-le-zero}
use native.Mathlib.Omega.{arith}
use borrow.Author.Tests.{eqb-true, eqb-false, eq-eqb, ltb-true, ltb-false}
use lib.Dec.{eqb, ltb}
use lib.ListN.{length, get_or, set, replicate, drop, get_or-replicate}
use lib.Seq.{get_or-set_same, get_or-set_other}
use Rattle.format.proofs.Listing.{into_short, into_list}
use Rattle.format.specs.Answer.{answer, refused, mapped}
use Rattle.format.specs.Listed.{listed, into}
use Rattle.format.specs.declared.section.BspData.{BspData}
use Rattle.textures.specs.Access.{is_sound, names_in}
use Rattle.textures.specs.Count.{any, lowest, values_below}
use Rattle.textures.specs.Private.{earliest_by, earliest_textures}
use Rattle.texture_list.specs.Kind.{passing, starts, ends}
use Rattle.texture_list.specs.List.{names_of}
use Rattle.textures.specs.Table.{holds, seek, Filled, hits, earliest_of, is_like, known_of, Known, KnownTo, Heads}
use Rattle.textures.specs.Sieve.{SameNode}
use Rattle.texture_list.specs.declared.kind.Kind.TheVariants.{Animated}
use Rattle.std.specs.Prelude.{Option, Some}
use Rattle.textures.proofs.Tables.{true_false, found_node}
use Rattle.textures.proofs.Marks.{any_next, any_below, any_at, any_none, any_same, and_left, and_right, holds_seek}
use Rattle.textures.proofs.Firsts.{lowest_at}
use Rattle.textures.proofs.Numbers.{lowest_same, animated_is, like_is}

-- ---- the lowest that passes

pub record Lowest (q : ℕ → Bool) (n : ℕ) : Type 0 where
  pub number : ℕ
  pub is : lowest q n ≡ number
  pub below : number < n
  pub passes : q number ≡ true
  pub none : any q number ≡ false

pub the_lowest : (q : ℕ → Bool) (n : ℕ) → any q n ≡ true → Lowest q n
unfolding any
the_lowest q zero e = absurd (true_false (sym e))
the_lowest q (suc n) e = by (any q n) (q n) refl refl (the_lowest q n)
  where
    by : (x y : Bool) → any q n ≡ x → q n ≡ y → (any q n ≡ true → Lowest q n) → Lowest q (suc n)
    by true y f g deeper =
        let d = deeper f in
        record { number = d.number; is = lowest_at q (suc n) d.number (omega (arith, d.below)) d.passes d.none; below = omega (arith, d.below); passes = d.passes; none = d.none }
    by false true f g deeper = record { number = n; is = lowest_at q (suc n) n (omega arith) g f; below = omega arith; passes = g; none = f }
    by false false f g deeper = let z : (any q n || q n) ≡ false = rw (f, g) refl in absurd (true_false (sym e ∙ z))

module _ (q : ℕ → Bool) where
  pub none_yet : (m : ℕ) → any q m ≡ false → earliest_of q m ≡ 4294967295
  unfolding earliest_of
  none_yet m e = rw e refl

  pub some_now : (m : ℕ) (d : Lowest q m) → any q m ≡ true → earliest_of q m ≡ d.number
  unfolding earliest_of
  some_now m d e = rw e d.is

  pub is_some : (m : ℕ) → m ≤ 2097152 → (earliest_of q m ≡ 4294967295 → ⊥) → any q m ≡ true
  is_some m h z = by (any q m) refl
    where
      by : (x : Bool) → any q m ≡ x → any q m ≡ true
      by true e = e
      by false e = absurd (z (none_yet m e))

  pub is_none : (m : ℕ) → m ≤ 2097152 → earliest_of q m ≡ 4294967295 → any q m ≡ false
  is_none m h z = by (any q m) refl
    where
      by : (x : Bool) → any q m ≡ x → any q m ≡ false
      by true e = let d = the_lowest q m e in absurd (omega (arith, z, some_now m d e, d.below, h))
      by false e = e

  -- the first of some is the first of any others that have one
  pub agree : (m k : ℕ) → any q m ≡ true → any q k ≡ true → earliest_of q m ≡ earliest_of q k
  agree m k e f =
      let a = the_lowest q m e in
      let b = the_lowest q k f in
      some_now m a e ∙ (equal a.number b.number a.passes b.passes a.none b.none ∙ sym (some_now k b f))
    where
      equal : (x y : ℕ) → q x ≡ true → q y ≡ true → any q x ≡ false → any q y ≡ false → x ≡ y
      equal x y u v f g = by (ltb x y) (ltb y x) refl refl
        where
          by : (r s : Bool) → ltb x y ≡ r → ltb y x ≡ s → x ≡ y
          by true s i j = absurd (true_false (sym u ∙ any_below q y x g (ltb-true x y i)))
          by false true i j = absurd (true_false (sym v ∙ any_below q x y f (ltb-true y x j)))
          by false false i j = omega (arith, ltb-false x y i, ltb-false y x j)

  pub first_here : (m j : ℕ) → j < m → q j ≡ true → any q j ≡ false → j ≡ earliest_of q m
  unfolding earliest_of
  first_here m j h e f = rw (any_at q m j h e) (sym (lowest_at q m j h e f))

  pub skip : (j : ℕ) → q j ≡ false → earliest_of q j ≡ earliest_of q (j + 1)
  skip j e = by (any q j) refl
    where
      step : (x : Bool) → any q j ≡ x → any q (j + 1) ≡ x
      step true f = any_next q j ∙ rw f refl
      step false f = any_next q j ∙ rw (f, e) refl

      by : (x : Bool) → any q j ≡ x → earliest_of q j ≡ earliest_of q (j + 1)
      by true f = agree j (j + 1) f (step true f)
      by false f = none_yet j f ∙ sym (none_yet (j + 1) (step false f))

pub earliest_same : (p q : ℕ → Bool) (m : ℕ) → ((i : ℕ) → p i ≡ q i) → earliest_of p m ≡ earliest_of q m
unfolding earliest_of
earliest_same p q m h = rw (any_same p q m h, lowest_same p q m h) refl

-- ---- one texture

module _ (p : ℕ → Bool) (ka kb : ℕ → ℕ) where
  like_self : (i : ℕ) → p i ≡ true → is_like p ka kb i i ≡ true
  like_self i e = rw (e, eq-eqb (ka i) (ka i) refl, eq-eqb (kb i) (kb i) refl) refl

  like_one : (i j : ℕ) → p j ≡ true → ka j ≡ ka i → kb j ≡ kb i → is_like p ka kb i j ≡ true
  like_one i j e f g = rw (e, eq-eqb (ka i) (ka j) (sym f), eq-eqb (kb i) (kb j) (sym g)) refl

  known_some : (m i : ℕ) → p i ≡ true → known_of p ka kb m i ≡ earliest_of (is_like p ka kb i) m
  unfolding known_of
  known_some m i e = rw e refl

  known_no : (m i : ℕ) → p i ≡ false → known_of p ka kb m i ≡ 4294967295
  unfolding known_of
  known_no m i e = rw e refl

  -- what is before a part is known
  pub known_before : (from to i : ℕ) → from ≤ to → i < from → known_of p ka kb from i ≡ known_of p ka kb to i
  known_before from to i h k = by (p i) refl
    where
      by : (x : Bool) → p i ≡ x → known_of p ka kb from i ≡ known_of p ka kb to i
      by true e =
          known_some from i e
          ∙ (agree (is_like p ka kb i) from to (any_at _ from i k (like_self i e)) (any_at _ to i (omega (arith, h, k)) (like_self i e)) ∙ sym (known_some to i e))
      by false e = known_no from i e ∙ sym (known_no to i e)

  module _ (t : List ℕ) (w from to : ℕ) (filled : Filled p ka kb from to t w) (heads : List ℕ) (j : ℕ) (noted : Heads p ka kb t w from heads j) (after : from ≤ j) (order : from ≤ to)
      (small : j < 2097152) where
    -- the textures with a node's stem are those with j's
    same_stem_lem : (v : ℕ) → holds t v (ka j) (kb j) ≡ true → (i : ℕ) → hits p ka kb t v i ≡ is_like p ka kb j i
    unfolding holds
    same_stem_lem v e i =
        let a : get_or t (4 * v) 0 ≡ ka j = eqb-true _ _ (and_left _ _ e) in
        let b : get_or t (4 * v + 1) 0 ≡ kb j = eqb-true _ _ (and_right (eqb (get_or t (4 * v) 0) (ka j)) _ e) in
        rw (a, b) refl

    heads_skip : ((v : ℕ) → 0 < v → v < w → any (hits p ka kb t v) from ≡ false → hits p ka kb t v j ≡ false) → Heads p ka kb t w from heads (j + 1)
    heads_skip z v h k e = noted v h k e ∙ skip (hits p ka kb t v) j (z v h k e)

    -- a texture whose stem is known
    no_hit : any (is_like p ka kb j) from ≡ true → (v : ℕ) → any (hits p ka kb t v) from ≡ false → hits p ka kb t v j ≡ false
    no_hit f v e = by (hits p ka kb t v j) refl
      where
        by : (x : Bool) → hits p ka kb t v j ≡ x → hits p ka kb t v j ≡ false
        by true g = absurd (true_false (sym f ∙ (sym (any_same _ _ from (same_stem_lem v (and_right (p j) _ g))) ∙ e)))
        by false g = g

    pub stays_known : (x : ℕ) → x ≡ known_of p ka kb from j → (x ≡ 4294967295 → ⊥) → (x ≡ known_of p ka kb to j) × Heads p ka kb t w from heads (j + 1)
    stays_known x e z = by (p j) refl
      where
        by : (y : Bool) → p j ≡ y → (x ≡ known_of p ka kb to j) × Heads p ka kb t w from heads (j + 1)
        by false g = absurd (z (e ∙ known_no from j g))
        by true g =
            let f = is_some (is_like p ka kb j) from (omega (arith, after, small)) (λ y. z (e ∙ (known_some from j g ∙ y))) in
            let h = the_lowest (is_like p ka kb j) from f in (
              e ∙ (known_some from j g ∙ (agree (is_like p ka kb j) from to f (any_at _ to h.number (omega (arith, h.below, order)) h.passes) ∙ sym (known_some to j g))),
              heads_skip (λ v a b c. no_hit f v c),
            )

    -- a static texture
    pub stays_static : p j ≡ false → (4294967295 ≡ known_of p ka kb to j) × Heads p ka kb t w from heads (j + 1)
    stays_static e = (sym (known_no to j e), heads_skip (λ v a b c. rw e refl))

    -- a texture whose stem no texture before the part has
    module _ (passes : p j ≡ true) (unknown : known_of p ka kb from j ≡ 4294967295) (l : Option ℕ) (is : SameNode l (seek t (ka j) (kb j) 145 0 0)) where
      not_before : any (is_like p ka kb j) from ≡ false
      not_before = is_none (is_like p ka kb j) from (omega (arith, after, small)) (sym (known_some from j passes) ∙ unknown)

      misses : (v : ℕ) → 0 < v → v < w → (l ≡ Some v → ⊥) → hits p ka kb t v j ≡ false
      misses v h k z = by (holds t v (ka j) (kb j)) refl
        where
          by : (x : Bool) → holds t v (ka j) (kb j) ≡ x → hits p ka kb t v j ≡ false
          by true e = absurd (z (is.1 v (holds_seek t w filled.table v (ka j) (kb j) h k e)))
          by false e = rw (passes, e) refl

      pub not_in_part : ((v : ℕ) → l ≡ Some v → ⊥) → (4294967295 ≡ known_of p ka kb to j) × Heads p ka kb t w from heads (j + 1)
      not_in_part z = (sym (known_some to j passes ∙ none_yet (is_like p ka kb j) to (any_none _ to one)), heads_skip (λ v a b c. misses v a b (z v)))
        where
          found : (i : ℕ) → from ≤ i → i < to → is_like p ka kb j i ≡ true → ⊥
          found i h k e =
              let a : ka j ≡ ka i = eqb-true _ _ (and_left _ _ (and_right (p i) _ e)) in
              let b : kb j ≡ kb i = eqb-true _ _ (and_right (eqb (ka j) (ka i)) _ (and_right (p i) _ e)) in
              let d = filled.covers i h k (and_left (p i) _ e) in
              z d.node
              (is.1 d.node (ap (λ (y : ℕ). seek t y (kb j) 145 0 0) a ∙ (ap (λ (y : ℕ). seek t (ka i) y 145 0 0) b ∙ holds_seek t w filled.table d.node (ka i) (kb i) d.positive d.inside d.has)))

          one : (i : ℕ) → i < to → is_like p ka kb j i ≡ false
          one i h = by (ltb i from) (is_like p ka kb j i) refl refl
            where
              by : (x y : Bool) → ltb i from ≡ x → is_like p ka kb j i ≡ y → is_like p ka kb j i ≡ false
              by true y e f = any_below (is_like p ka kb j) from i not_before (ltb-true i from e)
              by false true e f = absurd (found i (ltb-false i from e) h f)
              by false false e f = f

      module _ (v : ℕ) (at : l ≡ Some v) where
        node : (0 < v) × ((v < w) × (holds t v (ka j) (kb j) ≡ true))
        node = found_node t w filled.table.below (ka j) (kb j) 145 0 0 v filled.table.some (omega arith) (is.0 v at)

        pub node_within : v < w
        node_within = node.1.0

        same_here : (i : ℕ) → hits p ka kb t v i ≡ is_like p ka kb j i
        same_here = same_stem_lem v node.1.1

        head_is : get_or heads v 0 ≡ earliest_of (is_like p ka kb j) j
        head_is = noted v node.0 node.1.0 (any_same _ _ from same_here ∙ not_before) ∙ earliest_same _ _ j same_here

        -- a texture of the part has the stem
        in_part : Lowest (is_like p ka kb j) to
        unfolding holds
        in_part =
            let s = filled.sources v node.0 node.1.0 in
            let a : get_or t (4 * v) 0 ≡ ka j = eqb-true _ _ (and_left _ _ node.1.1) in
            let b : get_or t (4 * v + 1) 0 ≡ kb j = eqb-true _ _ (and_right (eqb (get_or t (4 * v) 0) (ka j)) _ node.1.1) in
            the_lowest (is_like p ka kb j) to (any_at _ to s.number s.stop (like_one j s.number s.passes (s.front ∙ a) (s.back ∙ b)))

        any_in_part : any (is_like p ka kb j) to ≡ true
        any_in_part = any_at _ to in_part.number in_part.below in_part.passes

        same : (u : ℕ) → Some u ≡ Some v → u ≡ v
        same u e = cc

        others : (u : ℕ) → 0 < u → u < w → (u ≡ v → ⊥) → hits p ka kb t u j ≡ false
        others u h k z = misses u h k (λ e. z (same u (sym e ∙ at)))

        pub has_head : (get_or heads v 0 ≡ 4294967295 → ⊥) → (get_or heads v 0 ≡ known_of p ka kb to j) × Heads p ka kb t w from heads (j + 1)
        has_head z =
            let f : any (is_like p ka kb j) j ≡ true = is_some (is_like p ka kb j) j (omega (arith, small)) (λ e. z (head_is ∙ e)) in
            (head_is ∙ (agree (is_like p ka kb j) j to f any_in_part ∙ sym (known_some to j passes)), next f)
          where
            next : any (is_like p ka kb j) j ≡ true → Heads p ka kb t w from heads (j + 1)
            next f u h k e = by (eqb u v) refl
              where
                by : (x : Bool) → eqb u v ≡ x → get_or heads u 0 ≡ earliest_of (hits p ka kb t u) (j + 1)
                by true g =
                    let q : v ≡ u = sym (eqb-true u v g) in
                    subst (λ (y : ℕ). get_or heads y 0 ≡ earliest_of (hits p ka kb t y) (j + 1)) q
                    (head_is ∙ (agree (is_like p ka kb j) j (j + 1) f (any_next _ j ∙ rw f refl) ∙ sym (earliest_same _ _ (j + 1) same_here)))
                by false g = noted u h k e ∙ skip (hits p ka kb t u) j (others u h k (eqb-false u v g))

        pub new_head : get_or heads v 0 ≡ 4294967295 → w ≤ length heads → (j ≡ known_of p ka kb to j) × Heads p ka kb t w from (set heads v j) (j + 1)
        new_head z room =
            let f : any (is_like p ka kb j) j ≡ false = is_none (is_like p ka kb j) j (omega (arith, small)) (sym head_is ∙ z) in
            (first_here (is_like p ka kb j) to j (early f) (like_self j passes) f ∙ sym (known_some to j passes), next f)
          where
            early : any (is_like p ka kb j) j ≡ false → j < to
            early f = by (ltb in_part.number j) refl
              where
                by : (x : Bool) → ltb in_part.number j ≡ x → j < to
                by true e = absurd (true_false (sym in_part.passes ∙ any_below (is_like p ka kb j) j in_part.number f (ltb-true in_part.number j e)))
                by false e = omega (arith, ltb-false in_part.number j e, in_part.below)

            next : any (is_like p ka kb j) j ≡ false → Heads p ka kb t w from (set heads v j) (j + 1)
            next f u h k e = by (eqb u v) refl
              where
                by : (x : Bool) → eqb u v ≡ x → get_or (set heads v j) u 0 ≡ earliest_of (hits p ka kb t u) (j + 1)
                by true g =
                    let q : v ≡ u = sym (eqb-true u v g) in
                    subst (λ (y : ℕ). get_or (set heads v j) y 0 ≡ earliest_of (hits p ka kb t y) (j + 1)) q
                    (get_or-set_same heads v j 0 (omega (arith, node_within, room)) ∙ (first_here (is_like p ka kb j) (j + 1) j (omega arith) (like_self j passes) f ∙ sym (earliest_same _ _ (j + 1) same_here)))
                by false g = get_or-set_other heads v u j 0 (eqb-false u v g) ∙ (noted u h k e ∙ skip (hits p ka kb t u) j (others u h k (eqb-false u v g)))

  -- ---- all textures, and part by part

  pub no_heads : (t : List ℕ) (w from : ℕ) (heads : List ℕ) → heads ≡ replicate w 4294967295 → Heads p ka kb t w from heads from
  no_heads t w from heads e v h k f = ap (λ (l : List ℕ). get_or l v 0) e ∙ (get_or-replicate w v 4294967295 0 k ∙ sym (none_yet (hits p ka kb t v) from f))

  module _ (n from to : ℕ) (order : from ≤ to) where
    pub known_start : (list : List ℕ) → Known p ka kb n from list → KnownTo p ka kb n from to from list
    known_start list known i h = known i h ∙ by (ltb i from) refl
      where
        by : (x : Bool) → ltb i from ≡ x → known_of p ka kb from i ≡ known_of p ka kb (cond (ltb i from) to from) i
        by true e = rw e (known_before from to i order (ltb-true i from e))
        by false e = rw e refl

  pub known_none : (n : ℕ) (list : List ℕ) → list ≡ replicate n 4294967295 → Known p ka kb n 0 list
  unfolding any
  known_none n list f i h = ap (λ (l : List ℕ). get_or l i 0) f ∙ (get_or-replicate n i 4294967295 0 h ∙ by (p i) refl)
    where
      by : (x : Bool) → p i ≡ x → 4294967295 ≡ known_of p ka kb 0 i
      by true g = sym (known_some 0 i g ∙ none_yet (is_like p ka kb i) 0 refl)
      by false g = sym (known_no 0 i g)

-- ---- lists by their entries

pub each_is : (f : ℕ → ℕ) (n : ℕ) (l : List ℕ) → length l ≡ n → ((i : ℕ) → i < n → get_or l i 0 ≡ f i) → l ≡ values_below f n
unfolding values_below
each_is f zero [] e h = refl
each_is f zero (x ∷ xs) e h = absurd (omega (arith, e))
each_is f (suc n) [] e h = absurd (omega (arith, e))
each_is f (suc n) (x ∷ xs) e h = rw (h 0 (omega arith), each_is (λ i. f (suc i)) n xs (omega (arith, e)) (λ i k. h (suc i) (omega (arith, k)))) refl

pub each_length : (f : ℕ → ℕ) (n : ℕ) → length (values_below f n) ≡ n
unfolding values_below
each_length f zero = refl
each_length f (suc n) = ap suc (each_length (λ i. f (suc i)) n)

pub each_at : (f : ℕ → ℕ) (n i : ℕ) → i < n → get_or (values_below f n) i 0 ≡ f i
unfolding values_below
each_at f zero i h = absurd (not-suc-le-zero h)
each_at f (suc n) zero h = refl
each_at f (suc n) (suc i) h = each_at (λ i. f (suc i)) n i (omega (arith, h))

-- ---- by names

module _ (s : List ℕ) (bytes : (i : ℕ) → get_or s i 0 < 256) (base n : ℕ) where
  earliest_is : (i : ℕ) → i < n → known_of (passing s base Animated) (starts s base) (ends s base) n i ≡ earliest_by (names_of s base) n i
  unfolding earliest_by known_of earliest_of
  earliest_is i h = by (passing s base Animated i) refl
    where
      by : (x : Bool) → passing s base Animated i ≡ x
          → cond (passing s base Animated i) (cond (any (is_like (passing s base Animated) (starts s base) (ends s base) i) n) (lowest (is_like (passing s base Animated) (starts s base) (ends s base) i) n) 4294967295) 4294967295
          ≡ earliest_by (names_of s base) n i
      by true e =
          rw (animated_is s base i, e, any_at (is_like (passing s base Animated) (starts s base) (ends s base) i) n i h (like_self (passing s base Animated) (starts s base) (ends s base) i e))
          (sym (lowest_same _ _ n (like_is s bytes base i)))
      by false e = rw (animated_is s base i, e) refl

  pub all_found : (l : List ℕ) → length l ≡ n → Known (passing s base Animated) (starts s base) (ends s base) n n l → l ≡ values_below (earliest_by (names_of s base) n) n
  all_found l e known = each_is (earliest_by (names_of s base) n) n l e (λ i h. known i h ∙ earliest_is i h)

-- ---- the ways through `earliest_textures`

module _ (lent s : List ℕ) (m : BspData) (x : Bool) (is : x ≡ is_sound s m) where
  pub earliest_unsound : x ≡ false → listed (refused 23) lent ≡ into (earliest_textures s m) lent
  unfolding earliest_textures
  earliest_unsound e = rw (← is, e) refl

  module _ (e : x ≡ true) where
    sound_list : earliest_textures s m ≡ answer (values_below (earliest_by (names_in s m) m.texture_count) m.texture_count)
    unfolding earliest_textures
    sound_list = rw (← is, e) refl

    lengths : answer m.texture_count ≡ mapped length (earliest_textures s m)
    lengths = rw sound_list (ap answer (sym (each_length (earliest_by (names_in s m) m.texture_count) m.texture_count)))

    pub earliest_short : length lent < m.texture_count → listed (refused 22) lent ≡ into (earliest_textures s m) lent
    earliest_short h = into_short lent (earliest_textures s m) m.texture_count lengths h

    pub earliest_listed : (l : List ℕ) → l ≡ values_below (earliest_by (names_in s m) m.texture_count) m.texture_count → m.texture_count ≤ length lent
        → listed (answer m.texture_count) (l ++ drop m.texture_count lent) ≡ into (earliest_textures s m) lent
    earliest_listed l q h = into_list lent (earliest_textures s m) m.texture_count l (ap answer q ∙ sym sound_list) lengths h
