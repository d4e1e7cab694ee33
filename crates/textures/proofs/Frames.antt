-- The place of a texture in its group: those with a lower frame letter, and those with its letter and a lower number in the file.
-- Assumes nothing.
use Prim.Native.Nat.{ℕ, zero, suc, ◌+◌, ◌<◌, ◌≤◌}
use mathlib.Core.Path.{◌≡◌, refl, sym, ap, ◌∙◌}
use mathlib.Core.Bool.{Bool, true, false, ◌&&◌, ◌||◌, cond}
use native.Mathlib.Omega.{arith}
use borrow.Author.Tests.{eqb-true, eqb-false, eq-eqb, ne_eqb, ltb-true, ltb-false, lt-ltb, le-ltb}
use lib.Dec.{eqb, ltb}
use Rattle.textures.specs.Count.{count, lowest}
use Rattle.textures.specs.Table.{ranked}
use Rattle.textures.proofs.Marks.{any_none, and_left, and_right}
use Rattle.textures.proofs.Firsts.{count_next, count_grows, lowest_at, lowest_none}

one_below : (x y : Bool) → (x ≡ true → y ≡ true) → cond x 1 0 ≤ cond y 1 0
one_below true y h = rw (h refl) (omega arith)
one_below false true h = omega arith
one_below false false h = omega arith

-- fewer pass a narrower test
count_narrower : (p q : ℕ → Bool) (n : ℕ) → ((i : ℕ) → p i ≡ true → q i ≡ true) → count p n ≤ count q n
unfolding count
count_narrower p q zero h = omega arith
count_narrower p q (suc n) h = omega (arith, count_narrower p q n h, one_below (p n) (q n) (h n))

-- those that pass one of two tests that exclude each other
pub count_either : (p q r : ℕ → Bool) (n : ℕ) → ((i : ℕ) → ◌≡◌ {A = ℕ} (cond (r i) 1 0) (cond (p i) 1 0 + cond (q i) 1 0)) → count r n ≡ count p n + count q n
unfolding count
count_either p q r zero h = refl
count_either p q r (suc n) h = omega (arith, count_either p q r n h, h n)

pub count_alike : (p q : ℕ → Bool) (n : ℕ) → ((i : ℕ) → i < n → p i ≡ q i) → count p n ≡ count q n
unfolding count
count_alike p q zero h = refl
count_alike p q (suc n) h = rw (count_alike p q n (λ i k. h i (omega (arith, k))), h n (omega arith)) refl

-- those below j
pub count_cut : (x : ℕ → Bool) (j n : ℕ) → j ≤ n → count (λ l. x l && ltb l j) n ≡ count x j
unfolding count
count_cut x j zero h = let e : j ≡ 0 = omega (arith, h) in rw e refl
count_cut x j (suc n) h = by (ltb n j) refl (count_cut x j n)
  where
    inside : (l : ℕ) → l < j → (x l && ltb l j) ≡ x l
    inside l k = rw (lt-ltb l j k) (and_true (x l))
      where
        and_true : (b : Bool) → (b && true) ≡ b
        and_true true = refl
        and_true false = refl

    and_false : (b : Bool) → (b && false) ≡ false
    and_false true = refl
    and_false false = refl

    by : (t : Bool) → ltb n j ≡ t → (j ≤ n → count (λ l. x l && ltb l j) n ≡ count x j) → count (λ l. x l && ltb l j) n + cond (x n && ltb n j) 1 0 ≡ count x j
    by true e deeper =
        let q : j ≡ suc n = omega (arith, ltb-true n j e, h) in
        let a : count (λ l. x l && ltb l j) (suc n) ≡ count x (suc n) = count_alike (λ l. x l && ltb l j) x (suc n) (λ l k. inside l (omega (arith, k, q))) in
        a ∙ ap (count x) (sym q)
    by false e deeper =
        let z : count (λ l. x l && ltb l j) n ≡ count x j = deeper (ltb-false n j e) in
        rw (e, and_false (x n)) (omega (arith, z))

counted_in : (q : ℕ → Bool) (j n : ℕ) → j < n → q j ≡ true → count q j < count q n
counted_in q j n h e = omega (arith, count_grows q (j + 1) n (omega (arith, h)), count_next q j ∙ ap (λ (b : Bool). count q j + cond b 1 0) e)

one_split : (x : Bool) (v c : ℕ) → ◌≡◌ {A = ℕ} (cond (x && ltb v (c + 1)) 1 0) (cond (x && ltb v c) 1 0 + cond (x && eqb v c) 1 0)
one_split false v c = refl
one_split true v c = by (ltb v c) (eqb v c) refl refl
  where
    by : (t u : Bool) → ltb v c ≡ t → eqb v c ≡ u → ◌≡◌ {A = ℕ} (cond (ltb v (c + 1)) 1 0) (cond t 1 0 + cond u 1 0)
    by true true e g = absurd (omega (arith, ltb-true v c e, eqb-true v c g))
    by true false e g = rw (lt-ltb v (c + 1) (omega (arith, ltb-true v c e))) refl
    by false true e g = rw (lt-ltb v (c + 1) (omega (arith, eqb-true v c g))) refl
    by false false e g = let z = eqb-false v c g in rw (le-ltb v (c + 1) (omega (arith, ltb-false v c e, z))) refl

one_before : (x : Bool) (v c : ℕ) (y : Bool) → ◌≡◌ {A = ℕ} (cond (x && (ltb v c || (eqb v c && y))) 1 0) (cond (x && ltb v c) 1 0 + cond ((x && eqb v c) && y) 1 0)
one_before false v c y = refl
one_before true v c y = by (ltb v c) (eqb v c) y refl refl
  where
    by : (t u y : Bool) → ltb v c ≡ t → eqb v c ≡ u → ◌≡◌ {A = ℕ} (cond (t || (u && y)) 1 0) (cond t 1 0 + cond (u && y) 1 0)
    by true true y e g = absurd (omega (arith, ltb-true v c e, eqb-true v c g))
    by true false y e g = refl
    by false true true e g = refl
    by false true false e g = refl
    by false false y e g = refl

-- a group, by a test and the frame letter of each number
module _ (p : ℕ → Bool) (f : ℕ → ℕ) where
  abbrev lower : ℕ → ℕ → Bool
  lower c l = p l && ltb (f l) c

  abbrev level : ℕ → ℕ → Bool
  level c l = p l && eqb (f l) c

  -- the place is a count of those that come before
  pub ranked_is : (n j : ℕ) → j ≤ n → count (λ l. p l && (ltb (f l) (f j) || (eqb (f l) (f j) && ltb l j))) n ≡ ranked p f n j
  unfolding ranked
  ranked_is n j h =
      count_either (lower (f j)) (λ l. level (f j) l && ltb l j) _ n (λ l. one_before (p l) (f l) (f j) (ltb l j))
      ∙ ap (λ (x : ℕ). count (lower (f j)) n + x) (count_cut (level (f j)) j n h)

  pub next_letter : (c n : ℕ) → count (lower (c + 1)) n ≡ count (lower c) n + count (level c) n
  next_letter c n = count_either (lower c) (level c) (lower (c + 1)) n (λ l. one_split (p l) (f l) c)

  no_fewer : (c d n : ℕ) → c ≤ d → count (lower c) n ≤ count (lower d) n
  no_fewer c d n h = count_narrower (lower c) (lower d) n (λ l e. rw (and_left (p l) _ e) (lt-ltb (f l) d (omega (arith, h, ltb-true (f l) c (and_right (p l) _ e)))))

  is_level : (j c : ℕ) → p j ≡ true → f j ≡ c → level c j ≡ true
  is_level j c e g = rw e (eq-eqb (f j) c g)

  -- a place is below the count of those up to its letter
  place_below : (n j c : ℕ) → p j ≡ true → f j < c → j < n → ranked p f n j < count (lower c) n
  unfolding ranked
  place_below n j c e h k =
      omega (arith, no_fewer (f j + 1) c n (omega (arith, h)), next_letter (f j) n, counted_in (level (f j)) j n k (is_level j (f j) e refl))

  -- no letter below is that of the place sought
  pub no_place : (n c place : ℕ) → ((l : ℕ) → p l ≡ true → f l < c) → count (lower c) n ≤ place → n ≡ lowest (λ j. p j && eqb (ranked p f n j) place) n
  no_place n c place all few = sym (lowest_none _ n (any_none _ n one))
    where
      one : (j : ℕ) → j < n → (p j && eqb (ranked p f n j) place) ≡ false
      one j h = by (p j) refl
        where
          by : (x : Bool) → p j ≡ x → (x && eqb (ranked p f n j) place) ≡ false
          by true e = ne_eqb (ranked p f n j) place (λ q. absurd (omega (arith, q, few, place_below n j c e (all j e) h)))
          by false e = refl

  module _ (n c left place at : ℕ) (e : p at ≡ true) (letter : f at ≡ c) (inside : at < n) (counted : count (level c) at ≡ left) (sum : count (lower c) n + left ≡ place) where
    unfolding_place : ranked p f n at ≡ place
    unfolding ranked
    unfolding_place = rw letter (omega (arith, counted, sum))

    other : (j : ℕ) → j < at → p j ≡ true → ranked p f n j ≡ place → ⊥
    unfolding ranked
    other j h g q = by (ltb (f j) c) (eqb (f j) c) refl refl
      where
        by : (t u : Bool) → ltb (f j) c ≡ t → eqb (f j) c ≡ u → ⊥
        by true u a b = let r : ranked p f n j < count (lower c) n = place_below n j c g (ltb-true (f j) c a) (omega (arith, h, inside)) in absurd (omega (arith, q, r, sum))
        by false true a b =
            let s : f j ≡ c = eqb-true (f j) c b in
            let r : count (lower c) n + count (level c) j ≡ place = ap (λ (x : ℕ). count (lower x) n + count (level x) j) (sym s) ∙ q in
            absurd (omega (arith, r, sum, counted, counted_in (level c) j at h (is_level j c g s)))
        by false false a b =
            let z = eqb-false (f j) c b in
            absurd (omega (arith, q, sum, counted, no_fewer (c + 1) (f j) n (omega (arith, ltb-false (f j) c a, z)), next_letter c n, counted_in (level c) at n inside (is_level at c e letter)))

    -- the texture found is the one at the place
    pub is_place : at ≡ lowest (λ j. p j && eqb (ranked p f n j) place) n
    is_place = sym (lowest_at _ n at inside (rw e (eq-eqb _ _ unfolding_place)) (any_none _ at one))
      where
        one : (j : ℕ) → j < at → (p j && eqb (ranked p f n j) place) ≡ false
        one j h = by (p j) refl
          where
            by : (x : Bool) → p j ≡ x → (x && eqb (ranked p f n j) place) ≡ false
            by true g = ne_eqb (ranked p f n j) place (λ q. absurd (other j h g q))
            by false g = refl
