-- What the library's `any` answers of the numbers below n, and of a list's items, in the words of Count.antt.
-- Assumes nothing.
use Rattle.std.specs.Prelude.{ℕ, zero, suc, ◌+◌, ◌≡◌, Bool, true, false, ◌||◌, cond, List, [], ◌∷◌, eqb, length, get_or, drop}
use Rattle.std.proofs.Common.{refl, sym, ◌∙◌, ap, arith}
use Rattle.std.specs.List.{list_any, filter, range_with_len}
use native.Mathlib.Nat.{add-zero}
use borrow.Author.Tests.{lt-ltb}
use Rattle.textures.specs.Count.{any, count}
use Rattle.textures.specs.Table.{is_unmarked}
use Rattle.textures.proofs.Firsts.{count_same}
use Rattle.textures.proofs.Marks.{any_same}

or_false : (x : Bool) → (x || false) ≡ x
or_false true = refl
or_false false = refl

or_or : (x y z : Bool) → ((x || y) || z) ≡ (x || (y || z))
or_or true y z = refl
or_or false y z = refl

-- the first number apart
any_front : (p : ℕ → Bool) (n : ℕ) → any p (suc n) ≡ (p 0 || any (λ i. p (suc i)) n)
unfolding any
any_front p zero = sym (or_false (p 0))
any_front p (suc n) = ap (λ (x : Bool). x || p (suc n)) (any_front p n) ∙ or_or (p 0) (any (λ i. p (suc i)) n) (p (suc n))

any_from : (p : ℕ → Bool) (a n : ℕ) → list_any p (range_with_len a n) ≡ any (λ i. p (a + i)) n
any_from p a zero = unfold any in refl
any_from p a (suc n) =
    rw (any_front (λ i. p (a + i)) n, any_from p (a + 1) n, add-zero)
    (ap (λ (x : Bool). p a || x) (any_same _ _ n (λ i. let e : a + 1 + i ≡ a + suc i = omega arith in ap p e)))

-- of the numbers below n
pub any_of_range : (p : ℕ → Bool) (n : ℕ) → list_any p (range_with_len 0 n) ≡ any p n
any_of_range p n = any_from p 0 n ∙ any_same _ _ n (λ i. let e : 0 + i ≡ i = omega arith in ap p e)

any_of_list : (test : ℕ → Bool) (xs : List ℕ) → any (λ i. test (get_or xs i 0)) (length xs) ≡ list_any test xs
any_of_list test [] = unfold any in refl
any_of_list test (x ∷ xs) = any_front (λ i. test (get_or (x ∷ xs) i 0)) (length xs) ∙ ap (λ (y : Bool). test x || y) (any_of_list test xs)

-- of the nodes from the first one on
pub any_of_marks : (marks : List ℕ) → list_any (λ m. eqb m 0) (drop 1 marks) ≡ any (is_unmarked marks) (length marks)
any_of_marks [] = unfold any in refl
any_of_marks (x ∷ xs) =
    sym
    (any_front (is_unmarked (x ∷ xs)) (length xs)
    ∙ any_same (λ i. is_unmarked (x ∷ xs) (suc i)) (λ i. eqb (get_or xs i 0) 0) (length xs) (λ i. rw (lt-ltb 0 (suc i) (omega arith)) refl)
    ∙ any_of_list (λ m. eqb m 0) xs)

-- the first number apart
count_front : (p : ℕ → Bool) (n : ℕ) → count p (suc n) ≡ cond (p 0) 1 0 + count (λ i. p (suc i)) n
unfolding count
count_front p zero = omega arith
count_front p (suc n) = let e = count_front p n in rw e (omega arith)

one_more : (x : Bool) (xs : List ℕ) (y : ℕ) → length (cond x (y ∷ xs) xs) ≡ cond x 1 0 + length xs
one_more true xs y = omega arith
one_more false xs y = omega arith

count_from : (p : ℕ → Bool) (a n : ℕ) → length (filter p (range_with_len a n)) ≡ count (λ i. p (a + i)) n
count_from p a zero = unfold count in refl
count_from p a (suc n) =
    rw (count_front (λ i. p (a + i)) n, one_more (p a) (filter p (range_with_len (a + 1) n)) a, count_from p (a + 1) n, add-zero)
    (ap (λ (m : ℕ). cond (p a) 1 0 + m) (count_same _ _ n (λ i. let e : a + 1 + i ≡ a + suc i = omega arith in ap p e)))

-- how many of the numbers below n
pub count_of_range : (p : ℕ → Bool) (n : ℕ) → length (filter p (range_with_len 0 n)) ≡ count p n
count_of_range p n = count_from p 0 n ∙ count_same _ _ n (λ i. let e : 0 + i ≡ i = omega arith in ap p e)

-- how many of a list's items
pub count_of_list : (test : ℕ → Bool) (xs : List ℕ) → length (filter test xs) ≡ count (λ i. test (get_or xs i 0)) (length xs)
count_of_list test [] = unfold count in refl
count_of_list test (x ∷ xs) = one_more (test x) (filter test xs) x ∙ (ap (λ (m : ℕ). cond (test x) 1 0 + m) (count_of_list test xs) ∙ sym (count_front (λ i. test (get_or (x ∷ xs) i 0)) (length xs)))
