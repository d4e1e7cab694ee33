-- Two runs of bytes of one length are the same exactly if the numbers that they make are equal.
-- Assumes nothing.
use Rattle.std.specs.Prelude.{ℕ, suc, ◌+◌, ◌*◌, ◌<◌, ◌≡◌, Bool, true, false, ◌&&◌, List, [], ◌∷◌, ◌++◌, eqb, length, take, drop}
use Rattle.std.specs.List.{All}
use Rattle.std.proofs.Common.{refl, sym, arith}
use Rattle.std.proofs.lemmas.List.{take-append-drop, length-take, length-drop}
use Rattle.std.proofs.lemmas.List.Elements.{All-take, All-drop}
use borrow.Author.Tests.{eqb-true, eqb-false, eq-eqb, ne_eqb}
use Rattle.texture_list.specs.Name.{same, little_endian}

abbrev pub Bytes : List ℕ → Type 0
Bytes xs = All (λ b. b < 256) xs

head : (x : ℕ) (xs : List ℕ) → Bytes (x ∷ xs) → x < 256
head x xs h = h 0 0 (omega arith)

tail : (x : ℕ) (xs : List ℕ) → Bytes (x ∷ xs) → Bytes xs
tail x xs h k d l = h (suc k) d (omega arith)

digit : (x y v w : ℕ) → x < 256 → y < 256 → (eqb x y && eqb v w) ≡ eqb (x + 256 * v) (y + 256 * w)
digit x y v w h k = by (eqb x y) (eqb v w) refl refl
  where
    by : (s t : Bool) → eqb x y ≡ s → eqb v w ≡ t → (s && t) ≡ eqb (x + 256 * v) (y + 256 * w)
    by true true e f = sym (eq-eqb (x + 256 * v) (y + 256 * w) (omega (arith, eqb-true x y e, eqb-true v w f)))
    by true false e f = sym (ne_eqb (x + 256 * v) (y + 256 * w) (λ q. eqb-false v w f (omega (arith, q, h, k))))
    by false true e f = sym (ne_eqb (x + 256 * v) (y + 256 * w) (λ q. eqb-false x y e (omega (arith, q, h, k))))
    by false false e f = sym (ne_eqb (x + 256 * v) (y + 256 * w) (λ q. eqb-false x y e (omega (arith, q, h, k))))

same_value : (xs ys : List ℕ) → length xs ≡ length ys → Bytes xs → Bytes ys → same xs ys ≡ eqb (little_endian xs) (little_endian ys)
unfolding same little_endian
same_value [] [] e a b = refl
same_value [] (y ∷ ys) e a b = absurd (omega (arith, e))
same_value (x ∷ xs) [] e a b = absurd (omega (arith, e))
same_value (x ∷ xs) (y ∷ ys) e a b = rw (same_value xs ys (omega (arith, e)) (tail x xs a) (tail y ys b)) (digit x y (little_endian xs) (little_endian ys) (head x xs a) (head y ys b))

and_assoc : (a b c : Bool) → ((a && b) && c) ≡ (a && (b && c))
and_assoc true b c = refl
and_assoc false b c = refl

same_append : (xs ys us vs : List ℕ) → length xs ≡ length ys → same (xs ++ us) (ys ++ vs) ≡ (same xs ys && same us vs)
unfolding same
same_append [] [] us vs e = refl
same_append [] (y ∷ ys) us vs e = absurd (omega (arith, e))
same_append (x ∷ xs) [] us vs e = absurd (omega (arith, e))
same_append (x ∷ xs) (y ∷ ys) us vs e = rw (same_append xs ys us vs (omega (arith, e))) (sym (and_assoc (eqb x y) (same xs ys) (same us vs)))

-- the same of two numbers, of the first k bytes and of the others
pub same_numbers : (k : ℕ) (xs ys : List ℕ) → length xs ≡ length ys → Bytes xs → Bytes ys
    → same xs ys ≡ (eqb (little_endian (take k xs)) (little_endian (take k ys)) && eqb (little_endian (drop k xs)) (little_endian (drop k ys)))
same_numbers k xs ys e a b =
    let front : length (take k xs) ≡ length (take k ys) = simp (length-take, e) in
    let back : length (drop k xs) ≡ length (drop k ys) = simp (length-drop, e) in
    let parts : same (take k xs ++ drop k xs) (take k ys ++ drop k ys) ≡ (same (take k xs) (take k ys) && same (drop k xs) (drop k ys)) = same_append _ _ _ _ front in
    let whole = simp take-append-drop at parts in
    rw (
      whole,
      same_value (take k xs) (take k ys) front (All-take (λ b. b < 256) k xs a) (All-take (λ b. b < 256) k ys b),
      same_value (drop k xs) (drop k ys) back (All-drop (λ b. b < 256) k xs a) (All-drop (λ b. b < 256) k ys b),
    ) refl
