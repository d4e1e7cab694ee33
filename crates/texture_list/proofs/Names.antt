-- The functions that read names.
-- Assumes nothing.
use Rattle.std.specs.Prelude.{ℕ, zero, suc, ◌+◌, ◌-◌, ◌<◌, ◌≤◌, ◌≡◌, Bool, true, false, not, cond, List, [], ◌∷◌, ◌++◌, eqb, ltb, length, get_or, take, drop, replicate}
use Rattle.std.specs.List.{take_while, list_all}
use Rattle.std.proofs.Common.{refl, sym, ap, ◌∙◌, arith}
use Rattle.std.proofs.Math.Seq.{drop-cons}
use Rattle.std.proofs.Math.ListN.{get_or-eq_default}
use Rattle.std.proofs.Math.Numerals.{suc-eq-add-one}
use Rattle.std.proofs.lemmas.List.Sums.{take_while-cons}
use Rattle.std.proofs.lemmas.List.{drop_all}
use borrow.Author.Tests.{ne_eqb, ltb-true, ltb-false}
use Rattle.std.specs.Int.{from_le_bytes, w64}
use Rattle.std.specs.Char.{to_ascii_lowercase}
use Rattle.std.proofs.Common.{append-nil, append_assoc, add-zero, add_assoc, length-set}
use Rattle.std.proofs.lemmas.List.{take_all, take-append-drop, take_more_set, drop-set-lt}
use Rattle.std.proofs.Math.ListN.{set}
use Rattle.texture_list.specs.Name.{lowered, char_at, chars, name_at, is_ascii, little_endian}

abbrev pub ascii_test : List ℕ → Bool
ascii_test xs = list_all (λ b. ltb b 128) (take_while (λ b. not (eqb b 0)) xs)

ascii_cons : (b : ℕ) (xs : List ℕ) → ascii_test (b ∷ xs) ≡ cond (eqb b 0) true (cond (ltb b 128) (ascii_test xs) false)
ascii_cons b xs = rw (take_while-cons (λ b. not (eqb b 0)) b xs) (by (eqb b 0) (ltb b 128) refl)
  where
    by : (t u : Bool) → ltb b 128 ≡ u → list_all (λ b. ltb b 128) (cond (not t) (b ∷ take_while (λ b. not (eqb b 0)) xs) []) ≡ cond t true (cond u (ascii_test xs) false)
    by true u f = refl
    by false true f = rw f
    by false false f = rw f

lowered_is : (b : ℕ) → to_ascii_lowercase b ≡ lowered b
unfolding lowered
lowered_is b = by (ltb b 65) (ltb b 91) (ltb 90 b) refl refl
  where
    by : (t u v : Bool) → ltb b 91 ≡ u → ltb 90 b ≡ v → cond t b (cond u (b + 32) b) ≡ cond t b (cond v b (b + 32))
    by true u v e f = refl
    by false true false e f = refl
    by false false true e f = refl
    by false true true e f = absurd (omega (arith, ltb-true b 91 e, ltb-true 90 b f))
    by false false false e f = absurd (omega (arith, ltb-false b 91 e, ltb-false 90 b f))

lowered_zero : (b : ℕ) → lowered b ≡ 0 → b ≡ 0
unfolding lowered
lowered_zero b = by (ltb b 65) (ltb 90 b)
  where
    by : (t u : Bool) → cond t b (cond u b (b + 32)) ≡ 0 → b ≡ 0
    by true u e = e
    by false true e = e
    by false false e = absurd (omega (arith, e))

-- eight bytes as a number, of which those past a list are zeros
pub number_is : (xs : List ℕ) → length xs ≤ 8
    → from_le_bytes w64 (get_or xs 0 0 ∷ get_or xs 1 0 ∷ get_or xs 2 0 ∷ get_or xs 3 0 ∷ get_or xs 4 0 ∷ get_or xs 5 0 ∷ get_or xs 6 0 ∷ get_or xs 7 0 ∷ []) ≡ little_endian xs
unfolding little_endian
number_is [] h = refl
number_is (a ∷ []) h = omega arith
number_is (a ∷ b ∷ []) h = omega arith
number_is (a ∷ b ∷ c ∷ []) h = omega arith
number_is (a ∷ b ∷ c ∷ d ∷ []) h = omega arith
number_is (a ∷ b ∷ c ∷ d ∷ e ∷ []) h = omega arith
number_is (a ∷ b ∷ c ∷ d ∷ e ∷ f ∷ []) h = omega arith
number_is (a ∷ b ∷ c ∷ d ∷ e ∷ f ∷ g ∷ []) h = omega arith
number_is (a ∷ b ∷ c ∷ d ∷ e ∷ f ∷ g ∷ i ∷ []) h = omega arith
number_is (a ∷ b ∷ c ∷ d ∷ e ∷ f ∷ g ∷ i ∷ j ∷ xs) h = absurd (omega arith)

module _ (s : List ℕ) where
  pub ascii_is : (n p : ℕ) → ascii_test (take n (drop p s)) ≡ is_ascii s p n
  unfolding is_ascii
  ascii_is zero p = refl
  ascii_is (suc n) p = by (ltb p (length s)) refl (ascii_is n (p + 1))
    where
      by : (t : Bool) → ltb p (length s) ≡ t → ascii_test (take n (drop (p + 1) s)) ≡ is_ascii s (p + 1) n
          → ascii_test (take (suc n) (drop p s)) ≡ cond (eqb (get_or s p 0) 0) true (cond (ltb (get_or s p 0) 128) (is_ascii s (p + 1) n) false)
      by true e i = let h = ltb-true p (length s) e in rw (drop-cons s p 0 h, ascii_cons (get_or s p 0) (take n (drop (suc p) s)), suc-eq-add-one p, i) refl
      by false e i = let h = ltb-false p (length s) e in rw (drop_all p s h, get_or-eq_default s 0 h) refl

  -- the bytes of a name after one that is not zero
  goes_on : (n p last : ℕ) → (last ≡ 0 → ⊥) → chars s p last n ≡ chars s p 1 n
  unfolding chars char_at
  goes_on zero p last h = refl
  goes_on (suc n) p last h = simp (ne_eqb last 0 h)

  -- after a zero all are zeros
  after_zero : (n p : ℕ) → chars s p 0 n ≡ replicate n 0
  unfolding chars char_at
  after_zero zero p = refl
  after_zero (suc n) p = ap (λ xs. 0 ∷ xs) (after_zero n (p + 1))

  -- ---- the loop of `read_name`: what was read so far, and zeros after it

  module _ (at : ℕ) where
    pub record Read (i : ℕ) (name : List ℕ) : Type 0 where
      pub long : length name ≡ 16
      pub whole : take i name ++ chars s (at + i) 1 (16 - i) ≡ name_at s at
      pub rest : drop i name ≡ replicate (16 - i) 0

    pub read_none : Read 0 (replicate 16 0)
    read_none = record { long = refl; whole = rw add-zero refl; rest = refl }

    module _ (i : ℕ) (name : List ℕ) (r : Read i name) where
      pub read_all : 16 ≤ i → name ≡ name_at s at
      unfolding chars
      read_all h =
          let z : 16 - i ≡ 0 = omega arith in
          let w = rw (z, take_all i name (omega (arith, r.long))) at r.whole in
          sym (append-nil name) ∙ w

      module _ (b : ℕ) (is : b ≡ get_or s (at + i) 0) (h : i < 16) where
        left : 16 - i ≡ suc (16 - (i + 1))
        left = omega arith

        pub read_end : b ≡ 0 → name ≡ name_at s at
        unfolding chars char_at lowered
        read_end e =
            let k : get_or s (at + i) 0 ≡ 0 = sym is ∙ e in
            let w = rw (left, k, after_zero (16 - (i + 1)) (at + i + 1)) at r.whole in
            let z = rw left at r.rest in
            rw (sym (take-append-drop i name), z) w

        pub read_more : (v : ℕ) → (b ≡ 0 → ⊥) → v ≡ to_ascii_lowercase b → Read (i + 1) (set name i v)
        unfolding chars char_at
        read_more v ne e =
            let k : lowered (get_or s (at + i) 0) ≡ v = sym (e ∙ lowered_is b ∙ ap lowered is) in
            let nz : v ≡ 0 → ⊥ = λ z. ne (lowered_zero b (sym (lowered_is b) ∙ sym e ∙ z)) in
            let w = rw (left, k, goes_on (16 - (i + 1)) (at + i + 1) v nz, add_assoc at i 1) at r.whole in
            record {
              long = length-set name i v ∙ r.long;
              whole = rw (take_more_set name i v (omega (arith, r.long)), append_assoc) w;
              rest = let z = rw (drop-cons name i 0 (omega (arith, r.long)), left, suc-eq-add-one i) at r.rest in drop-set-lt (i + 1) name i v (omega arith) ∙ cc;
            }
