-- The bytes through the first zero byte, and where the text lies.
-- Assumes nothing.
use Rattle.std.proofs.Common.{◌≡◌, ℕ, suc, ◌+◌, ◌-◌, ◌<◌, ◌≤◌, min, Bool, true, false, cond, not, eqb, leb, ltb, Some, None, List, [], ◌∷◌, length, take, drop, ◌==◌, refl, arith, length-drop, leb-false}
use native.Mathlib.Nat.{add-sub_cancel_left}
use Rattle.std.specs.List.{position_or_len}
use borrow.Author.Tests.{ltb-true, ltb-false}
use Rattle.format.specs.Answer.{answer, refused}
use Rattle.format.specs.declared.section.BspData.{BspData}
use Rattle.models.specs.declared.text.Part.{Part}
use Rattle.models.specs.Text.{through, text_end, entities_of, entity_text}

-- where the first zero is, or the length
abbrev zero_at : List ℕ → ℕ
zero_at xs = position_or_len (λ b. b == 0) xs

through_min : (xs : List ℕ) → through xs ≡ min (zero_at xs + 1) (length xs)
through_min [] = refl
through_min (b ∷ bs) = by (eqb b 0) (through_min bs)
  where
    by : (t : Bool) → through bs ≡ min (zero_at bs + 1) (length bs)
        → cond t 1 (suc (through bs)) ≡ min (cond (not t) (1 + zero_at bs) 0 + 1) (suc (length bs))
    by true h = omega arith
    by false h = omega arith

-- what `position` gave for the first zero
pub through_some : (xs : List ℕ) (k : ℕ) → cond (ltb (zero_at xs) (length xs)) (Some (zero_at xs)) None ≡ Some k → through xs ≡ k + 1
through_some xs k e = by (ltb (zero_at xs) (length xs)) refl e
  where
    by : (t : Bool) → ltb (zero_at xs) (length xs) ≡ t → cond t (Some (zero_at xs)) None ≡ Some k → through xs ≡ k + 1
    by true h e = let q : zero_at xs ≡ k = cc in omega (arith, through_min xs, ltb-true (zero_at xs) (length xs) h)
    by false h e = cc

pub through_none : (xs : List ℕ) → cond (ltb (zero_at xs) (length xs)) (Some (zero_at xs)) None ≡ None → through xs ≡ length xs
through_none xs e = by (ltb (zero_at xs) (length xs)) refl e
  where
    by : (t : Bool) → ltb (zero_at xs) (length xs) ≡ t → cond t (Some (zero_at xs)) None ≡ None → through xs ≡ length xs
    by true h e = cc
    by false h e = omega (arith, through_min xs, ltb-false (zero_at xs) (length xs) h)

pub through_le : (xs : List ℕ) → through xs ≤ length xs
through_le xs = omega (arith, through_min xs)

module _ (s : List ℕ) (at : ℕ) where
  pub starts : at ≤ text_end s at
  unfolding text_end
  starts = omega arith

  pub stays : at < length s → text_end s at ≤ length s
  unfolding text_end
  stays h = omega (arith, through_le (drop at s), length-drop at s)

-- a text that is found has at most the bytes from its offset on: one that is not empty lies in the file
pub within : (s : List ℕ) (m : BspData) (p : Part) → answer p ≡ entities_of s m → p.size ≤ length s - p.offset
unfolding entities_of
within s m p e = by (leb (length s) m.entities.offset) (eqb m.entities.size 0) refl e
  where
    by : (a b : Bool) → leb (length s) m.entities.offset ≡ a
        → answer p ≡ cond a (cond b (answer (record { offset = m.entities.offset; size = 0 })) (refused 23))
        (answer (record { offset = m.entities.offset; size = text_end s m.entities.offset - m.entities.offset }))
        → p.size ≤ length s - p.offset
    by true true h e = let z : p.size ≡ 0 = cc in omega arith
    by true false h e = cc
    by false b h e =
        let a : p.offset ≡ m.entities.offset = cc in
        let n : p.size ≡ text_end s m.entities.offset - m.entities.offset = cc in
        omega (arith, starts s m.entities.offset, stays s m.entities.offset (leb-false (length s) m.entities.offset h))

-- what `get` gives there
module _ (s : List ℕ) (m : BspData) (p : Part) (e : answer p ≡ entities_of s m) where
  pub text_found : (t : List ℕ) → t ≡ take (p.offset + p.size - p.offset) (drop p.offset s) → t ≡ entity_text s m
  text_found t q = rw (← e, q, add-sub_cancel_left p.offset p.size)

  pub text_none : length s < p.offset + p.size → [] ≡ entity_text s m
  text_none h = let z : p.size ≡ 0 = omega (arith, within s m p e) in rw (← e, z)
