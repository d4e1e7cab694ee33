-- Parts written one after another are one part.
-- Assumes nothing.
use Prim.Native.Nat.{ℕ, zero, suc, ◌+◌, ◌*◌, ◌<◌, ◌≤◌}
use mathlib.Core.Path.{◌≡◌, refl, sym, ap, ◌∙◌}
use mathlib.Core.List.{List, [], ◌∷◌, ◌++◌, append_assoc}
use native.Mathlib.Nat.{add-zero, add_assoc}
use native.Mathlib.Numerals.{add-one}
use native.Mathlib.Omega.{arith}
use lib.ListN.{length, take, drop, get_or, length-append, length-take, length-drop, take-append-drop}
use lib.Seq.{take_at, drop-append-add, drop-drop, length-take-le, sets, sets-eq}
use Rattle.written.specs.Bytes.{u32}
use Rattle.made.specs.Writing.{put_at, words_of}

pub length_written : (at : ℕ) (xs l : List ℕ) → at + length xs ≤ length l → length (put_at at xs l) ≡ length l
length_written at xs l h = simp (length-append, length-drop, length-take) (omega arith)

pub written_none : (at : ℕ) (l : List ℕ) → put_at at [] l ≡ l
written_none at l = rw (add-zero at) (take-append-drop at l)

module _ (at : ℕ) (xs ys l : List ℕ) (h : at + length xs + length ys ≤ length l) where
  front_length : length (take at l ++ xs) ≡ at + length xs
  front_length = length-append (take at l) xs ∙ ap (λ (k : ℕ). k + length xs) (length-take-le at l (omega arith))

  regrouped : put_at at xs l ≡ (take at l ++ xs) ++ drop (at + length xs) l
  regrouped = sym (append_assoc (take at l) xs (drop (at + length xs) l))

  front : take (at + length xs) (put_at at xs l) ≡ take at l ++ xs
  front = ap (take (at + length xs)) regrouped ∙ take_at (take at l ++ xs) (drop (at + length xs) l) (at + length xs) front_length

  behind : drop (at + length xs + length ys) (put_at at xs l) ≡ drop (at + length xs + length ys) l
  behind =
      ap (drop (at + length xs + length ys)) regrouped
      ∙ ap (λ (k : ℕ). drop (k + length ys) ((take at l ++ xs) ++ drop (at + length xs) l)) (sym front_length)
      ∙ drop-append-add (take at l ++ xs) (drop (at + length xs) l) (length ys)
      ∙ drop-drop (length ys) (at + length xs) l

  pub written_more : put_at (at + length xs) ys (put_at at xs l) ≡ put_at at (xs ++ ys) l
  written_more =
      rw (front, behind)
      (append_assoc (take at l) xs (ys ++ drop (at + length xs + length ys) l)
      ∙ ap (λ (r : List ℕ). take at l ++ r) (sym (append_assoc xs ys (drop (at + length xs + length ys) l)))
      ∙ ap (λ (k : ℕ). take at l ++ ((xs ++ ys) ++ drop k l)) (add_assoc at (length xs) (length ys) ∙ ap (λ (k : ℕ). at + k) (sym (length-append xs ys))))

-- a run of stores
pub stored : (at : ℕ) (xs l : List ℕ) → at + length xs ≤ length l → sets l at xs ≡ put_at at xs l
stored at xs l h = sets-eq xs l at h ∙ append_assoc (take at l) xs (drop (at + length xs) l)

-- words
pub words_length : (ws : List ℕ) → length (words_of ws) ≡ length ws * 4
words_length [] = refl
words_length (w ∷ ws) = let a = words_length ws in omega arith

-- one word more of a list
pub words_take : (ws : List ℕ) (i : ℕ) → i < length ws → words_of (take (suc i) ws) ≡ words_of (take i ws) ++ u32 (get_or ws i 0)
words_take [] i h = absurd (omega arith)
words_take (w ∷ ws) zero h = refl
words_take (w ∷ ws) (suc i) h = ap (λ (r : List ℕ). u32 w ++ r) (words_take ws i (omega arith)) ∙ sym (append_assoc (u32 w) (words_of (take i ws)) (u32 (get_or ws i 0)))

-- what is written where the part before it ends goes on it
pub goes_on : (at p : ℕ) (xs ys l₀ l l' : List ℕ) → at + length xs ≡ p → p + length ys ≤ length l₀ → l ≡ put_at at xs l₀ → l' ≡ put_at p ys l
    → l' ≡ put_at at (xs ++ ys) l₀
goes_on at p xs ys l₀ l l' e h q r =
    r ∙ ap (put_at p ys) q
    ∙ ap (λ (j : ℕ). put_at j ys (put_at at xs l₀)) (sym e)
    ∙ written_more at xs ys l₀ (omega arith)

-- the first i words are written, and the rest of the lent list is kept
pub record Put (ws l₀ l : List ℕ) (at i : ℕ) : Type 0 where
  pub few : i ≤ length ws
  pub long : length l ≡ length l₀
  pub are : l ≡ put_at at (words_of (take i ws)) l₀

module _ (ws l₀ : List ℕ) (at : ℕ) (h : at + length ws * 4 ≤ length l₀) where
  pub put_next : (l l' : List ℕ) (i : ℕ) → i < length ws → Put ws l₀ l at i → l' ≡ put_at (at + i * 4) (u32 (get_or ws i 0)) l → Put ws l₀ l' at (i + 1)
  put_next l l' i k p q =
      let n = words_length (take i ws) ∙ ap (λ (j : ℕ). j * 4) (length-take-le i ws (omega arith)) in
      record {
        few = omega arith;
        long = ap length q ∙ length_written (at + i * 4) (u32 (get_or ws i 0)) l (omega (arith, p.long)) ∙ p.long;
        are =
            goes_on at (at + i * 4) (words_of (take i ws)) (u32 (get_or ws i 0)) l₀ l l' (ap (λ (j : ℕ). at + j) n) (omega arith) p.are q
            ∙ ap (λ (r : List ℕ). put_at at r l₀) (sym (words_take ws i k) ∙ ap (λ (j : ℕ). words_of (take j ws)) (sym (add-one i)));
      }
