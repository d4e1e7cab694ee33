-- The list of the Rust's `get_pvs`, less its entries at or above the leaf count, is what the Quake Specifications' rule gives, for all
-- visibility data, every leaf and every count. Assumes nothing.
use Rattle.std.specs.Prelude.{Option, Some, None}
use borrow.Author.Tests.{ne_eqb, ltb-true, ltb-false, lt-ltb, le-ltb}
use mathlib.Core.Path.{◌≡◌, refl, sym, ap, ◌∙◌}
use mathlib.Core.Bool.{Bool, true, false, cond}
use mathlib.Core.List.{List, [], ◌∷◌, ◌++◌, append_assoc, append-nil}
use Prim.Native.Nat.{ℕ, zero, suc, ◌+◌, ◌-◌, ◌*◌, ◌/◌, ◌%◌, ◌^◌, ◌<◌, ◌≤◌, min}
use native.Mathlib.Nat.{zero-mul, pow-suc, div-one, zero-min, min-zero, suc-min-suc}
use native.Mathlib.Omega.{arith}
use lib.Bits.{bit_and, and_high}
use lib.Dec.{eqb, ltb}
use lib.ListN.{length, drop}
use lib.Pow.{pow_pos, shr-shr}
use Rattle.format.specs.Answer.{Answer, answer, refused, mapped, then_answer}
use Rattle.format.specs.declared.section.BspData.{BspData}
use Rattle.records.specs.Leaf.{leaf_of}
use Rattle.records.specs.declared.leaf.BspLeaf.{BspLeaf}
use Rattle.vis.specs.Loop.{for_shift, while_below, match_offset, get_pvs}
use Rattle.vis.specs.Pvs.{visibility_of, section_row, row_of, pvs_of}
use Rattle.vis.specs.Row.{bits, before, row_bits, visible, row_from, row_at, below}
use Rattle.vis.proofs.Rows.{before_none, before_before, after_kept, after_zeros}

-- the bit that the Rust's mask picks
masked : (b k : ℕ) → bit_and b (1 * 2 ^ k) ≡ (b / 2 ^ k % 2) * 2 ^ k
masked b k =
    let p : 2 ^ suc k ≡ 2 ^ k * 2 = pow-suc 2 k in
    let q : 1 + k ≡ suc k = omega arith in
    let e : 1 * 2 ^ k ≡ 2 ^ (1 + k) - 2 ^ k = rw (q, p) (omega arith) in
    rw e (and_high b 1 k)

-- one turn of `for shift in 0..8`
turn : (m k leaf : ℕ) (list : List ℕ) (more : List Bool) → m < 2
    → cond (eqb (m * 2 ^ k) 0) list (list ++ (leaf ∷ [])) ++ visible (leaf + 1) more ≡ list ++ visible leaf (eqb m 1 ∷ more)
unfolding visible
turn zero k leaf list more h = rw zero-mul
turn (suc zero) k leaf list more h =
    let z : 1 * 2 ^ k ≡ 0 → ⊥ = λ e. omega (arith, pow_pos k) in
    rw (ne_eqb (1 * 2 ^ k) 0 z, append_assoc)
turn (suc (suc m)) k leaf list more h = absurd (omega arith)

pub for_shift_lem : (turns shift b leaf : ℕ) (list : List ℕ) → for_shift turns shift b leaf list ≡ list ++ visible leaf (bits turns (b / 2 ^ shift))
unfolding for_shift bits visible
for_shift_lem zero shift b leaf list = sym (append-nil list)
for_shift_lem (suc turns) shift b leaf list =
    for_shift_lem turns (shift + 1) b (leaf + 1) (cond (eqb (bit_and b (1 * 2 ^ shift)) 0) list (list ++ (leaf ∷ [])))
    ∙ rw (masked b shift, ← shr-shr b shift 1) (turn (b / 2 ^ shift % 2) shift leaf list (bits turns (b / 2 ^ shift / 2)) (omega arith))

below_append : (count : ℕ) (xs ys : List ℕ) → below count (xs ++ ys) ≡ below count xs ++ below count ys
unfolding below
below_append count [] ys = refl
below_append count (x ∷ xs) ys = go (ltb x count) (below_append count xs ys)
  where
    go : (t : Bool) → below count (xs ++ ys) ≡ below count xs ++ below count ys → cond t (x ∷ below count (xs ++ ys)) (below count (xs ++ ys)) ≡ cond t (x ∷ below count xs) (below count xs) ++ below count ys
    go true e = ap (λ (l : List ℕ). x ∷ l) e
    go false e = e

-- no entry is left of bits at or past the count
past_count : (count leaf : ℕ) (xs : List Bool) → count ≤ leaf → below count (visible leaf xs) ≡ []
unfolding below visible
past_count count leaf [] h = refl
past_count count leaf (true ∷ xs) h = rw (le-ltb leaf count h) (past_count count (leaf + 1) xs (omega arith))
past_count count leaf (false ∷ xs) h = past_count count (leaf + 1) xs (omega arith)

kept_first : (count leaf : ℕ) (t : Bool) (xs ys : List Bool) → leaf < count → below count (visible (leaf + 1) xs) ≡ visible (leaf + 1) ys
    → below count (visible leaf (t ∷ xs)) ≡ visible leaf (t ∷ ys)
unfolding below visible
kept_first count leaf true xs ys h e = rw (lt-ltb leaf count h) (ap (λ (l : List ℕ). leaf ∷ l) e)
kept_first count leaf false xs ys h e = e

no_bit : (count leaf b : ℕ) → below count (visible leaf (bits 0 b)) ≡ visible leaf (bits 0 b)
unfolding below visible bits
no_bit count leaf b = refl

none_kept : (leaf b : ℕ) → [] ≡ visible leaf (bits 0 b)
unfolding bits visible
none_kept leaf b = refl

some_kept : (n count leaf b d : ℕ) → below count (visible (leaf + 1) (bits n (b / 2))) ≡ visible (leaf + 1) (bits (min n d) (b / 2)) → leaf < count
    → below count (visible leaf (bits (suc n) b)) ≡ visible leaf (bits (suc (min n d)) b)
unfolding bits
some_kept n count leaf b d e h = kept_first count leaf (eqb (b % 2) 1) (bits n (b / 2)) (bits (min n d) (b / 2)) h e

-- of n bits, those for the leaves below the count
pub kept_below : (n count leaf b : ℕ) → below count (visible leaf (bits n b)) ≡ visible leaf (bits (min n (count - leaf)) b)
kept_below zero count leaf b = rw (zero-min (count - leaf)) (no_bit count leaf b)
kept_below (suc n) count leaf b = go (ltb leaf count) refl (kept_below n count (leaf + 1) (b / 2))
  where
    go : (t : Bool) → ltb leaf count ≡ t → below count (visible (leaf + 1) (bits n (b / 2))) ≡ visible (leaf + 1) (bits (min n (count - (leaf + 1))) (b / 2))
        → below count (visible leaf (bits (suc n) b)) ≡ visible leaf (bits (min (suc n) (count - leaf)) b)
    go true e r =
        let h : leaf < count = ltb-true leaf count e in
        let d : count - leaf ≡ suc (count - (leaf + 1)) = omega arith in
        rw (d, suc-min-suc n (count - (leaf + 1))) (some_kept n count leaf b (count - (leaf + 1)) r h)
    go false e r =
        let h : count ≤ leaf = ltb-false leaf count e in
        let d : count - leaf ≡ 0 = omega arith in
        rw (d, min-zero (suc n)) (past_count count leaf (bits (suc n) b) h ∙ none_kept leaf b)

-- the test of `while` and of the row
tested : (t : Bool) (count leaf : ℕ) (list : List ℕ) (x : Answer (List ℕ)) (y : Answer (List Bool))
    → mapped (below count) x ≡ before (below count list) (mapped (visible leaf) y)
    → mapped (below count) (cond t x (answer list)) ≡ before (below count list) (mapped (visible leaf) (cond t y (answer [])))
unfolding visible
tested true count leaf list x y e = e
tested false count leaf list x y e = ap answer (sym (append-nil (below count list)))

pub while_below_lem : (count leaf : ℕ) (list bytes : List ℕ) → mapped (below count) (while_below count leaf list bytes) ≡ before (below count list) (row_from count leaf bytes)
unfolding while_below row_bits
while_below_lem count leaf list [] = tested (ltb leaf count) count leaf list (refused 33) (refused 33) refl
while_below_lem count leaf list (zero ∷ []) = tested (ltb leaf count) count leaf list (refused 33) (refused 33) refl
while_below_lem count leaf list (zero ∷ n ∷ it) =
    tested (ltb leaf count) count leaf list _ _
    (while_below_lem count (leaf + 8 * n) list it ∙ ap (before (below count list)) (sym (after_zeros leaf (8 * n) (row_bits count (leaf + 8 * n) it))))
while_below_lem count leaf list (suc b ∷ it) =
    tested (ltb leaf count) count leaf list _ _
    (while_below_lem count (leaf + 8) (for_shift 8 0 (suc b) leaf list) it
    ∙ rw (for_shift_lem 8 0 (suc b) leaf list, div-one (suc b), below_append, kept_below 8 count leaf (suc b))
    (before_before (below count list) (visible leaf (bits (min 8 (count - leaf)) (suc b))) (row_from count (leaf + 8) it) ∙ ap (before (below count list)) (sym (after_kept count leaf (suc b) it))))

-- the arm `Some(o)`, less its entries at or above the count, gives the row at the offset
pub rust_row : (visibility : List ℕ) (offset count : ℕ) → mapped (below count) (match_offset visibility count (Some offset)) ≡ row_at visibility offset count
unfolding row_at below
rust_row visibility offset count = go (ltb (length visibility) offset)
  where
    go : (t : Bool) → mapped (below count) (cond t (refused 33) (while_below count 1 [] (drop offset visibility))) ≡ cond t (refused 33) (row_from count 1 (drop offset visibility))
    go true = refl
    go false = while_below_lem count 1 [] (drop offset visibility) ∙ before_none (row_from count 1 (drop offset visibility))

-- The list of the Rust's `get_pvs`, less its entries at or above the count, is `pvs_of` where the leaf can be read and the visibility section
-- lies in the file; where the Rust panics, `pvs_of` is refused.
module _ (file : List ℕ) (map : BspData) (leaf count : ℕ) (l : BspLeaf) (visibility : List ℕ) where
  pub rust_pvs : answer l ≡ leaf_of file map leaf → answer visibility ≡ visibility_of file map.visibility
      → mapped (below count) (get_pvs visibility l.vis_offset leaf count) ≡ pvs_of file map leaf count
  unfolding get_pvs pvs_of section_row below
  rust_pvs e v = rw (← e) (go (eqb leaf 0) l.vis_offset)
    where
      row : (o : Option ℕ) → mapped (below count) (match_offset visibility count o) ≡ row_of file map count o
      row None = refl
      row (Some offset) = rw (← v) (rust_row visibility offset count)

      go : (t : Bool) (o : Option ℕ) → mapped (below count) (cond t (answer []) (match_offset visibility count o)) ≡ cond t (answer []) (row_of file map count o)
      go true o = refl
      go false o = row o

-- so each entry of a list is below the count
below_below : (count : ℕ) (list : List ℕ) → below count (below count list) ≡ below count list
unfolding below
below_below count [] = refl
below_below count (x ∷ xs) = go (ltb x count) refl (below_below count xs)
  where
    go : (t : Bool) → ltb x count ≡ t → below count (below count xs) ≡ below count xs
        → below count (cond t (x ∷ below count xs) (below count xs)) ≡ cond t (x ∷ below count xs) (below count xs)
    go true e h = rw e (ap (λ (l : List ℕ). x ∷ l) h)
    go false e h = h

only_below : (count : ℕ) (a : Answer (List ℕ)) → mapped (below count) (mapped (below count) a) ≡ mapped (below count) a
only_below count (answer list) = ap answer (below_below count list)
only_below count (refused n) = refl

row_below : (visibility : List ℕ) (offset count : ℕ) → mapped (below count) (row_at visibility offset count) ≡ row_at visibility offset count
row_below visibility offset count = rw (← rust_row visibility offset count) (only_below count (match_offset visibility count (Some offset)))

-- for every file and map record
pub pvs_below : (file : List ℕ) (map : BspData) (leaf count : ℕ) → mapped (below count) (pvs_of file map leaf count) ≡ pvs_of file map leaf count
unfolding pvs_of section_row below
pvs_below file map leaf count = go (eqb leaf 0) (leaf_of file map leaf)
  where
    within : (offset : ℕ) (v : Answer (List ℕ))
        → mapped (below count) (then_answer v (λ visibility. row_at visibility offset count)) ≡ then_answer v (λ visibility. row_at visibility offset count)
    within offset (answer visibility) = row_below visibility offset count
    within offset (refused n) = refl

    row : (o : Option ℕ) → mapped (below count) (row_of file map count o) ≡ row_of file map count o
    row None = refl
    row (Some offset) = within offset (visibility_of file map.visibility)

    go : (t : Bool) (a : Answer BspLeaf)
        → mapped (below count) (cond t (answer []) (then_answer a (λ l. row_of file map count l.vis_offset))) ≡ cond t (answer []) (then_answer a (λ l. row_of file map count l.vis_offset))
    go true a = refl
    go false (answer l) = row l.vis_offset
    go false (refused n) = refl
