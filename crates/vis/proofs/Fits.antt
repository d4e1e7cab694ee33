-- A visibility list has fewer entries than the leaf count, unless both are none. Assumes nothing.
use Rattle.std.specs.Prelude.{Option, Some, None}
use mathlib.Core.Bool.{Bool, true, false, cond}
use mathlib.Core.List.{List, [], ◌∷◌}
use Prim.Native.Nat.{ℕ, zero, suc, ◌+◌, ◌-◌, ◌*◌, ◌/◌, ◌≤◌}
use native.Mathlib.Nat.{min-le_left, min-le_right}
use native.Mathlib.Omega.{arith}
use lib.Count.{ones_in}
use lib.Dec.{eqb, ltb}
use lib.ListN.{length, drop, length-append}
use Rattle.format.specs.Answer.{Answer, answer, refused, mapped, then_answer}
use Rattle.format.specs.declared.section.BspData.{BspData}
use Rattle.records.specs.Leaf.{leaf_of}
use Rattle.records.specs.declared.leaf.BspLeaf.{BspLeaf}
use Rattle.vis.specs.Pvs.{visibility_of, section_row, row_of, pvs_of}
use Rattle.vis.specs.Row.{bits, before, in_byte, row_bits, visible, row_from, row_at}
use Rattle.vis.proofs.SetBits.{length_visible}
use Rattle.vis.proofs.Rows.{after_kept, after_zeros}

-- a list of at most so many entries, or a refusal
abbrev pub at_most : ℕ → Answer (List ℕ) → Type 0
at_most n (answer list) = length list ≤ n
at_most n (refused k) = 0 ≤ n

fewer : (m n : ℕ) (a : Answer (List ℕ)) → m ≤ n → at_most m a → at_most n a
fewer m n (answer list) h k = omega arith
fewer m n (refused j) h k = omega arith

-- n bits list at most n leaves
ones_at_most : (n b : ℕ) → ones_in n b ≤ n
unfolding ones_in
ones_at_most zero b = omega arith
ones_at_most (suc n) b = omega (arith, ones_at_most n (b / 2))

of_bits : (n leaf b : ℕ) → length (visible leaf (bits n b)) ≤ n
of_bits n leaf b = omega (arith, length_visible n leaf b, ones_at_most n b)

after_eight : (count leaf : ℕ) (xs : List ℕ) (a : Answer (List ℕ)) → length xs ≤ in_byte count leaf → at_most (count - (leaf + 8)) a
    → at_most (count - leaf) (before xs a)
after_eight count leaf xs (answer ys) h k =
    omega (arith, length-append xs ys, min-le_left 8 (count - leaf), min-le_right 8 (count - leaf))
after_eight count leaf xs (refused n) h k = omega arith

tested : (t : Bool) (n leaf : ℕ) (y : Answer (List Bool)) → at_most n (mapped (visible leaf) y) → at_most n (mapped (visible leaf) (cond t y (answer [])))
unfolding visible
tested true n leaf y h = h
tested false n leaf y h = omega arith

row_fits : (count leaf : ℕ) (bytes : List ℕ) → at_most (count - leaf) (row_from count leaf bytes)
unfolding row_bits
row_fits count leaf [] = tested (ltb leaf count) (count - leaf) leaf (refused 33) (omega arith)
row_fits count leaf (zero ∷ []) = tested (ltb leaf count) (count - leaf) leaf (refused 33) (omega arith)
row_fits count leaf (zero ∷ n ∷ bytes) =
    tested (ltb leaf count) (count - leaf) leaf _
    (rw (after_zeros leaf (8 * n) (row_bits count (leaf + 8 * n) bytes))
    (fewer (count - (leaf + 8 * n)) (count - leaf) (row_from count (leaf + 8 * n) bytes) (omega arith) (row_fits count (leaf + 8 * n) bytes)))
row_fits count leaf (suc b ∷ bytes) =
    tested (ltb leaf count) (count - leaf) leaf _
    (rw (after_kept count leaf (suc b) bytes)
    (after_eight count leaf (visible leaf (bits (in_byte count leaf) (suc b))) (row_from count (leaf + 8) bytes) (of_bits (in_byte count leaf) leaf (suc b)) (row_fits count (leaf + 8) bytes)))

-- for every file and map record
pub pvs_fits : (file : List ℕ) (map : BspData) (leaf count : ℕ) → at_most (count - 1) (pvs_of file map leaf count)
unfolding pvs_of section_row row_at
pvs_fits file map leaf count = go (eqb leaf 0) (leaf_of file map leaf)
  where
    at : (t : Bool) (bytes : List ℕ) → at_most (count - 1) (cond t (refused 33) (row_from count 1 bytes))
    at true bytes = omega arith
    at false bytes = row_fits count 1 bytes

    within : (offset : ℕ) (v : Answer (List ℕ)) → at_most (count - 1) (then_answer v (λ visibility. row_at visibility offset count))
    within offset (answer visibility) = at (ltb (length visibility) offset) (drop offset visibility)
    within offset (refused n) = omega arith

    row : (o : Option ℕ) → at_most (count - 1) (row_of file map count o)
    row None = omega arith
    row (Some offset) = within offset (visibility_of file map.visibility)

    go : (t : Bool) (a : Answer BspLeaf) → at_most (count - 1) (cond t (answer []) (then_answer a (λ l. row_of file map count l.vis_offset)))
    go true a = omega arith
    go false (answer l) = row l.vis_offset
    go false (refused n) = omega arith
