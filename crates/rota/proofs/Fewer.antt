-- A row that is whole for a number of leaves is whole for fewer. Assumes nothing.
use Rattle.std.specs.Prelude.{Option, Some, None}
use Prim.Native.Nat.{ℕ, zero, suc, ◌+◌, ◌*◌, ◌<◌, ◌≤◌}
use mathlib.Core.Path.{◌≡◌, refl, ap}
use mathlib.Core.Bool.{Bool, true, false, cond}
use mathlib.Core.List.{List, [], ◌∷◌}
use native.Mathlib.Omega.{arith}
use borrow.Author.Tests.{lt-ltb, le-ltb, ltb-true, ltb-false}
use lib.Dec.{ltb, eqb}
use lib.ListN.{length, drop, replicate}
use Rattle.format.specs.Answer.{Answer, answer, refused, mapped, then_answer}
use Rattle.format.specs.declared.section.BspData.{BspData}
use Rattle.format.proofs.Answers.{mapped_answer}
use Rattle.records.specs.Leaf.{leaf_of}
use Rattle.records.specs.declared.leaf.BspLeaf.{BspLeaf}
use Rattle.vis.specs.Row.{bits, before, in_byte, row_bits, visible, row_at}
use Rattle.vis.specs.Pvs.{visibility_of, section_row, row_of, pvs_of}

abbrev pub Whole : {A : Type 0} → Answer A → Type 0
Whole {A} x = (v : A) × (x ≡ answer v)

none : {A : Type 0} {P : Type 0} (n : ℕ) (a : A) → refused n ≡ answer a → P
none n a e = let z : ◌≡◌ {A = ℕ} 0 1 = cc in absurd (omega arith)

before_whole : {A : Type 0} (xs : List A) (x : Answer (List A)) → Whole (before xs x) → Whole x
before_whole xs (answer ys) w = (ys, refl)
before_whole xs (refused n) w = none n w.0 w.1

whole_before : {A : Type 0} (xs : List A) (x : Answer (List A)) → Whole x → Whole (before xs x)
whole_before xs x w = (_, ap (before xs) w.1)

module _ (c n : ℕ) (fewer : c ≤ n) where
  -- where no byte is left
  at_end : (leaf : ℕ) → Whole {A = List Bool} (cond (ltb leaf n) (refused 33) (answer [])) → Whole {A = List Bool} (cond (ltb leaf c) (refused 33) (answer []))
  at_end leaf w = by (ltb leaf n) refl w
    where
      by : (b : Bool) → ltb leaf n ≡ b → Whole {A = List Bool} (cond b (refused 33) (answer [])) → Whole {A = List Bool} (cond (ltb leaf c) (refused 33) (answer []))
      by true q w = none 33 w.0 w.1
      by false q w = let l : n ≤ leaf = ltb-false leaf n q in rw (le-ltb leaf c (omega arith)) ([], refl)

  -- where the row goes on
  on : (leaf : ℕ) (xs ys : List Bool) (x y : Answer (List Bool)) → (Whole x → Whole y) → Whole (cond (ltb leaf n) (before xs x) (answer [])) → Whole (cond (ltb leaf c) (before ys y) (answer []))
  on leaf xs ys x y f w = by (ltb leaf c) refl
    where
      by : (b : Bool) → ltb leaf c ≡ b → Whole (cond b (before ys y) (answer []))
      by true q =
          let l : leaf < c = ltb-true leaf c q in
          let t : ltb leaf n ≡ true = lt-ltb leaf n (omega arith) in
          let w' : Whole (before xs x) = rw t at w in
          whole_before ys y (f (before_whole xs x w'))
      by false q = ([], refl)

  row_fewer : (leaf : ℕ) (bytes : List ℕ) → Whole (row_bits n leaf bytes) → Whole (row_bits c leaf bytes)
  unfolding row_bits
  row_fewer leaf [] w = at_end leaf w
  row_fewer leaf (zero ∷ []) w = at_end leaf w
  row_fewer leaf (zero ∷ k ∷ bytes) w = on leaf (replicate (8 * k) false) (replicate (8 * k) false) _ _ (row_fewer (leaf + 8 * k) bytes) w
  row_fewer leaf (suc b ∷ bytes) w = on leaf (bits (in_byte n leaf) (suc b)) (bits (in_byte c leaf) (suc b)) _ _ (row_fewer (leaf + 8) bytes) w

  row_at_fewer : (visibility : List ℕ) (offset : ℕ) → Whole (row_at visibility offset n) → Whole (row_at visibility offset c)
  unfolding row_at
  row_at_fewer visibility offset w = by (ltb (length visibility) offset) w
    where
      by : (b : Bool) → Whole (cond b (refused 33) (mapped (visible 1) (row_bits n 1 (drop offset visibility)))) → Whole (cond b (refused 33) (mapped (visible 1) (row_bits c 1 (drop offset visibility))))
      by true w = none 33 w.0 w.1
      by false w =
          let a = mapped_answer (visible 1) (row_bits n 1 (drop offset visibility)) w.0 w.1 in
          let b = row_fewer 1 (drop offset visibility) (a.0, a.1) in
          (visible 1 b.0, ap (mapped (visible 1)) b.1)

  module _ (s : List ℕ) (m : BspData) where
    section_fewer : (offset : ℕ) → Whole (section_row s m.visibility offset n) → Whole (section_row s m.visibility offset c)
    unfolding section_row
    section_fewer offset w = by (visibility_of s m.visibility) w
      where
        by : (x : Answer (List ℕ)) → Whole (then_answer x (λ visibility. row_at visibility offset n)) → Whole (then_answer x (λ visibility. row_at visibility offset c))
        by (answer visibility) w = row_at_fewer visibility offset w
        by (refused r) w = none r w.0 w.1

    offset_fewer : (o : Option ℕ) → Whole (row_of s m n o) → Whole (row_of s m c o)
    offset_fewer None w = ([], refl)
    offset_fewer (Some offset) w = section_fewer offset w

    pub pvs_fewer : (leaf : ℕ) → Whole (pvs_of s m leaf n) → Whole (pvs_of s m leaf c)
    unfolding pvs_of
    pvs_fewer leaf w = by (eqb leaf 0) w
      where
        leaf_by : (x : Answer BspLeaf) → Whole (then_answer x (λ l. row_of s m n l.vis_offset)) → Whole (then_answer x (λ l. row_of s m c l.vis_offset))
        leaf_by (answer l) w = offset_fewer l.vis_offset w
        leaf_by (refused r) w = none r w.0 w.1

        by : (b : Bool) → Whole (cond b (answer []) (then_answer (leaf_of s m leaf) (λ l. row_of s m n l.vis_offset)))
            → Whole (cond b (answer []) (then_answer (leaf_of s m leaf) (λ l. row_of s m c l.vis_offset)))
        by true w = ([], refl)
        by false w = leaf_by (leaf_of s m leaf) w

-- leaf 0 has an empty list
pub pvs_zero : (s : List ℕ) (m : BspData) (c : ℕ) → Whole (pvs_of s m 0 c)
unfolding pvs_of
pvs_zero s m c = ([], refl)
