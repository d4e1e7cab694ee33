-- The row of a leaf: one law for each way through `check_row`. What a leaf's record is refused with is not 33. Assumes nothing.
use Rattle.std.specs.Prelude.{Some, None}
use Prim.Native.Nat.{ℕ, ◌+◌, ◌*◌, ◌<◌}
use mathlib.Core.Path.{◌≡◌, refl, sym, ap, ◌∙◌}
use mathlib.Core.Bool.{Bool, true, false, cond}
use mathlib.Core.List.{List, []}
use native.Mathlib.Omega.{arith}
use lib.Dec.{eqb, leb}
use lib.ListN.{length, take, drop}
use Rattle.format.specs.Answer.{Answer, answer, refused, then_answer}
use Rattle.format.specs.Step.{Step}
use Rattle.format.specs.Section.{record_count, within_limit, element_size, place}
use Rattle.format.specs.declared.section.BspData.{BspData}
use Rattle.format.specs.declared.section.BspFileSection.{BspFileSection}
use Rattle.format.specs.declared.section.BspFileSectionId.TheVariants.{Leaves, Visibility}
use Rattle.records.specs.Access.{reading, read_at, record_of}
use Rattle.records.specs.Leaf.{leaf_at, leaf_of}
use Rattle.records.specs.declared.leaf.BspLeaf.{BspLeaf}
use Rattle.vis.specs.Row.{row_at}
use Rattle.vis.specs.Pvs.{visibility_of, section_row, pvs_of}
use Rattle.vis.proofs.Sections.{no_leaf, no_offset, at_offset}
use Rattle.accept.specs.Accept.{Check, passes, whole_row, row_check}

-- whatever it is refused with, it is not 33
abbrev Other : {A : Type 0} → Answer A → Type 0
Other (answer a) = Unit {0}
Other (refused n) = eqb n 33 ≡ false

other_reading : {A : Type 0} (x : Step A) → Other (reading x)
other_reading (Step.ok v p) = tt
other_reading (Step.refused n) = refl

other_read_at : {A : Type 0} (x : Answer ℕ) (one : ℕ → Step A) → Other x → Other (read_at x one)
other_read_at (answer p) one q = other_reading (one p)
other_read_at (refused n) one q = q

other_place : (z : BspFileSection) (n i : ℕ) → Other (place Leaves z n i)
unfolding place
other_place z n i = by (leb (record_count Leaves z) i) (within_limit Leaves (record_count Leaves z)) (leb (z.offset + i * element_size Leaves + element_size Leaves) n) (z.offset + i * element_size Leaves)
  where
    by : (a b c : Bool) (x : ℕ) → Other (cond a (refused 20) (cond b (cond c (answer x) (refused 23)) (refused 23)))
    by true b c x = refl
    by false true true x = tt
    by false true false x = refl
    by false false c x = refl

other_leaf : (s : List ℕ) (m : BspData) (i : ℕ) → Other (leaf_of s m i)
unfolding record_of
other_leaf s m i = other_read_at (place Leaves m.leaves (length s) i) (λ p. leaf_at s p) (other_place m.leaves (length s) i)

as_it_is : {A : Type 0} (x : Answer A) (n : ℕ) → x ≡ refused n → Other x → refused n ≡ whole_row (refused n)
as_it_is (answer a) n e p = let z : ◌≡◌ {A = ℕ} 0 1 = cc in absurd (omega arith)
as_it_is (refused k) n e p = let z : k ≡ n = cc in rw (← z, p)

-- the row in the section, where the section can be read and where it cannot
module _ (s : List ℕ) (z : BspFileSection) (offset k : ℕ) where
  pub read_row : (v : List ℕ) {a : Check} → answer v ≡ visibility_of s z → a ≡ whole_row (row_at v offset k) → a ≡ whole_row (section_row s z offset k)
  unfolding section_row
  read_row v e q = rw (← e) q

  pub unread_row : (n : ℕ) → refused n ≡ visibility_of s z → refused n ≡ whole_row (section_row s z offset k)
  unfolding section_row visibility_of
  unread_row n e = by (eqb z.size 0) (within_limit Visibility z.size) (leb (z.offset + z.size) (length s)) [] (take z.size (drop z.offset s)) e
    where
      by : (a b c : Bool) (x y : List ℕ) → refused n ≡ cond a (answer x) (cond b (cond c (answer y) (refused 23)) (refused 23))
          → refused n ≡ whole_row (then_answer (cond a (answer x) (cond b (cond c (answer y) (refused 23)) (refused 23))) (λ v. row_at v offset k))
      by true b c x y e = let q : ◌≡◌ {A = ℕ} 0 1 = cc in absurd (omega arith)
      by false true true x y e = let q : ◌≡◌ {A = ℕ} 0 1 = cc in absurd (omega arith)
      by false true false x y e = let q : n ≡ 23 = cc in rw q
      by false false c x y e = let q : n ≡ 23 = cc in rw q

module _ (s : List ℕ) (m : BspData) (leaf : ℕ) (h : 0 < leaf) where
  not_0 : leaf ≡ 0 → ⊥
  not_0 e = omega arith

  pub no_record : (n : ℕ) → leaf_of s m leaf ≡ refused n → refused n ≡ row_check s m leaf
  unfolding row_check
  no_record n e = as_it_is (leaf_of s m leaf) n e (other_leaf s m leaf) ∙ ap whole_row (no_leaf s m leaf (record_count Leaves m.leaves) not_0 n (sym e))

  module _ (l : BspLeaf) (e : leaf_of s m leaf ≡ answer l) where
    pub no_row : l.vis_offset ≡ None → passes ≡ row_check s m leaf
    unfolding row_check
    no_row o = ap whole_row (no_offset s m leaf (record_count Leaves m.leaves) not_0 l (sym e) o)

    pub its_row : (offset n : ℕ) {a : Check} → l.vis_offset ≡ Some offset → n ≡ record_count Leaves m.leaves → a ≡ whole_row (section_row s m.visibility offset n) → a ≡ row_check s m leaf
    unfolding row_check
    its_row offset n o q g = g ∙ ap whole_row (at_offset s m leaf n not_0 l (sym e) offset o) ∙ ap (λ (k : ℕ). whole_row (pvs_of s m leaf k)) q
