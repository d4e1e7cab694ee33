-- Records whose fields are not tested: a row of them is one test of the length.
-- Assumes nothing.
use Prim.Native.Nat.{ℕ, zero, suc, ◌+◌, ◌*◌, ◌<◌, ◌≤◌, zero-le}
use mathlib.Core.Path.{◌≡◌, refl, sym, ap, ◌∙◌}
use mathlib.Core.List.{List}
use mathlib.Core.Bool.{Bool, true, false, or-true}
use native.Mathlib.Nat.{zero-mul, suc-mul, add-zero, add_assoc, div-mul-le_self}
use native.Mathlib.Omega.{arith}
use borrow.Author.Tests.{leb-true, leb-false, ne_eqb}
use lib.Dec.{leb}
use lib.ListN.{length}
use Rattle.format.specs.Step.{Step, ok, refused, and_then}
use Rattle.format.specs.Field.{field, u16_at, u32_at, i32_at, f32_at}
use Rattle.format.specs.Section.{element_size, record_count}
use Rattle.format.specs.declared.section.BspFileSection.{BspFileSection}
use Rattle.format.specs.declared.section.BspFileSectionId.{BspFileSectionId}
use Rattle.format.proofs.Places.{some_bytes}
use Rattle.format.proofs.Fields as Fields
use Rattle.sections.specs.Records.{records, section, plain, plain_section}
use Rattle.sections.proofs.Loops.{done}

-- k bytes are read, whatever they are
pub record Plain {A : Type 0} (one : List ℕ → ℕ → Step A) (k : ℕ) : Type 0 where
  pub reads : (s : List ℕ) (at : ℕ) → at + k ≤ length s → (v : A) × (one s at ≡ ok v (at + k))
  pub ends : (s : List ℕ) (at : ℕ) → length s < at + k → one s at ≡ refused 1

pub of_field : {A : Type 0} (k : ℕ) (v : List ℕ → ℕ → A) → Plain (λ s at. field k s at (v s at)) k
of_field k v = record {
  reads = λ s at h. (v s at, sym (Fields.reads k s at (v s at) h));
  ends = λ s at h. sym (Fields.ends k s at (v s at) h);
}

module _ {A B : Type 0} {f : List ℕ → ℕ → Step A} {j : ℕ} (pf : Plain f j) where
  -- another value of the same bytes
  pub mapped : (h : A → B) → Plain (λ s at. and_then (f s at) (λ v p. ok (h v) p)) j
  mapped h = record {
    reads = λ s at b. let r = pf.reads s at b in (h r.0, rw r.1 refl);
    ends = λ s at b. rw (pf.ends s at b) refl;
  }

  -- one field and then the rest
  pub then : (g : A → List ℕ → ℕ → Step B) (k : ℕ) → ((v : A) → Plain (g v) k) → Plain (λ s at. and_then (f s at) (λ v p. g v s p)) (j + k)
  then g k pg = record {
    reads = λ s at b.
        let r = pf.reads s at (omega arith) in
        let q = (pg r.0).reads s (at + j) (omega arith) in
        (q.0, rw r.1 (q.1 ∙ ap (ok q.0) (add_assoc at j k)));
    ends = λ s at b. cut s at b (leb (at + j) (length s)) refl;
  }
    where
      cut : (s : List ℕ) (at : ℕ) → length s < at + (j + k) → (t : Bool) → leb (at + j) (length s) ≡ t → and_then (f s at) (λ v p. g v s p) ≡ refused 1
      cut s at b true e =
          let r = pf.reads s at (leb-true (at + j) (length s) e) in
          rw r.1 ((pg r.0).ends s (at + j) (omega arith))
      cut s at b false e = rw (pf.ends s at (leb-false (at + j) (length s) e)) refl

factor : (n k : ℕ) → 0 < n * k → 0 < n
factor zero k h = rw zero-mul at h
factor (suc n) k h = omega arith

module _ {A : Type 0} {one : List ℕ → ℕ → Step A} {k : ℕ} (p : Plain one k) (s : List ℕ) where
  all : (n at : ℕ) → at + n * k ≤ length s → records one s n at ≡ ok tt (at + n * k)
  unfolding records
  all zero at h = rw (zero-mul, add-zero) refl
  all (suc n) at h =
      let m = suc-mul n k in
      let r = p.reads s at (omega arith) in
      rw r.1 (all n (at + k) (omega arith) ∙ ap (ok tt) (omega arith))

  short : (n at : ℕ) → 0 < n → length s < at + n * k → records one s n at ≡ refused 1
  unfolding records
  short zero at z h = absurd (omega arith)
  short (suc n) at z h = cut (short n (at + k)) (leb (at + k) (length s)) refl
    where
      cut : (0 < n → length s < at + k + n * k → records one s n (at + k) ≡ refused 1)
          → (t : Bool) → leb (at + k) (length s) ≡ t → and_then (one s at) (λ v q. records one s n q) ≡ refused 1
      cut again false e = rw (p.ends s at (leb-false (at + k) (length s) e)) refl
      cut again true e =
          let r = p.reads s at (leb-true (at + k) (length s) e) in
          let m = suc-mul n k in
          let b = leb-true (at + k) (length s) e in
          rw r.1 (again (factor n k (omega arith)) (omega arith))

  pub row : 0 < k → (n at : ℕ) → records one s n at ≡ plain s at (n * k)
  row size n at = by n (leb (at + n * k) (length s)) refl
    where
      by : (m : ℕ) (t : Bool) → leb (at + m * k) (length s) ≡ t → records one s m at ≡ plain s at (m * k)
      by zero t e = done one s 0 at zero-le ∙ simp (zero-mul k, add-zero at)
      by (suc m) true e = all (suc m) at (leb-true (at + suc m * k) (length s) e) ∙ simp (e, or-true)
      by (suc m) false e =
          let x = suc-mul m k in
          short (suc m) at (omega arith) (leb-false (at + suc m * k) (length s) e) ∙ simp (e, ne_eqb (suc m * k) 0 (omega arith))

-- the records of a section end within it
pub row_bytes : (id : BspFileSectionId) (z : BspFileSection) → record_count id z * element_size id ≤ z.size
unfolding record_count
row_bytes id z = div-mul-le_self z.size (element_size id)

-- a section of such records is one test of the file's length, and the section's end
pub plain_section_lem : {A : Type 0} (one : List ℕ → ℕ → Step A) (id : BspFileSectionId) → Plain one (element_size id) → (s : List ℕ) (z : BspFileSection)
    → plain_section id s z ≡ section one id s z
unfolding section plain_section
plain_section_lem one id p s z = rw (row p s (some_bytes id) (record_count id z) z.offset)

pub plain_u16 : Plain u16_at 2
unfolding u16_at
plain_u16 = of_field 2 _

plain_u32 : Plain u32_at 4
unfolding u32_at
plain_u32 = of_field 4 _

pub plain_i32 : Plain i32_at 4
unfolding i32_at
plain_i32 = mapped plain_u32 _

pub plain_f32 : Plain f32_at 4
unfolding f32_at
plain_f32 = mapped plain_u32 _
