-- A section of records that were written one after another is read to its end.
-- Assumes nothing.
use Prim.Native.Nat.{ℕ, zero, suc, ◌+◌, ◌*◌, ◌-◌, ◌^◌, ◌<◌, min}
use mathlib.Core.Path.{◌≡◌, refl, ap, ◌∙◌}
use mathlib.Core.Bool.{true}
use mathlib.Core.List.{List, ◌++◌}
use native.Mathlib.Nat.{add-zero, zero-mul, suc-mul, mul-div_cancel, mul-mod_left, zero-div}
use native.Mathlib.Omega.{arith}
use borrow.Author.Tests.{eq-eqb}
use lib.ListN.{length}
use Rattle.format.specs.Step.{Step, ok}
use Rattle.format.specs.Section.{element_size, record_count}
use Rattle.format.specs.declared.section.BspFileSection.{BspFileSection}
use Rattle.format.specs.declared.section.BspFileSectionId.{BspFileSectionId}
use Rattle.format.proofs.Places.{some_bytes}
use Rattle.sections.specs.Records.{records, section, each_record, blob}
use Rattle.sections.specs.Table.{is_multiple, section_at, three_sections_at}
use Rattle.written.specs.Bytes.{u32, row}
use Rattle.written.proofs.Fields.{Lies, Reads, then, last, reads_index, row_lies}

-- each record of k bytes is read at its place
module _ {A : Type 0} (one : List ℕ → ℕ → Step A) (s : List ℕ) (k : ℕ) where
  pub all_read : (n at : ℕ) (v : ℕ → A) → ((i : ℕ) → i < n → one s (at + i * k) ≡ ok (v i) (at + i * k + k)) → records one s n at ≡ ok tt (at + n * k)
  unfolding records
  all_read zero at v h = rw (zero-mul, add-zero) refl
  all_read (suc n) at v h =
      let a : one s at ≡ ok (v 0) (at + k) = rw (zero-mul k, add-zero at) at (h 0 (omega arith)) in
      let b = all_read n (at + k) (λ i. v (suc i)) (λ i l. let z : at + suc i * k ≡ at + k + i * k = omega (arith, suc-mul i k) in rw z at (h (suc i) (omega arith))) in
      rw a (b ∙ ap (ok tt) (omega (arith, suc-mul n k)))

-- a section of n whole elements
abbrev pub sized : BspFileSectionId → ℕ → ℕ → BspFileSection
sized id offset n = record { offset = offset; size = n * element_size id }

pub count_of : (id : BspFileSectionId) (offset n : ℕ) → record_count id (sized id offset n) ≡ n
unfolding record_count
count_of id offset n = mul-div_cancel n (some_bytes id)

pub multiple : (id : BspFileSectionId) (n : ℕ) → is_multiple id (n * element_size id) ≡ true
unfolding is_multiple
multiple id n = rw (mul-mod_left n (element_size id))

-- the records that were written there are read, and end where the section does
module _ {A : Type 0} {one : List ℕ → ℕ → Step A} (id : BspFileSectionId) (part : ℕ → List ℕ) (v : ℕ → A) (n offset : ℕ) (s : List ℕ)
    (sizes : (i : ℕ) → i < n → length (part i) ≡ element_size id) (reads : (i : ℕ) → i < n → Reads one (part i) (v i)) (l : Lies (row part n) s offset) where
  pub record_reads : (i : ℕ) → i < n → one s (offset + i * element_size id) ≡ ok (v i) (offset + i * element_size id + element_size id)
  record_reads i h = rw (sizes i h) at ((reads i h).reads s (offset + i * element_size id) (row_lies part (element_size id) n sizes l i h))

  pub records_read : each_record one id s (sized id offset n) ≡ ok tt (offset + n * element_size id)
  records_read = rw (count_of id offset n) (all_read one s (element_size id) n offset v record_reads)

  pub section_reads : section one id s (sized id offset n) ≡ ok tt (offset + n * element_size id)
  unfolding section
  section_reads = rw (records_read, eq-eqb (offset + n * element_size id) (offset + n * element_size id) refl) refl

-- an empty section may have any offset
pub empty_section : {A : Type 0} (one : List ℕ → ℕ → Step A) (id : BspFileSectionId) (s : List ℕ) (offset : ℕ)
    → section one id s (record { offset = offset; size = 0 }) ≡ ok tt offset
unfolding section records record_count
empty_section one id s offset = rw (zero-div (element_size id), eq-eqb offset (offset + 0) (omega arith)) refl

pub empty_blob : (s : List ℕ) (offset : ℕ) → blob s (record { offset = offset; size = 0 }) ≡ ok tt offset
unfolding blob
empty_blob s offset =
    let z : offset + min 0 (length s - offset) ≡ offset = omega arith in
    rw (z, eq-eqb offset (offset + 0) (omega arith)) refl

-- a section's entry in the table: both of its numbers are i32 and not negative
abbrev pub Entered : BspFileSectionId → ℕ → ℕ → Type 0
Entered id offset n = (offset < 2 ^ 31) × (n * element_size id < 2 ^ 31)

abbrev pub entry : BspFileSectionId → ℕ → ℕ → List ℕ
entry id offset n = u32 offset ++ u32 (n * element_size id)

pub reads_section : (id : BspFileSectionId) (offset n : ℕ) → Entered id offset n → Reads (section_at id) (entry id offset n) (sized id offset n)
unfolding section_at
reads_section id offset n h =
    then _ (reads_index 3 offset h.0) (last _ (reads_index 4 (n * element_size id) h.1) (λ p. rw (multiple id n)))

pub reads_three : (i j k : BspFileSectionId) (a x b y c z : ℕ) → Entered i a x → Entered j b y → Entered k c z
    → Reads (three_sections_at i j k) (entry i a x ++ entry j b y ++ entry k c z) (record { a = sized i a x; b = sized j b y; c = sized k c z })
unfolding three_sections_at
reads_three i j k a x b y c z f g h =
    then _ (reads_section i a x f) (then _ (reads_section j b y g) (last _ (reads_section k c z h) (λ p. refl)))
