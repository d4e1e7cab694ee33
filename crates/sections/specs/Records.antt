-- Sections: records in a row, rows of records that are not tested, and bytes.
use Rattle.std.specs.Prelude.{ℕ, zero, suc, ◌+◌, ◌*◌, ◌-◌, min, ◌||◌, cond, List, eqb, leb, length}
use Rattle.format.specs.Step.{Step, ok, refused, and_then}
use Rattle.format.specs.Section.{element_size, record_count}
use Rattle.format.specs.declared.section.BspFileSection.{BspFileSection}
use Rattle.format.specs.declared.section.BspFileSectionId.{BspFileSectionId}
use Rattle.sections.specs.Position.{check_end_position}

-- n records one after the other, from a place on: `one` says what comes of a record, given what comes of those after it from their place on, and `end` what
-- comes when none is left. Loading goes by positions (`records`), acceptance by indices (`each` of accept/specs/Accept.antt).
abbrev pub one_by_one : {P R : Type 0} → (P → (P → R) → R) → (P → R) → ℕ → P → R
one_by_one one end zero p = end p
one_by_one one end (suc n) p = one p (λ q. one_by_one one end n q)

-- so many records, each read by `one`: the position after the last, or the first refusal
unfoldable pub records : {A : Type 0} → (List ℕ → ℕ → Step A) → List ℕ → ℕ → ℕ → Step (Unit {0})
records one s n at = one_by_one (λ p rest. and_then (one s p) (λ v q. rest q)) (λ p. ok tt p) n at

-- every record of a section: a seek to its offset, and as many records as its size has
abbrev pub each_record : {A : Type 0} → (List ℕ → ℕ → Step A) → BspFileSectionId → List ℕ → BspFileSection → Step (Unit {0})
each_record one id s z = records one s (record_count id z) z.offset

-- a section of records, and the test of its end position
unfoldable pub section : {A : Type 0} → (List ℕ → ℕ → Step A) → BspFileSectionId → List ℕ → BspFileSection → Step (Unit {0})
section one id s z = and_then (each_record one id s z) (λ u p. check_end_position z p)

-- so many bytes that are not tested; none are there everywhere
abbrev pub plain : List ℕ → ℕ → ℕ → Step (Unit {0})
plain s at n = cond (eqb n 0 || leb (at + n) (length s)) (ok tt (at + n)) (refused 1)

-- a section of records whose fields are not tested; what it is to `section` is the law `plain_section_lem` of proofs/Plain.antt
unfoldable pub plain_section : BspFileSectionId → List ℕ → BspFileSection → Step (Unit {0})
plain_section id s z = and_then (plain s z.offset (record_count id z * element_size id)) (λ u p. check_end_position z p)

-- Bytes that are kept as they are (`take(size).read_to_end`): what there is of them is read, so that a file that ends early is misaligned.
unfoldable pub blob : List ℕ → BspFileSection → Step (Unit {0})
blob s z = check_end_position z (z.offset + min z.size (length s - z.offset))
