-- A record by its index: 20 where the index is at or past the count; 23 where the section is above its limit, the record's own bytes
-- are not in the file, or the reader that loading uses refuses it.
use Rattle.std.specs.Prelude.{ℕ, List, length}
use Rattle.format.specs.Answer.{Answer, answer, refused}
use Rattle.format.specs.Step.{Step}
use Rattle.format.specs.Section.{section_of, place}
use Rattle.format.specs.declared.section.BspData.{BspData}
use Rattle.format.specs.declared.section.BspFileSectionId.{BspFileSectionId}

-- what a reader gave, any refusal of it turned into 23
abbrev pub reading : {A : Type 0} → Step A → Answer A
reading (Step.ok v p) = answer v
reading (Step.refused n) = refused 23

-- what stands at the place of a record
abbrev pub read_at : {A : Type 0} → Answer ℕ → (ℕ → Step A) → Answer A
read_at (answer p) one = reading (one p)
read_at (refused n) one = refused n

-- record i of a section, whose records `one` reads
unfoldable pub record_of : {A : Type 0} → BspFileSectionId → (List ℕ → ℕ → Step A) → List ℕ → BspData → ℕ → Answer A
record_of id one s m i = read_at (place id (section_of id m) (length s) i) (λ p. one s p)
