-- For the contracts of functions that no other crate can name; a reader of the calls may leave this file out.
-- What only private contracts cite: what a check that is passed by name says, the roots that the code remembers as passed, and what it notes of
-- the visibility data.
use Rattle.std.specs.Prelude.{ℕ, zero, suc, ◌+◌, ◌*◌, ◌/◌, ◌%◌, ◌<◌, ◌≤◌, List, [], ◌∷◌, ◌≡◌, cond, ltb, length, get_or, set, drop, Result}
use Rattle.std.specs.Borrow.{Bor}
use Rattle.format.specs.Answer.{answer}
use Rattle.format.specs.Answers.{answer_of}
use Rattle.format.specs.declared.refusal.Refusal.{Refusal}
use Rattle.format.specs.declared.section.BspData.{BspData}
use Rattle.format.specs.declared.section.BspFileSection.{BspFileSection}
use Rattle.vis.specs.Answers.{bytes_of}
use Rattle.vis.specs.Pvs.{visibility_of}
use Rattle.nodes.specs.declared.table.HullTable.{HullTable}
use Rattle.accept.specs.Accept.{Check, passes, tree_from}

-- whatever the check gives for a number is what `one` says of it
abbrev pub ChecksAs : (ℕ → Result (Unit {0}) Refusal → Type 0) → (ℕ → Check) → Type 0
ChecksAs gives one = (i : ℕ) (r : _) → gives i r → answer_of r ≡ one i

module _ (s : List ℕ) (m : BspData) where
  -- the bytes remember roots of a table: where one is not zero, the check from the root of that number passes
  abbrev pub Remembered : HullTable → List ℕ → Type 0
  Remembered table bytes = (root : ℕ) → (get_or bytes root 0 ≡ 0 → ⊥) → tree_from s m table root ≡ passes

-- how many groups of eight leaves the bytes of a row stand for, read to their end; a zero byte without its count stands for none
unfoldable pub groups : List ℕ → ℕ
groups [] = 0
groups (zero ∷ []) = 0
groups (zero ∷ n ∷ bytes) = n + groups bytes
groups (suc b ∷ bytes) = 1 + groups bytes

-- the groups of a position by its byte, the next one, and the groups from the next two positions on
abbrev pub groups_by : ℕ → ℕ → ℕ → ℕ → ℕ
groups_by zero count next after = after + count
groups_by (suc b) count next after = next + 1

-- where the note of a position stands among the notes: the first two of every 64 positions have one
abbrev pub note_of : ℕ → ℕ
note_of at = at / 64 * 2 + at % 64

unfoldable pub with_note : ℕ → ℕ → List ℕ → List ℕ
with_note at n notes = cond (ltb (at % 64) 2) (set notes (note_of at) n) notes

-- every note is there, from a position on or from the first on
abbrev pub NotedFrom : ℕ → List ℕ → List ℕ → Type 0
NotedFrom from v notes = (at : ℕ) → from ≤ at → at < length v → at % 64 < 2 → get_or notes (note_of at) 0 ≡ groups (drop at v)

abbrev pub Noted : List ℕ → List ℕ → Type 0
Noted v notes = NotedFrom 0 v notes

pub record Notes (v notes : List ℕ) : Type 0 where
  pub small : length v ≤ 1048576
  pub noted : Noted v notes

-- the bytes are those of the visibility section, and, where it can be read, its notes are there
pub record RowsNoted (s : List ℕ) (z : BspFileSection) (bytes : Result (Bor (List ℕ)) Refusal) (notes : List ℕ) : Type 0 where
  pub read : bytes_of bytes ≡ visibility_of s z
  pub of_data : (v : List ℕ) → visibility_of s z ≡ answer v → Notes v notes
