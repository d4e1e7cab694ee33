-- For the contracts of functions below the calls; a reader of the calls may leave this file out.
-- The walk of a point where the file has all nodes and planes (`walk_quick`), and the code of the contents at an end (`end_code`), both as one
-- number, which is 0 where nothing is said.
use Rattle.std.specs.Prelude.{Option, Some, None, ◌≡◌, ℕ, ◌-◌, ◌/◌, ◌%◌, Bool, true, cond, List, length, ◌==◌, nat_lt}
use Rattle.format.specs.Answer.{Answer, answer, refused}
use Rattle.format.specs.Code.{contents_of}
use Rattle.format.specs.Contents.{code_of}
use Rattle.format.specs.declared.contents.BspLeafContents.{BspLeafContents}
use Rattle.math.specs.Vector as Vec
use Rattle.math.specs.declared.vector.Vector3.{Vector3}
use Rattle.walk.specs.Walk.{with_visits, point_walk, walk}
use Rattle.walk.specs.Private.{after}
use Rattle.nodes.specs.Tables.{End, file_table}
use Rattle.nodes.specs.Fast.{is_render, end_of, table, contents_met}
use Rattle.nodes.specs.Walks.{ends, are_whole, Read}
use Rattle.nodes.specs.declared.table.HullTable.{HullTable}
use Rattle.nodes.specs.declared.table.Part.{Part}
use Rattle.nodes.specs.declared.table.Tables.{Tables}

-- so many records from a place on, of which the limit allows so many
abbrev pub part_with : ℕ → ℕ → ℕ → Part
part_with a n limit = record { at = a; count = n; readable = cond (nat_lt limit n) 0 n }

abbrev origin : Vector3
origin = Vec.vector Vec.zero32 Vec.zero32 Vec.zero32

-- the tables of n nodes from a on and m planes from b on, and of n leaves from a on
abbrev pub tables_by : Bool → ℕ → ℕ → ℕ → ℕ → Tables
tables_by render a n b m =
    record {
      table = file_table render;
      nodes = part_with a n 32767;
      planes = part_with b m 8192;
      leaves = part_with 0 0 32767;
      mins = origin;
      maxs = origin;
    }

abbrev pub leaves_by : Bool → ℕ → ℕ → Tables
leaves_by render a n =
    record {
      table = file_table render;
      nodes = part_with 0 0 32767;
      planes = part_with 0 0 8192;
      leaves = part_with a n 32767;
      mins = origin;
      maxs = origin;
    }

-- an answer, and 0, which is no refusal's number, for every refusal
abbrev pub or_nothing : {A : Type 0} → Answer A → Answer A
or_nothing (answer a) = answer a
or_nothing (refused n) = refused 0

-- the end of a word, and visits: a word times 2^32 and the visits
abbrev pub end_and_visits : HullTable → ℕ → Answer (End × ℕ)
end_and_visits t r = answer (end_of t (r / 4294967296), r % 4294967296)

abbrev pub quick_answer : HullTable → ℕ → Answer (End × ℕ)
quick_answer t r = cond (r == 0) (refused 0) (end_and_visits t r)

abbrev pub quick_in : List ℕ → Tables → ℕ → Vector3 → Answer (End × ℕ)
quick_in s t root p = or_nothing (with_visits (point_walk (ends (table s t)) root p))

unfoldable pub quick_walk : List ℕ → Tables → ℕ → Vector3 → Answer (End × ℕ)
quick_walk s t root p = cond (are_whole t (length s)) (quick_in s t root p) (refused 0)

-- the bytes of the two sections of a table that is whole
pub record Whole (s : List ℕ) (t : Tables) (nodes planes : List ℕ) (render : Bool) : Type 0 where
  pub its : Read s t nodes planes true
  pub table_is : render ≡ is_render t.table

-- for private contracts: what a walk by these bytes answers, whatever table they are of
abbrev pub QuickIn : List ℕ → List ℕ → Bool → ℕ → Vector3 → ℕ → Type 0
QuickIn n m render root p r = (s : List ℕ) (t : Tables) → Whole s t n m render → quick_answer t.table r ≡ quick_in s t root p

-- the same, which says nothing of tables with more nodes than there are words
abbrev pub WalkedIn : List ℕ → List ℕ → Bool → ℕ → Vector3 → ℕ → Type 0
WalkedIn n m render root p r = (s : List ℕ) (t : Tables) → Whole s t n m render → quick_answer t.table r ≡ cond (nat_lt t.nodes.count 32768) (quick_in s t root p) (refused 0)

-- what is left of a walk that stands at the node i, where v nodes were entered before
abbrev pub rest_in : List ℕ → Tables → ℕ → ℕ → Vector3 → Answer (End × ℕ)
rest_in s t i v p = or_nothing (after v (walk (ends (table s t)) (t.nodes.count - v) i p))

abbrev pub RestIn : List ℕ → List ℕ → Bool → ℕ → ℕ → Vector3 → ℕ → Type 0
RestIn n m render i v p r = (s : List ℕ) (t : Tables) → Whole s t n m render → quick_answer t.table r ≡ rest_in s t i v p

-- the code of contents, and 0 where there are none
abbrev pub code_or : Answer BspLeafContents → ℕ
code_or (answer c) = code_of c
code_or (refused n) = 0

-- what a word of a clip node says
abbrev pub said : Option BspLeafContents → Answer BspLeafContents
said (Some c) = answer c
said None = refused 23

abbrev pub word_contents : ℕ → Answer BspLeafContents
word_contents w = said (contents_of (65536 - w))

-- of the end that a word stands for, with n leaves from a on
unfoldable pub end_code : List ℕ → Bool → ℕ → ℕ → ℕ → ℕ
end_code s render a n w = code_or (contents_met s (leaves_by render a n) w)
