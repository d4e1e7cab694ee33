-- Request 6 at the calls that a server makes: for every file for which bsp_load answers 0, every table and root for which bsp_tree_check answers 0 on the map
-- words that bsp_load wrote, every hull of that table and root and every segment, whatever the floats: bsp_trace_line answers 0, and the fraction that it
-- writes is a NaN or from 0 to 1. proofs/Lines.antt proves `EveryLine`; line_loaded/specs/EveryLine.antt says it of the definition.
--
--   every hull          every nine words or more whose table and root are those that were checked: as bsp_hull or bsp_box wrote them, or made by hand
--   every segment       every list of six floats or more
use Rattle.std.specs.Prelude.{ℕ, ◌≤◌, List, ◌≡◌, Float, length}
use Rattle.line_loaded.specs.EveryLine.{IsFraction}
use Rattle.words.specs.Words.{Written, float_word}
use Rattle.ffi_line.specs.Calls.{line_length, bsp_trace_line}
use Rattle.served.specs.Cited.{bsp_load, bsp_tree_check}
use Rattle.served.specs.NamedWords.{word, hull_asked, hull_table, hull_root}
use Rattle.served.specs.EveryCall.{map_written}

-- of the answer of bsp_trace_line: BSP_LINE_FRACTION
abbrev pub line_fraction : List ℕ → ℕ
line_fraction = word 0

pub record Answered (call : Written) : Type 0 where
  -- it answers 0
  pub answers : call.status ≡ 0
  -- and writes the word of a fraction
  pub fraction : Float
  pub is_fraction : IsFraction fraction
  pub wrote : line_fraction call.list ≡ float_word fraction

abbrev pub EveryLine : Type 0
EveryLine =
    (s lent : List ℕ) → (bsp_load s lent).status ≡ 0
    → (table root : ℕ) (marks height : List ℕ) → (bsp_tree_check s (map_written s lent) table root marks height).status ≡ 0
    → (hull : List ℕ) → hull_asked ≤ length hull → hull_table hull ≡ table → hull_root hull ≡ root
    → (segment : List Float) → 6 ≤ length segment → (out : List ℕ) → line_length ≤ length out
    → Answered (bsp_trace_line s (map_written s lent) hull segment out)
