-- What the calls for C that ask a hull answer, and acceptance, where a list is a word too short (22), where a number names no table or hull (20),
-- and where there are too many points (24): beside what a call's definition says, what include/bsp29.h says. proofs/Calls.antt computes them all.
use Rattle.std.specs.Prelude.{ℕ, false, List, [], ◌∷◌, pos, Float, replicate}
use Rattle.std.specs.Float.{fin}
use Rattle.ffi_hull.specs.Calls.{bsp_hull, bsp_box}
use Rattle.ffi_walks.specs.Calls.{bsp_contents, bsp_find_leaf}
use Rattle.ffi_traces.specs.Calls.{bsp_trace}
use Rattle.ffi_entered.specs.Calls.{bsp_contents_nodes, bsp_find_leaf_nodes, bsp_trace_nodes}
use Rattle.ffi_checked.specs.Calls.{bsp_hull_check}
use Rattle.ffi_boxes.specs.Calls.{bsp_contents_box}
use Rattle.ffi_accept.specs.Calls.{bsp_accept}
use Rattle.ffi_points.specs.Calls.{bsp_contents_points}
use Rattle.ffi_line.specs.Calls.{bsp_trace_line}
use Rattle.ffi_order.specs.Calls.{bsp_order, bsp_order_contents}

pub record Trial : Type 0 where
  pub definition : ℕ
  pub header : ℕ

infix 4 ◌gives◌
abbrev pub ◌gives◌ : ℕ → ℕ → Trial
d gives n = record { definition = d; header = n }

-- ---- lists of so many words or floats, all of them 0, and the words of a hull whose table is none

abbrev pub words : ℕ → List ℕ
words n = replicate n 0

abbrev pub floats : ℕ → List Float
floats n = replicate n (fin false 0 (pos 0))

abbrev pub no_table : List ℕ
no_table = 3 ∷ words 8

-- ---- the table; each call is handed the empty file

unfoldable pub trials : List Trial
trials =
    -- a map record has 31 words
    ((bsp_hull [] (words 30) 0 0 (words 11)).status gives 22)
    ∷ ((bsp_find_leaf [] (words 30) 0 (floats 3) (words 2)).status gives 22)
    ∷ ((bsp_accept [] (words 30) []).status gives 22)
    -- bounds have six floats
    ∷ ((bsp_box (floats 5) (words 11)).status gives 22)
    ∷ ((bsp_contents_box [] (words 31) no_table (floats 5) [] (words 1)).status gives 22)
    ∷ ((bsp_contents_box [] (words 31) no_table (floats 6) [] (words 1)).status gives 20)
    -- a point has three floats, contents and visits have two words
    ∷ ((bsp_contents [] (words 31) no_table (floats 3) (words 1)).status gives 22)
    ∷ ((bsp_contents [] (words 31) no_table (floats 3) (words 2)).status gives 20)
    -- a segment has six floats, a trace 17 words, a whole line twelve
    ∷ ((bsp_trace [] (words 31) no_table (floats 6) (words 16)).status gives 22)
    ∷ ((bsp_trace [] (words 31) no_table (floats 6) (words 17)).status gives 20)
    ∷ ((bsp_trace_line [] (words 31) no_table (floats 6) (words 11)).status gives 22)
    ∷ ((bsp_trace_line [] (words 31) no_table (floats 6) (words 12)).status gives 20)
    -- the calls that list nodes need a word for the count
    ∷ ((bsp_contents_nodes [] (words 31) no_table (floats 2) [] (words 1)).status gives 22)
    ∷ ((bsp_contents_nodes [] (words 31) no_table (floats 3) [] (words 1)).status gives 20)
    ∷ ((bsp_find_leaf_nodes [] (words 31) 0 (floats 3) (words 9) []).status gives 22)
    ∷ ((bsp_trace_nodes [] (words 31) no_table (floats 5) [] (words 1)).status gives 22)
    ∷ ((bsp_trace_nodes [] (words 31) no_table (floats 6) [] (words 1)).status gives 20)
    -- a hull has eleven words, of which nine are asked for where a call takes it
    ∷ ((bsp_hull_check [] (words 31) no_table [] (words 9)).status gives 22)
    ∷ ((bsp_hull_check [] (words 31) no_table [] (words 11)).status gives 20)
    -- a box has no nodes in the file to be put in order
    ∷ ((bsp_order [] (words 31) 2 0 [] [] (words 1)).status gives 20)
    ∷ ((bsp_order_contents [] (words 31) [] 0 (floats 2) (words 2)).status gives 22)
    -- 1,024 points at most (24, before everything else); the reads need a word
    ∷ ((bsp_contents_points [] (words 31) no_table (floats 3075) [] (words 1)).status gives 24)
    ∷ ((bsp_contents_points [] (words 31) no_table (floats 3) (words 1) []).status gives 22)
    ∷ ((bsp_contents_points [] (words 31) no_table (floats 3) (words 1) (words 1)).status gives 20)
    ∷ []
