-- Traces from words and as words: the sixteen words that `bsp_trace` writes after the visits. A float is its 32 bits, every NaN 0x7fc00000.
-- A word past the list's end counts as 0.
-- Assumes nothing.
use Rattle.std.specs.Prelude.{Option, Some, None, ℕ, ◌+◌, not, cond, List, [], ◌∷◌, ◌++◌, eqb, get_or, Float}
use Rattle.std.specs.Float.{binary32}
use Rattle.std.specs.Float.Ieee.{of_bits}
use Rattle.math.specs.Vector.{vector}
use Rattle.math.specs.declared.vector.Vector3.{Vector3}
use Rattle.format.specs.Answer.{Answer, answer, refused}
use Rattle.format.specs.Code.{contents_of}
use Rattle.format.specs.Contents.{code_of}
use Rattle.format.specs.declared.contents.BspLeafContents.{BspLeafContents}
use Rattle.format.specs.declared.contents.BspLeafContents.TheVariants.{Empty}
use Rattle.phys.specs.Trace.{start, terminal, boundary, trace}
use Rattle.phys.specs.declared.TraceStart.{TraceStart}
use Rattle.phys.specs.declared.TraceEndBoundary.{TraceEndBoundary}
use Rattle.phys.specs.declared.TraceEndKind.{TraceEndKind}
use Rattle.phys.specs.declared.TraceEndKind.TheVariants.{Terminal, Boundary}
use Rattle.phys.specs.declared.TraceEnd.{TraceEnd}
use Rattle.phys.specs.declared.Trace.{Trace}
use Rattle.words.specs.Words.{flag_word, float_word, vector_words}
use Rattle.ffi_math.specs.FloatWords.{plane_given, plane_words}

-- ---- traces from words

abbrev pub float_at : List ℕ → ℕ → Float
float_at ws at = of_bits binary32 (get_or ws at 0)

abbrev pub point_at : List ℕ → ℕ → Vector3
point_at ws at = vector (float_at ws at) (float_at ws (at + 1)) (float_at ws (at + 2))

-- the contents that a code stands for, and Empty where it stands for none
abbrev pub contents_or : Option BspLeafContents → BspLeafContents
contents_or (Some c) = c
contents_or None = Empty

-- word 0: the code of the contents
unfoldable pub contents_given : List ℕ → BspLeafContents
contents_given ws = contents_or (contents_of (get_or ws 0 0))

-- words 2 to 5: the start's point and ratio
unfoldable pub start_given : List ℕ → TraceStart
start_given ws = start (point_at ws 2) (float_at ws 5)

-- words 6 to 15: the end's point; 0 for an end within a leaf, any other number for one on a plane; the ratio and the plane
unfoldable pub end_given : List ℕ → TraceEnd
end_given ws =
    cond (eqb (get_or ws 9 0) 0)
    (terminal (point_at ws 6))
    (boundary (point_at ws 6) (float_at ws 10)
    (plane_given (get_or ws 11 0) (float_at ws 12) (float_at ws 13) (float_at ws 14) (float_at ws 15)))

-- word 1: whether it started solid, which is any number but 0
unfoldable pub trace_given : List ℕ → Trace
trace_given ws = trace (start_given ws) (end_given ws) (contents_given ws) (not (eqb (get_or ws 1 0) 0))

-- ---- traces as words

-- 1, the ratio and the plane
unfoldable pub boundary_words : TraceEndBoundary → List ℕ
boundary_words b = 1 ∷ float_word b.ratio ∷ plane_words b.plane

-- 0 for an end within a leaf
abbrev pub kind_words : TraceEndKind → List ℕ
kind_words Terminal = 0 ∷ []
kind_words (Boundary b) = boundary_words b

-- the end's point and kind
unfoldable pub end_words : TraceEnd → List ℕ
end_words e = vector_words e.point ++ kind_words e.kind

-- contents, started solid, the start's point and ratio, the end
unfoldable pub trace_words : Trace → List ℕ
trace_words t =
    (code_of t.contents ∷ flag_word t.start_solid ∷ [])
    ++ vector_words t.start.point
    ++ (float_word t.start.ratio ∷ [])
    ++ end_words t.end

-- 0 and a trace's words, or the number of a refusal
abbrev pub joined_words : Answer Trace → List ℕ
joined_words (answer t) = 0 ∷ trace_words t
joined_words (refused n) = n ∷ []
