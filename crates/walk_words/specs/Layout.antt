-- The words of what walks and traces answer.
use Rattle.std.specs.Prelude.{ℕ, Bool, Float, List, [], ◌∷◌, ◌++◌}
use Rattle.format.specs.Contents.{code_of}
use Rattle.format.specs.declared.contents.BspLeafContents.{BspLeafContents}
use Rattle.math.specs.declared.vector.Vector3.{Vector3}
use Rattle.phys.specs.declared.TraceEndBoundary.{TraceEndBoundary}
use Rattle.phys.specs.declared.TraceEndKind.{TraceEndKind}
use Rattle.phys.specs.declared.TraceEndKind.TheVariants.{Terminal, Boundary}
use Rattle.phys.specs.declared.Trace.{Trace}
use Rattle.words.specs.Words.{flag_word, float_word, vector_words, plane_words}

-- the code of the contents, and the visits
abbrev pub contents_length : ℕ
contents_length = 2

abbrev pub contents_words : BspLeafContents × ℕ → List ℕ
contents_words a = code_of a.0 ∷ a.1 ∷ []

-- ---- a trace

-- 1, the ratio and the plane
abbrev pub boundary_words : TraceEndBoundary → List ℕ
boundary_words b = (1 ∷ float_word b.ratio ∷ []) ++ plane_words b.plane

-- 0 and zeros for an end within a leaf
abbrev pub kind_words : TraceEndKind → List ℕ
kind_words Terminal = 0 ∷ 0 ∷ 0 ∷ 0 ∷ 0 ∷ 0 ∷ 0 ∷ []
kind_words (Boundary b) = boundary_words b

-- visits, contents, started solid, the start's point and ratio, the end's point and kind
abbrev pub trace_length : ℕ
trace_length = 17

abbrev pub trace_words : Trace × ℕ → List ℕ
trace_words a =
    (a.1 ∷ code_of a.0.contents ∷ flag_word a.0.start_solid ∷ [])
    ++ vector_words a.0.start.point
    ++ (float_word a.0.start.ratio ∷ [])
    ++ vector_words a.0.end.point
    ++ kind_words a.0.end.kind

-- the same, by the parts: the visits, the contents, started solid, the start's point and ratio, the end's point and the words of its kind
abbrev pub parts_words : ℕ → BspLeafContents → Bool → Vector3 → Float → Vector3 → List ℕ → List ℕ
parts_words visits contents start_solid from ratio to kind =
    (visits ∷ code_of contents ∷ flag_word start_solid ∷ [])
    ++ vector_words from
    ++ (float_word ratio ∷ [])
    ++ vector_words to
    ++ kind
