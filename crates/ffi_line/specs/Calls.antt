-- The whole-line trace as words: what the call says, and what it leaves in the lent list.
use Rattle.std.specs.Prelude.{ℕ, List, [], ◌∷◌, ◌++◌, Float}
use Rattle.format.specs.Answer.{mapped, then_answer}
use Rattle.words.specs.Words.{Written, given, at_least, map_length, map_of, flag_word, float_word, vector_words}
use Rattle.hull.specs.Hull.{hull_table}
use Rattle.line.specs.Line.{whole_line}
use Rattle.line.specs.declared.state.LineTrace.{LineTrace}
use Rattle.ffi_hull.specs.Layout.{hull_asked, point_at, hull_from}

-- fraction, end point, the plane's normal and distance, all-solid, start-solid, in-open, in-water
abbrev pub line_length : ℕ
line_length = 12

abbrev pub line_words : LineTrace → List ℕ
line_words l =
    (float_word l.fraction ∷ [])
    ++ vector_words l.end
    ++ vector_words l.plane.normal
    ++ (float_word l.plane.dist ∷ flag_word l.all_solid ∷ flag_word l.start_solid ∷ flag_word l.in_open ∷ flag_word l.in_water ∷ [])

unfoldable pub bsp_trace_line : List ℕ → List ℕ → List ℕ → List Float → List ℕ → Written
bsp_trace_line s map hull segment out =
    at_least map_length map out (at_least hull_asked hull out (at_least 6 segment out (at_least line_length out out
    (given (mapped line_words (then_answer (hull_from hull) (λ h.
    whole_line (hull_table s (map_of map) h) h.node_id (point_at segment 0) (point_at segment 3)))) out))))
