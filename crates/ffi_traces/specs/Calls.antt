-- What the call says, and what it leaves in the lent list.
use Rattle.std.specs.Prelude.{ℕ, List, Float}
use Rattle.format.specs.Answer.{mapped, then_answer}
use Rattle.words.specs.Words.{Written, given, at_least, map_length, map_of}
use Rattle.walk.specs.Walk.{with_visits}
use Rattle.walk.specs.Tracing as Tracing
use Rattle.hull.specs.Hull.{hull_table}
use Rattle.ffi_hull.specs.Layout.{hull_asked, point_at, hull_from}
use Rattle.ffi_traces.specs.Layout.{trace_length, trace_words}

unfoldable pub bsp_trace : List ℕ → List ℕ → List ℕ → List Float → List ℕ → Written
bsp_trace s map hull segment out =
    at_least map_length map out (at_least hull_asked hull out (at_least 6 segment out (at_least trace_length out out
    (given (mapped trace_words (then_answer (hull_from hull) (λ h.
    with_visits (Tracing.trace (hull_table s (map_of map) h) h.node_id (point_at segment 0) (point_at segment 3))))) out))))
