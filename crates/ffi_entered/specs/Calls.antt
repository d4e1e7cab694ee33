-- What each call says, and what it leaves in the two lent lists: the nodes entered at the front of one, their count in the other.
use Rattle.std.specs.Prelude.{ℕ, List, Float}
use Rattle.format.specs.Answer.{then_answer}
use Rattle.format.specs.Listed.{into}
use Rattle.words.specs.Words.{Left, enough, listed_in, map_length, map_of}
use Rattle.walk.specs.Walk.{point_walk}
use Rattle.walk.specs.Tracing as Tracing
use Rattle.nodes.specs.Tables.{leaf_table}
use Rattle.hull.specs.Hull.{hull_table}
use Rattle.entered.specs.Lists.{nodes_entered}
use Rattle.ffi_hull.specs.Layout.{hull_asked, point_at, hull_from}

unfoldable pub bsp_contents_nodes : List ℕ → List ℕ → List ℕ → List Float → List ℕ → List ℕ → Left
bsp_contents_nodes s map hull point list out =
    enough map_length map list out (enough hull_asked hull list out (enough 3 point list out (enough 1 out list out
    (listed_in (into (then_answer (hull_from hull) (λ h.
    nodes_entered (point_walk (hull_table s (map_of map) h) h.node_id (point_at point 0)))) list) out))))

unfoldable pub bsp_find_leaf_nodes : List ℕ → List ℕ → ℕ → List Float → List ℕ → List ℕ → Left
bsp_find_leaf_nodes s map root point list out =
    enough map_length map list out (enough 3 point list out (enough 1 out list out
    (listed_in (into (nodes_entered (point_walk (leaf_table s (map_of map)) root (point_at point 0))) list) out)))

unfoldable pub bsp_trace_nodes : List ℕ → List ℕ → List ℕ → List Float → List ℕ → List ℕ → Left
bsp_trace_nodes s map hull segment list out =
    enough map_length map list out (enough hull_asked hull list out (enough 6 segment list out (enough 1 out list out
    (listed_in (into (then_answer (hull_from hull) (λ h.
    nodes_entered (Tracing.trace (hull_table s (map_of map) h) h.node_id (point_at segment 0) (point_at segment 3)))) list) out))))
