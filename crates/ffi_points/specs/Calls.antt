-- What the call says, and what it leaves in the two lent lists: the codes at the front of one, the reads in the other.
use Rattle.std.specs.Prelude.{ℕ, cond, List, Float, length}
use Rattle.format.specs.Answer.{then_answer}
use Rattle.words.specs.Words.{Left, left, enough, listed_in, map_length, map_of}
use Rattle.hull.specs.Hull.{hull_table}
use Rattle.points.specs.Points.{points_of, not_points, codes_and_reads, filled}
use Rattle.ffi_hull.specs.Layout.{hull_asked, hull_from}

unfoldable pub bsp_contents_points : List ℕ → List ℕ → List ℕ → List Float → List ℕ → List ℕ → Left
bsp_contents_points s map hull points list out =
    cond (not_points points) (left 24 list out)
    (enough map_length map list out (enough hull_asked hull list out (enough 1 out list out (enough (length (points_of points)) list list out
    (listed_in (filled (then_answer (hull_from hull) (λ h.
    codes_and_reads (hull_table s (map_of map) h) h.node_id (points_of points))) list) out)))))
