-- What each call says, and what it leaves in the lent list.
use Rattle.std.specs.Prelude.{ℕ, List, [], ◌∷◌, Float}
use Rattle.format.specs.Answer.{mapped, then_answer}
use Rattle.words.specs.Words.{Written, given, at_least, map_length, map_of}
use Rattle.walk.specs.Walk.{with_visits, point_walk}
use Rattle.nodes.specs.Tables.{leaf_table}
use Rattle.hull.specs.Hull.{hull_table}
use Rattle.ffi_hull.specs.Layout.{hull_asked, point_at, hull_from}
-- the code of the contents, and the visits
pub use Rattle.walk_words.specs.Layout.{contents_length, contents_words}

-- the leaf's number, and the visits
abbrev pub leaf_length : ℕ
leaf_length = 2

abbrev pub leaf_words : ℕ × ℕ → List ℕ
leaf_words a = a.0 ∷ a.1 ∷ []

unfoldable pub bsp_contents : List ℕ → List ℕ → List ℕ → List Float → List ℕ → Written
bsp_contents s map hull point out =
    at_least map_length map out (at_least hull_asked hull out (at_least 3 point out (at_least contents_length out out
    (given (mapped contents_words (then_answer (hull_from hull) (λ h.
    with_visits (point_walk (hull_table s (map_of map) h) h.node_id (point_at point 0))))) out))))

unfoldable pub bsp_find_leaf : List ℕ → List ℕ → ℕ → List Float → List ℕ → Written
bsp_find_leaf s map root point out =
    at_least map_length map out (at_least 3 point out (at_least leaf_length out out
    (given (mapped leaf_words (with_visits (point_walk (leaf_table s (map_of map)) root (point_at point 0)))) out)))
