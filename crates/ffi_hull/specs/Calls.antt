-- What each call says, and what it leaves in the lent list.
use Rattle.std.specs.Prelude.{ℕ, List, Float}
use Rattle.format.specs.Answer.{mapped}
use Rattle.words.specs.Words.{Written, given, at_least, map_length, map_of}
use Rattle.hull.specs.Hull as Hull
use Rattle.hull.specs.Hull.{for_bounds}
use Rattle.ffi_hull.specs.Layout.{hull_length, point_at, hull_words}

unfoldable pub bsp_hull : List ℕ → List ℕ → ℕ → ℕ → List ℕ → Written
bsp_hull s map model i out = at_least map_length map out (at_least hull_length out out (given (mapped hull_words (Hull.hull s (map_of map) model i)) out))

unfoldable pub bsp_box : List Float → List ℕ → Written
bsp_box bounds out = at_least 6 bounds out (at_least hull_length out out (given (mapped hull_words (for_bounds (point_at bounds 0) (point_at bounds 3))) out))
