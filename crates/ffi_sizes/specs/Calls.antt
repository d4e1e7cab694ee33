-- What the two calls say, and what they leave in the lent list.
use Rattle.std.specs.Prelude.{ℕ, List}
use Rattle.format.specs.Answer.{mapped}
use Rattle.words.specs.Words.{Written, given, at_least, map_length, map_of}
use Rattle.sizes.specs.Sizes.{sizes_of}
use Rattle.sized_hulls.specs.Sized.{hull_sized}
use Rattle.ffi_hull.specs.Layout.{hull_length, hull_words}
use Rattle.ffi_sizes.specs.Layout.{sizes_length, sizes_words, sizes_from}

unfoldable pub bsp_body_sizes : List ℕ → List ℕ → Written
bsp_body_sizes s out = at_least sizes_length out out (given (mapped sizes_words (sizes_of s)) out)

unfoldable pub bsp_hull_sized : List ℕ → List ℕ → List ℕ → ℕ → ℕ → List ℕ → Written
bsp_hull_sized s map sizes model i out =
    at_least map_length map out (at_least sizes_length sizes out (at_least hull_length out out
    (given (mapped hull_words (hull_sized s (map_of map) (sizes_from sizes) model i)) out)))
