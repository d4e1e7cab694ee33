-- What loading says, and what it leaves in the lent list.
use Rattle.std.specs.Prelude.{ℕ, List}
use Rattle.format.specs.Answer.{mapped}
use Rattle.words.specs.Words.{Written, given, at_least, map_length, map_words}
use Rattle.load.specs.Load.{load_of}

unfoldable pub bsp_load : List ℕ → List ℕ → Written
bsp_load s map = at_least map_length map map (given (mapped map_words (load_of s)) map)
