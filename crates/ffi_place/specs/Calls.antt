-- What the call about the place of a refusal says, and what it leaves in the lent list; the library's version.
use Rattle.std.specs.Prelude.{ℕ, ◌+◌, ◌*◌, List, [], ◌∷◌}
use Rattle.format.specs.Answer.{answer, mapped}
use Rattle.words.specs.Words.{Written, given, at_least}
use Rattle.place.specs.Place.{Located, loads, refused_at, place_of}

-- the refusal's number, the section, the record and the byte; zeros where the file loads
abbrev pub place_length : ℕ
place_length = 4

abbrev pub place_words : Located → List ℕ
place_words loads = 0 ∷ 0 ∷ 0 ∷ 0 ∷ []
place_words (refused_at n z here) = n ∷ z ∷ here.index ∷ here.byte ∷ []

unfoldable pub bsp_load_place : List ℕ → List ℕ → Written
bsp_load_place s out = at_least place_length out out (given (mapped place_words (answer (place_of s))) out)

-- version 0.2.0
abbrev pub bsp_version : ℕ
bsp_version = 0 * 65536 + 2 * 256 + 0
