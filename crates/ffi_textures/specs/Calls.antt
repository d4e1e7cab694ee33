-- What the calls about textures say, and what they leave in the lent lists.
use Rattle.std.specs.Prelude.{Option, Some, None, ℕ, List, [], ◌∷◌}
use Rattle.format.specs.Answer.{mapped}
use Rattle.format.specs.Listed.{into}
use Rattle.words.specs.Words.{Written, Left, given, at_least, enough, listed_in, map_length, map_of, number_words}
use Rattle.texture_list.specs.Texture.{texture_of}
use Rattle.textures.specs.Access.{frame_texture, static_texture}
use Rattle.texture_list.specs.declared.answer.BspTexture.{BspTexture}
use Rattle.texture_numbers.specs.Numbers.{texture_numbers}

-- a frame's number in the file, by new number, group and place
unfoldable pub bsp_texture_frame : List ℕ → List ℕ → ℕ → ℕ → ℕ → List ℕ → Written
bsp_texture_frame s map number group place out =
    at_least map_length map out (at_least 1 out out (given (mapped number_words (frame_texture s (map_of map) number group place)) out))

-- a static texture's number in the file, by new number
unfoldable pub bsp_texture_static : List ℕ → List ℕ → ℕ → List ℕ → Written
bsp_texture_static s map number out = at_least map_length map out (at_least 1 out out (given (mapped number_words (static_texture s (map_of map) number)) out))

-- 1, the name's 16 bytes in two words, width, height; five zeros where there is no texture
abbrev pub texture_length : ℕ
texture_length = 5

abbrev pub texture_words : Option BspTexture → List ℕ
texture_words None = 0 ∷ 0 ∷ 0 ∷ 0 ∷ 0 ∷ []
texture_words (Some x) = 1 ∷ x.name_start ∷ x.name_end ∷ x.width ∷ x.height ∷ []

-- a texture by its number in the file
unfoldable pub bsp_texture : List ℕ → List ℕ → ℕ → List ℕ → Written
bsp_texture s map i out = at_least map_length map out (at_least texture_length out out (given (mapped texture_words (texture_of s (map_of map) i)) out))

-- the new numbers of all textures in the list, by their numbers in the file, and their count in `out`
unfoldable pub bsp_texture_numbers : List ℕ → List ℕ → List ℕ → List ℕ → Left
bsp_texture_numbers s map list out = enough map_length map list out (enough 1 out list out (listed_in (into (texture_numbers s (map_of map)) list) out))
