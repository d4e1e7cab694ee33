-- The new numbers of all textures of a map record, loaded or made by hand, in one call (Note 2).
use Rattle.std.specs.Prelude.{ℕ, List}
use Rattle.format.specs.Answer.{Answer, answer}
use Rattle.format.specs.declared.section.BspData.{BspData}
use Rattle.textures.specs.Access.{names_in, of_sound}
use Rattle.textures.specs.Count.{values_below}
use Rattle.textures.specs.Group.{numbered_by}

-- the new number of every texture, by its number in the file; 23 where the section does not read
unfoldable pub texture_numbers : List ℕ → BspData → Answer (List ℕ)
texture_numbers s m = of_sound s m (answer (values_below (numbered_by (names_in s m) m.texture_count) m.texture_count))
