-- For the contracts of functions below the calls; a reader of the calls may leave this file out.
-- What `earliest_textures` answers, from which `texture_numbers` works out the new numbers; the letters of a group of frames.
use Rattle.std.specs.Prelude.{ℕ, cond, List}
use Rattle.format.specs.Answer.{Answer, answer}
use Rattle.format.specs.declared.section.BspData.{BspData}
use Rattle.textures.specs.Access.{names_in, of_sound}
use Rattle.textures.specs.Count.{lowest, values_below}
use Rattle.textures.specs.Group.{alike}
use Rattle.texture_list.specs.Name.{is_animated}
use Rattle.textures.specs.declared.frame.Group.{Group}
use Rattle.textures.specs.declared.frame.Group.TheVariants.{Primary, Alternate}

-- the first texture with the stem of texture i; 2^32 - 1 for a static texture, which has none
unfoldable pub earliest_by : (ℕ → List ℕ) → ℕ → ℕ → ℕ
earliest_by name n i = cond (is_animated (name i)) (lowest (alike is_animated name i) n) 4294967295

-- for every texture, by its number in the file, the first one with its stem
unfoldable pub earliest_textures : List ℕ → BspData → Answer (List ℕ)
earliest_textures s m = of_sound s m (answer (values_below (earliest_by (names_in s m) m.texture_count) m.texture_count))

-- the first of the ten letters of a group: 0 of the primary one, a of the alternate one
abbrev pub first_letter : Group → ℕ
first_letter Primary = 48
first_letter Alternate = 97
