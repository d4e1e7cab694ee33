-- The table of specs/Textures.antt, computed. Assumes nothing.
use mathlib.Core.List.{map}
use mathlib.Core.Path.{◌≡◌, refl}
use Rattle.format.specs.Field.{u32_at, i32_at, index_at}
use Rattle.records.specs.Number.{number_at, offset_at, offset_of}
use Rattle.sections.specs.Records.{records}
use Rattle.texture_list.specs.Name.{lowered, char_at, chars, is_ascii, same}
use Rattle.textures.specs.Count.{any}
use Rattle.textures.specs.Group.{sequenced}
use Rattle.texture_list.specs.List.{textures_at, listed, listed_at, texture_at, pictures_at, stop_of, names_of}
use Rattle.textures.specs.Section.{textures}
use Rattle.file_table.specs.Textures.{trials}

pub all_hold : map (λ t. t.definition) trials ≡ map (λ t. t.note) trials
unfolding trials textures textures_at listed listed_at texture_at pictures_at stop_of is_ascii u32_at i32_at index_at number_at offset_at offset_of records sequenced any names_of chars char_at lowered same
all_hold = refl
