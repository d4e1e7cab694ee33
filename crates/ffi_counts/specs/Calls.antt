-- What each call says, and what it leaves in the lent list.
use Rattle.std.specs.Prelude.{ℕ, Option, Some, None, List, [], ◌∷◌}
use Rattle.format.specs.Answer.{Answer, answer, refused, mapped}
use Rattle.format.specs.Section.{section_of, section_numbered, record_count}
use Rattle.format.specs.declared.section.BspData.{BspData}
use Rattle.format.specs.declared.section.BspFileSectionId.{BspFileSectionId}
use Rattle.words.specs.Words.{Written, given, at_least, number_words, map_length, map_of}
use Rattle.models.specs.Text.{entities_of}
use Rattle.models.specs.declared.text.Part.{Part}

-- how many records a section has, or 20 where there is none of the number
abbrev pub count_in : Option BspFileSectionId → BspData → Answer ℕ
count_in (Some id) m = answer (record_count id (section_of id m))
count_in None m = refused 20

unfoldable pub bsp_count : List ℕ → ℕ → List ℕ → Written
bsp_count map section out = at_least map_length map out (at_least 1 out out (given (mapped number_words (count_in (section_numbered section) (map_of map))) out))

-- where the entity text lies, and its length
abbrev pub part_length : ℕ
part_length = 2

abbrev pub part_words : Part → List ℕ
part_words p = p.offset ∷ p.size ∷ []

unfoldable pub bsp_entities : List ℕ → List ℕ → List ℕ → Written
bsp_entities s map out = at_least map_length map out (at_least part_length out out (given (mapped part_words (entities_of s (map_of map))) out))
