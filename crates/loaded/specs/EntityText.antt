-- The order of two refusals of loading: an entity text that is too long (8) is not looked at for its encoding (9).
use Rattle.std.specs.Prelude.{ℕ, true, List, ◌≡◌, ltb, length}
use Rattle.format.specs.Step.{refused}
use Rattle.format.specs.declared.section.BspFileSection.{BspFileSection}
use Rattle.load.specs.Entities.{text_of, entities}

abbrev pub TooLongFirst : Type 0
TooLongFirst = (s : List ℕ) (z : BspFileSection) → ltb 65536 (length (text_of s z.offset)) ≡ true → entities s z ≡ refused 8
