-- For the contracts of functions that no other crate can name; a reader of the calls may leave this file out.
-- The map record of which only the planes are used.
use Rattle.std.specs.Prelude.{ℕ, List}
use Rattle.format.specs.declared.section.BspData.{BspData}
use Rattle.words.specs.Words.{section_in}
use Rattle.format.specs.Section.{no_map}

abbrev pub planes_map : List ℕ → BspData
planes_map ws = record no_map { planes = section_in ws 2 }
