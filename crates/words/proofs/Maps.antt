-- The words of a map record are read back as they were. Assumes nothing.
use mathlib.Core.Path.{◌≡◌, refl}
use Rattle.format.specs.declared.section.BspData.{BspData}
use Rattle.words.specs.Words.{map_of, map_words}

pub read_back : (m : BspData) → map_of (map_words m) ≡ m
read_back m = refl
