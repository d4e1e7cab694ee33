-- For the contracts of functions that no other crate can name; a reader of the calls may leave this file out.
-- The model of `Trees`: of which map it is, and what is true of each.
use Rattle.std.specs.Prelude.{◌≡◌, length}
use Rattle.nodes.specs.declared.table.HullTable.TheVariants.{Render, Clip}
use Rattle.accept.specs.Accept.{marks_for}
use Rattle.accept.specs.Fast.{Remembered}
use Rattle.accept.specs.OfMap.{OfMap}
use Rattle.accept.specs.declared.trees.Trees.TheInside.{Inside}

abbrev pub of_map : Inside → OfMap
of_map t = record { file = t.file.now; map = t.map }

-- one mark for each node of the larger node table, and the roots that are remembered have passed
pub record AreTrees (t : Inside) : Type 0 where
  pub marks : length t.marks.now ≡ marks_for t.map
  pub render : Remembered t.file.now t.map Render t.render
  pub clip : Remembered t.file.now t.map Clip t.clip
