-- For the contracts of functions that no other crate can name; a reader of the calls may leave this file out.
-- What is left of a whole line once a call's lists are long enough.
use Rattle.std.specs.Prelude.{ℕ, List}
use Rattle.format.specs.Answer.{mapped}
use Rattle.format.specs.declared.section.BspData.{BspData}
use Rattle.math.specs.declared.vector.Vector3.{Vector3}
use Rattle.words.specs.Words.{Written, told}
use Rattle.hull.specs.Hull.{hull_table}
use Rattle.hull.specs.declared.collision.BspCollisionHull.{BspCollisionHull}
use Rattle.line.specs.Line.{whole_line}
use Rattle.ffi_line.specs.Calls.{line_words}

abbrev pub line_told : List ℕ → BspData → BspCollisionHull → Vector3 → Vector3 → List ℕ → Written
line_told s m h p q out = told (mapped line_words (whole_line (hull_table s m h) h.node_id p q)) out
