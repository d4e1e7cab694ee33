-- For the contracts of functions that no other crate can name; a reader of the calls may leave this file out.
-- What is left of one point once the lists of the call are long enough.
use Rattle.std.specs.Prelude.{ℕ, List, [], ◌∷◌}
use Rattle.format.specs.Answer.{mapped}
use Rattle.format.specs.Contents.{code_of}
use Rattle.format.specs.declared.contents.BspLeafContents.{BspLeafContents}
use Rattle.format.specs.declared.section.BspData.{BspData}
use Rattle.math.specs.declared.vector.Vector3.{Vector3}
use Rattle.words.specs.Words.{Left, listed_in}
use Rattle.hull.specs.declared.collision.BspCollisionHull.{BspCollisionHull}
use Rattle.points.specs.Points.{filled}
use Rattle.ffi_walks.specs.Quick.{contents_asked}

-- its code, and its visits
abbrev pub its_code : BspLeafContents × ℕ → List ℕ × ℕ
its_code a = (code_of a.0 ∷ [], a.1)

abbrev pub one_told : List ℕ → BspData → BspCollisionHull → Vector3 → List ℕ → List ℕ → Left
one_told s m h p list out = listed_in (filled (mapped its_code (contents_asked s m h p)) list) out
