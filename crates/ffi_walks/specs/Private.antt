-- For the contracts of functions that no other crate can name; a reader of the calls may leave this file out.
-- What the lookup of a leaf asks, and what is said of it at once; what is left of contents and of a leaf once a call's lists are long enough.
use Rattle.std.specs.Prelude.{ℕ, cond, List, length, Option, None}
use Rattle.format.specs.Answer.{Answer, mapped}
use Rattle.format.specs.declared.section.BspData.{BspData}
use Rattle.math.specs.declared.vector.Vector3.{Vector3}
use Rattle.walk.specs.Walk.{with_visits, point_walk}
use Rattle.nodes.specs.Fast.{tables_of}
use Rattle.nodes.specs.Tables.{leaf_table}
use Rattle.nodes.specs.Walks.{are_whole}
use Rattle.nodes.specs.declared.table.HullTable.TheVariants.{Render}
use Rattle.words.specs.Words.{Written, told}
use Rattle.hull.specs.declared.collision.BspCollisionHull.{BspCollisionHull}
use Rattle.ffi_walks.specs.Calls.{contents_words, leaf_words}
use Rattle.ffi_walks.specs.Quick.{answered, contents_asked}

abbrev pub leaf_asked : List ℕ → BspData → ℕ → Vector3 → Answer (ℕ × ℕ)
leaf_asked s m root p = with_visits (point_walk (leaf_table s m) root p)

-- where the file has all render nodes and planes and the walk is answered; else nothing
unfoldable pub leaf_at_once : List ℕ → BspData → ℕ → Vector3 → Option (ℕ × ℕ)
leaf_at_once s m root p = cond (are_whole (tables_of m Render p p) (length s)) (answered (λ a. a) (leaf_asked s m root p)) None

abbrev pub leaf_told : List ℕ → BspData → ℕ → Vector3 → List ℕ → Written
leaf_told s m root p out = told (mapped leaf_words (leaf_asked s m root p)) out

abbrev pub contents_told : List ℕ → BspData → BspCollisionHull → Vector3 → List ℕ → Written
contents_told s m h p out = told (mapped contents_words (contents_asked s m h p)) out
