-- What is said at once of a point, where the file has all nodes and planes: what the walk answers.
use Rattle.std.specs.Prelude.{ℕ, cond, List, length, Option, Some, None}
use Rattle.format.specs.Answer.{Answer, answer, refused}
use Rattle.format.specs.Contents.{code_of}
use Rattle.format.specs.declared.contents.BspLeafContents.{BspLeafContents}
use Rattle.format.specs.declared.section.BspData.{BspData}
use Rattle.math.specs.declared.vector.Vector3.{Vector3}
use Rattle.walk.specs.Walk.{with_visits, point_walk}
use Rattle.nodes.specs.Fast.{tables_of}
use Rattle.nodes.specs.Walks.{are_whole}
use Rattle.hull.specs.Hull.{hull_table}
use Rattle.hull.specs.declared.collision.BspCollisionHull.{BspCollisionHull}

-- what is asked: the contents at a point of a hull, and the visits
abbrev pub contents_asked : List ℕ → BspData → BspCollisionHull → Vector3 → Answer (BspLeafContents × ℕ)
contents_asked s m h p = with_visits (point_walk (hull_table s m h) h.node_id p)

-- what is made of an answer; nothing of a refusal
abbrev pub answered : {A B : Type 0} → (A → B) → Answer A → Option B
answered f (answer a) = Some (f a)
answered f (refused n) = None

-- the code of the contents, and the visits
abbrev pub code_and_visits : BspLeafContents × ℕ → ℕ × ℕ
code_and_visits a = (code_of a.0, a.1)

-- where the file has all nodes and planes of the hull's table (never of a box) and the walk is answered; else nothing
unfoldable pub contents_at_once : List ℕ → BspData → BspCollisionHull → Vector3 → Option (ℕ × ℕ)
contents_at_once s m h p =
    cond (are_whole (tables_of m h.table h.mins h.maxs) (length s)) (answered code_and_visits (contents_asked s m h p)) None
