-- Request 7, on a root that passed the tree check: "The reads reported equal .. on a root that passed the tree check, the number of different nodes met."
--
--   every file that loads      `load` answers the map record m for the bytes s: its contract's definition, `load_of`
--   passed the tree check      `tree_check` answers the height h, whatever marks were lent: its contract's definition, `tree_check`
--   the reads reported         what `contents_at_points` answers: its contract's definition, `contents_of_points`
--   different nodes met        `nodes_met` of ways/specs/Ways.antt: the nodes that the points' own walks enter, each counted once
use Rattle.std.specs.Prelude.{ℕ, ◌≤◌, false, List, ◌++◌, map, ◌≡◌, Float, length, drop}
use Rattle.format.specs.Answer.{answer}
use Rattle.format.specs.Contents.{code_of}
use Rattle.format.specs.Listed.{listed}
use Rattle.format.specs.declared.contents.BspLeafContents.{BspLeafContents}
use Rattle.format.specs.declared.section.BspData.{BspData}
use Rattle.walk.specs.Walk.{point_walk}
use Rattle.walk.specs.TreeCheck.{tree_check}
use Rattle.nodes.specs.Tables.{nodes_of}
use Rattle.hull.specs.Hull.{hull_table}
use Rattle.hull.specs.declared.collision.BspCollisionHull.{BspCollisionHull}
use Rattle.load.specs.Load.{load_of}
use Rattle.ways.specs.Ways.{answer_of, nodes_met}
use Rattle.points.specs.Points.{points_of, not_points, contents_of_points}

-- the coordinates cs of points, and a list with an entry for each of them
pub record Met (s : List ℕ) (m : BspData) (hull : BspCollisionHull) (cs : List Float) (lent : List ℕ) : Type 0 where
  pub contents : List BspLeafContents
  -- every point is answered alone, with these contents
  pub alone : map (λ p. answer_of (point_walk (hull_table s m hull) hull.node_id p)) (points_of cs) ≡ map answer contents
  -- the call answers the number of different nodes met, and leaves the codes of these contents
  pub call : contents_of_points (hull_table s m hull) hull.node_id cs lent
      ≡ listed (answer (nodes_met (hull_table s m hull) hull.node_id (points_of cs))) (map code_of contents ++ drop (length (map code_of contents)) lent)

abbrev pub EveryPoint : Type 0
EveryPoint =
    (s : List ℕ) (m : BspData) → load_of s ≡ answer m
    → (hull : BspCollisionHull) (marks : List ℕ) (h : ℕ) → (tree_check (nodes_of s m hull.table) marks hull.node_id).answer ≡ answer h
    → (cs : List Float) (lent : List ℕ) → not_points cs ≡ false → length (points_of cs) ≤ length lent
    → Met s m hull cs lent
