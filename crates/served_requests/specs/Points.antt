-- Request 7 at the calls that a server makes: for every file for which bsp_load answers 0, every table and root for which bsp_tree_check answers 0 on the map
-- words that bsp_load wrote, every hull of that table and root and every list of up to 1,024 points, whatever the floats: bsp_contents_points answers 0,
-- writes the contents code of each point, which its own walk answers, and the number of different nodes that the points meet. proofs/Points.antt proves
-- `EveryPoint`; points_tree/specs/EveryPoint.antt says it of the definition.
--
--   every hull          every nine words or more whose table and root are those that were checked: as bsp_hull or bsp_box wrote them, or made by hand
--   its own walk        `point_walk` of the hull of these words, the definition behind bsp_contents
use Rattle.std.specs.Prelude.{ℕ, ◌≤◌, false, List, ◌++◌, map, ◌≡◌, Float, length, drop}
use Rattle.format.specs.Answer.{answer}
use Rattle.format.specs.Contents.{code_of}
use Rattle.format.specs.declared.contents.BspLeafContents.{BspLeafContents}
use Rattle.walk.specs.Walk.{point_walk}
use Rattle.hull.specs.Hull as Hull
use Rattle.hull.specs.declared.collision.BspCollisionHull.{BspCollisionHull}
use Rattle.ways.specs.Ways.{answer_of, nodes_met}
use Rattle.points.specs.Points.{points_of, not_points}
use Rattle.words.specs.Words.{map_of}
use Rattle.ffi_hull.specs.Layout.{hull_from}
use Rattle.ffi_points.specs.Calls.{bsp_contents_points}
use Rattle.served.specs.Cited.{bsp_load, bsp_tree_check}
use Rattle.served.specs.NamedWords.{word, hull_asked, hull_table, hull_root}
use Rattle.served.specs.EveryCall.{map_written}

-- of `out` of bsp_contents_points: how often a node was read
abbrev pub nodes_read : List ℕ → ℕ
nodes_read = word 0

module _ (s m hull : List ℕ) (points : List Float) (list out : List ℕ) where
  pub record Answered : Type 0 where
    -- the hull of the words
    pub h : BspCollisionHull
    pub is_hull : hull_from hull ≡ answer h
    -- every point is answered alone, with these contents
    pub contents : List BspLeafContents
    pub alone : map (λ p. answer_of (point_walk (Hull.hull_table s (map_of m) h) h.node_id p)) (points_of points) ≡ map answer contents
    -- the call answers 0
    pub answers : (bsp_contents_points s m hull points list out).status ≡ 0
    -- it leaves their codes at the front of the list, and keeps what comes after them
    pub codes : (bsp_contents_points s m hull points list out).list ≡ map code_of contents ++ drop (length (map code_of contents)) list
    -- and writes the number of different nodes met
    pub reads : nodes_read (bsp_contents_points s m hull points list out).out ≡ nodes_met (Hull.hull_table s (map_of m) h) h.node_id (points_of points)

abbrev pub EveryPoint : Type 0
EveryPoint =
    (s lent : List ℕ) → (bsp_load s lent).status ≡ 0
    → (table root : ℕ) (marks height : List ℕ) → (bsp_tree_check s (map_written s lent) table root marks height).status ≡ 0
    → (hull : List ℕ) → hull_asked ≤ length hull → hull_table hull ≡ table → hull_root hull ≡ root
    → (points : List Float) → not_points points ≡ false → (list : List ℕ) → length (points_of points) ≤ length list → (out : List ℕ) → 1 ≤ length out
    → Answered s (map_written s lent) hull points list out
