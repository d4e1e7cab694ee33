-- Demand 3, word by word: "For every file that loads, either node table and every root that passed the tree check, whatever the floats: every walk and trace
-- is answered, its visits are the length of the list of nodes entered, each of them is in the root's tree, none twice, and a point or leaf walk is no longer
-- than the tree's height."
--
--   every file that loads           `load` answers the map record m for the bytes s: its contract's definition, `load_of`
--   either node table               every `HullTable`: render nodes and clip nodes (a box's six nodes too)
--   passed the tree check           `tree_check` answers the height h, whatever marks were lent: its contract's definition, `tree_check`
--   whatever the floats             every point and every segment of f32 numbers
--   answered, visits, in the root's tree, none twice    the fields of `Answered` (walk/specs/Demand3.antt)
--   no longer than the height       `AnsweredWithin` there
--
-- The walks and traces are the definitions in the contracts of `contents_at_point`, `find_leaf`, `find_leaf_from` and `trace`, on the same bytes and map record.
use Rattle.std.specs.Prelude.{ℕ, List, ◌≡◌}
use Rattle.format.specs.Answer.{answer}
use Rattle.format.specs.declared.section.BspData.{BspData}
use Rattle.math.specs.declared.vector.Vector3.{Vector3}
use Rattle.walk.specs.Walk.{point_walk}
use Rattle.walk.specs.Tracing as Tracing
use Rattle.walk.specs.TreeCheck.{tree_check}
use Rattle.walk.specs.Demand3.{Answered, AnsweredWithin}
use Rattle.nodes.specs.Tables.{nodes_of, leaf_table}
use Rattle.nodes.specs.declared.table.HullTable.{HullTable}
use Rattle.nodes.specs.declared.table.HullTable.TheVariants.{Render}
use Rattle.hull.specs.Hull.{hull_table}
use Rattle.hull.specs.declared.collision.BspCollisionHull.{BspCollisionHull}
use Rattle.tree.specs.Readable.{Floats}
use Rattle.loaded.specs.Demand3.{Demand3}
use Rattle.load.specs.Load.{load_of}

-- for every file that loads, each table and each root that passed
abbrev pub EveryTable : Type 0
EveryTable =
    (s : List ℕ) (m : BspData) → load_of s ≡ answer m
    → (table : HullTable) (marks : List ℕ) (root h : ℕ) → (tree_check (nodes_of s m table) marks root).answer ≡ answer h
    → Demand3 s m table root h

-- the same about the calls: a hull record whose root passed, made by `hull`, by `for_bounds` or by hand
pub record Calls (s : List ℕ) (m : BspData) (hull : BspCollisionHull) (h : ℕ) : Type 0 where
  -- `contents_at_point`
  pub contents : (p : Vector3) → AnsweredWithin (nodes_of s m hull.table) hull.node_id h (point_walk (hull_table s m hull) hull.node_id p)
  -- `find_leaf` (from node 0) and `find_leaf_from`
  pub leaf : hull.table ≡ Render → (p : Vector3) → AnsweredWithin (nodes_of s m hull.table) hull.node_id h (point_walk (leaf_table s m) hull.node_id p)
  -- `trace`
  pub trace : Floats hull.mins → Floats hull.maxs → (start end : Vector3) → Floats start → Floats end
      → Answered (nodes_of s m hull.table) hull.node_id (Tracing.trace (hull_table s m hull) hull.node_id start end)

abbrev pub EveryHull : Type 0
EveryHull =
    (s : List ℕ) (m : BspData) → load_of s ≡ answer m
    → (hull : BspCollisionHull) (marks : List ℕ) (h : ℕ) → (tree_check (nodes_of s m hull.table) marks hull.node_id).answer ≡ answer h
    → Calls s m hull h
