-- Demand 3, for the tables of one file: for either node table and every root that passed the tree check, whatever the floats, every walk
-- and trace is answered, its visits are the length of the list of nodes entered, each of them is in the root's tree, none twice, and a
-- point or leaf walk is no longer than the tree's height. proofs/Demand3.antt proves it, for every file, map record, table and root whose
-- planes and leaves can be read, by one argument over the tables.
-- The words of it: the root's tree is `InTree` of Tree.antt in `walk`; walks and traces with the nodes that they enter, in order, are
-- Walk.antt and Trace.antt there; 'answered', 'visits', 'in the root's tree' and 'none twice' are the fields of `Answered`, and
-- 'no longer than the height' that of `AnsweredWithin`, both of Demand3.antt there.
use Rattle.std.specs.Prelude.{ℕ, List, ◌≡◌}
use Rattle.format.specs.Answer.{answer}
use Rattle.format.specs.declared.section.BspData.{BspData}
use Rattle.math.specs.declared.vector.Vector3.{Vector3}
use Rattle.walk.specs.Walk.{point_walk}
use Rattle.walk.specs.Tracing as Tracing
use Rattle.walk.specs.TreeCheck.{tree_check}
use Rattle.walk.specs.Tree.{Height}
use Rattle.walk.specs.Demand3.{Answered, AnsweredWithin}
use Rattle.nodes.specs.Tables.{nodes_of, table_of, leaf_table}
use Rattle.nodes.specs.declared.table.HullTable.{HullTable}
use Rattle.nodes.specs.declared.table.HullTable.TheVariants.{Render}
use Rattle.tree.specs.Readable.{Floats}

-- the root passed the tree check with the answer h, whatever marks were lent
pub record Passed (s : List ℕ) (m : BspData) (table : HullTable) (root h : ℕ) : Type 0 where
  pub marks : List ℕ
  pub passed : (tree_check (nodes_of s m table) marks root).answer ≡ answer h

-- demand 3's conclusion for the root; the bounds mins and maxs are those of a box, and other tables do not look at them
pub record Demand3 (s : List ℕ) (m : BspData) (table : HullTable) (root h : ℕ) : Type 0 where
  -- h is the height of the root's tree
  pub height : Height (nodes_of s m table) root h
  -- point contents, for every point
  pub contents : (mins maxs p : Vector3) → AnsweredWithin (nodes_of s m table) root h (point_walk (table_of s m table mins maxs) root p)
  -- leaf lookup, for every point
  pub leaf : table ≡ Render → (p : Vector3) → AnsweredWithin (nodes_of s m table) root h (point_walk (leaf_table s m) root p)
  -- the trace, for every segment
  pub trace : (mins maxs start end : Vector3) → Floats mins → Floats maxs → Floats start → Floats end
      → Answered (nodes_of s m table) root (Tracing.trace (table_of s m table mins maxs) root start end)
