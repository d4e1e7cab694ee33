-- Note 8 about the hull's record: beside the fields that the Rust has, it holds the number of nodes in the root's tree and the tree's height,
-- filled when the tree check passes and zero before it; a box's hull keeps zeros. For every file and map record, loaded or not, and every
-- hull record, also one made by hand. proofs/Sizes.antt proves `ZeroBefore` and, for each hull, `Checked`.
use Rattle.std.specs.Prelude.{ℕ, true, false, List, ◌≡◌}
use Rattle.format.specs.Answer.{answer, refused}
use Rattle.format.specs.declared.section.BspData.{BspData}
use Rattle.math.specs.declared.vector.Vector3.{Vector3}
use Rattle.walk.specs.Tree.{Height}
use Rattle.walk.specs.TreeCheck as TreeCheck
use Rattle.walk.specs.TreeCheck.{tree_check}
use Rattle.nodes.specs.Tables.{nodes_of, is_box}
use Rattle.tree.specs.Size.{NodeCount}
use Rattle.hull.specs.Hull as Hull
use Rattle.hull.specs.Hull.{for_bounds, check_hull}
use Rattle.hull.specs.declared.collision.BspCollisionHull.{BspCollisionHull}

-- the two hulls agree on the fields that the Rust has
pub record SameOld (a b : BspCollisionHull) : Type 0 where
  pub same_table : a.table ≡ b.table
  pub same_root : a.node_id ≡ b.node_id
  pub same_count : a.node_count ≡ b.node_count
  pub same_mins : a.mins ≡ b.mins
  pub same_maxs : a.maxs ≡ b.maxs

-- both new fields are zero
pub record Zeros (b : BspCollisionHull) : Type 0 where
  pub no_nodes : b.tree_nodes ≡ 0
  pub no_height : b.tree_height ≡ 0

-- they are zero in every hull that `hull` or `for_bounds` answers
pub record ZeroBefore : Type 0 where
  pub of_model : (s : List ℕ) (m : BspData) (model index : ℕ) (b : BspCollisionHull) → Hull.hull s m model index ≡ answer b → Zeros b
  pub of_box : (mins maxs : Vector3) (b : BspCollisionHull) → for_bounds mins maxs ≡ answer b → Zeros b

-- the hull b is the hull a with its tree's number of nodes and height; a box keeps zeros
pub record Filled (s : List ℕ) (m : BspData) (a b : BspCollisionHull) : Type 0 where
  pub old_fields : SameOld a b
  pub nodes : is_box a.table ≡ false → NodeCount (nodes_of s m a.table) a.node_id b.tree_nodes
  pub height : is_box a.table ≡ false → Height (nodes_of s m a.table) a.node_id b.tree_height
  pub box : is_box a.table ≡ true → Zeros b

-- what the tree check says of the hull's root
abbrev pub check_of : List ℕ → BspData → BspCollisionHull → List ℕ → TreeCheck.Checked
check_of s m a marks = tree_check (nodes_of s m a.table) marks a.node_id

-- `check_hull` of the hull a: marks and refusals are the tree check's, and where that passes the hull is filled
pub record Checked (s : List ℕ) (m : BspData) (a : BspCollisionHull) (marks : List ℕ) : Type 0 where
  pub marks_left : (check_hull s m a marks).marks ≡ (check_of s m a marks).marks
  pub refused_too : (r : ℕ) → (check_of s m a marks).answer ≡ refused r → (check_hull s m a marks).answer ≡ refused r
  pub passed_too : (h : ℕ) → (check_of s m a marks).answer ≡ answer h → (b : BspCollisionHull) × ((check_hull s m a marks).answer ≡ answer b) × Filled s m a b
