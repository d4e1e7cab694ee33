-- Note 10 about hulls: with the built-in sizes a hull is that of the Rust; with any sizes, those of a file or others, it differs from that in
-- its bounds alone, and hull 0 does not; and what is answered from a hull of a model does not depend on the sizes. For every file and map
-- record, loaded or not. proofs/AnySizes.antt proves `AsWithout` and `AnySizes`.
use Rattle.std.specs.Prelude.{ℕ, List, ◌≡◌}
use Rattle.format.specs.Answer.{Answer, answer, refused, mapped, then_answer}
use Rattle.format.specs.declared.contents.BspLeafContents.{BspLeafContents}
use Rattle.format.specs.declared.section.BspData.{BspData}
use Rattle.math.specs.Vector.{vector, zero32}
use Rattle.math.specs.declared.vector.Vector3.{Vector3}
use Rattle.walk.specs.Table.{Table}
use Rattle.walk.specs.Walk.{with_visits, point_walk}
use Rattle.walk.specs.Tracing as Tracing
use Rattle.nodes.specs.Tables.{End, leaf_table}
use Rattle.sizes.specs.Sizes.{bounds}
use Rattle.sizes.specs.declared.Bounds.{Bounds}
use Rattle.sizes.specs.declared.BodySizes.{BodySizes}
use Rattle.hull.specs.Hull as Hull
use Rattle.hull.specs.Hull.{hull_table, HullChecked, check_hull}
use Rattle.hull.specs.Sizes.{Zeros}
use Rattle.hull.specs.declared.collision.BspCollisionHull.{BspCollisionHull}
use Rattle.sized_hulls.specs.Sized.{hull_sized, built_in_sizes}

-- ---- beside `hull`

abbrev pub bounds_of : BspCollisionHull → Bounds
bounds_of h = bounds h.mins h.maxs

abbrev pub no_bounds : Bounds
no_bounds = bounds (vector zero32 zero32 zero32) (vector zero32 zero32 zero32)

-- the two hulls agree on all but their bounds
pub record SameButBounds (a b : BspCollisionHull) : Type 0 where
  pub same_table : a.table ≡ b.table
  pub same_root : a.node_id ≡ b.node_id
  pub same_count : a.node_count ≡ b.node_count
  pub same_nodes : a.tree_nodes ≡ b.tree_nodes
  pub same_height : a.tree_height ≡ b.tree_height

pub record AsWithout (s : List ℕ) (m : BspData) (z : BodySizes) (i : ℕ) : Type 0 where
  pub built_in : (j : ℕ) → hull_sized s m built_in_sizes i j ≡ Hull.hull s m i j
  pub refused_too : (j n : ℕ) → Hull.hull s m i j ≡ refused n → hull_sized s m z i j ≡ refused n
  pub answered_too : (j : ℕ) (a : BspCollisionHull) → Hull.hull s m i j ≡ answer a
      → (b : BspCollisionHull) × (hull_sized s m z i j ≡ answer b) × SameButBounds a b
  pub size_unknown : (j : ℕ) (b : BspCollisionHull) → hull_sized s m z i j ≡ answer b → Zeros b
  pub hull_0 : hull_sized s m z i 0 ≡ Hull.hull s m i 0
  pub bounds_0 : (b : BspCollisionHull) → hull_sized s m z i 0 ≡ answer b → bounds_of b ≡ no_bounds
  pub bounds_1 : (b : BspCollisionHull) → hull_sized s m z i 1 ≡ answer b → bounds_of b ≡ z.hull_1
  pub bounds_2 : (b : BspCollisionHull) → hull_sized s m z i 2 ≡ answer b → bounds_of b ≡ z.hull_2

-- ---- beside other sizes

-- what is answered from a hull's table and root
abbrev pub from : {A : Type 0} → List ℕ → BspData → (Table End BspLeafContents → ℕ → Answer A) → BspCollisionHull → Answer A
from s m f h = f (hull_table s m h) h.node_id

-- the number of nodes and the height that the check of a hull fills
abbrev pub tree_size : BspCollisionHull → ℕ × ℕ
tree_size h = (h.tree_nodes, h.tree_height)

-- the check of two hulls: refused alike, or both filled with the same size; the marks are left alike
pub record SameCheck (a b : HullChecked) : Type 0 where
  pub same_size : mapped tree_size a.answer ≡ mapped tree_size b.answer
  pub same_marks : a.marks ≡ b.marks

-- with the sizes y and with the sizes z
pub record AnySizes (s : List ℕ) (m : BspData) (y z : BodySizes) (i j : ℕ) : Type 1 where
  -- whatever is answered, refusals included
  pub whatever : {A : Type 0} (f : Table End BspLeafContents → ℕ → Answer A)
      → then_answer (hull_sized s m y i j) (from s m f) ≡ then_answer (hull_sized s m z i j) (from s m f)
  pub contents : (p : Vector3)
      → then_answer (hull_sized s m y i j) (λ h. with_visits (point_walk (hull_table s m h) h.node_id p))
      ≡ then_answer (hull_sized s m z i j) (λ h. with_visits (point_walk (hull_table s m h) h.node_id p))
  pub leaf : (p : Vector3)
      → then_answer (hull_sized s m y i j) (λ h. with_visits (point_walk (leaf_table s m) h.node_id p))
      ≡ then_answer (hull_sized s m z i j) (λ h. with_visits (point_walk (leaf_table s m) h.node_id p))
  pub trace : (start end : Vector3)
      → then_answer (hull_sized s m y i j) (λ h. with_visits (Tracing.trace (hull_table s m h) h.node_id start end))
      ≡ then_answer (hull_sized s m z i j) (λ h. with_visits (Tracing.trace (hull_table s m h) h.node_id start end))
  pub check : (a b : BspCollisionHull) → hull_sized s m y i j ≡ answer a → hull_sized s m z i j ≡ answer b
      → (marks : List ℕ) → SameCheck (check_hull s m a marks) (check_hull s m b marks)
