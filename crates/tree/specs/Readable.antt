-- What laws about the tables of a file ask of it: that its planes and leaves can be read; and what they ask of a point.
use Rattle.std.specs.Prelude.{ℕ, ◌<◌, List, ◌≡◌, T}
use Rattle.std.specs.Float.{binary32}
use Rattle.std.specs.Float.Ieee.{fits}
use Rattle.format.specs.Answer.{answer}
use Rattle.format.specs.Section.{record_count}
use Rattle.format.specs.declared.section.BspData.{BspData}
use Rattle.format.specs.declared.section.BspFileSectionId.TheVariants.{Planes, Leaves}
use Rattle.math.specs.declared.vector.Vector3.{Vector3}
use Rattle.math.specs.declared.plane.Hyperplane.{Hyperplane}
use Rattle.records.specs.Plane.{plane_of}
use Rattle.records.specs.Leaf.{leaf_of}
use Rattle.records.specs.declared.leaf.BspLeaf.{BspLeaf}

-- The planes and leaves of the file s, with the map record m, can be read, as can those of every file that loads. (The check itself
-- reads the nodes.)
pub record Readable (s : List ℕ) (m : BspData) : Type 0 where
  pub planes : (i : ℕ) → i < record_count Planes m.planes → (h : Hyperplane) × (plane_of s m i ≡ answer h)
  pub leaves : (i : ℕ) → i < record_count Leaves m.leaves → (l : BspLeaf) × (leaf_of s m i ≡ answer l)

-- a point of three f32, as every point in a program is
pub record Floats (p : Vector3) : Type 0 where
  pub x_float : T (fits binary32 p.x)
  pub y_float : T (fits binary32 p.y)
  pub z_float : T (fits binary32 p.z)
