-- Planes (`read_hyperplane`) and vertices.
use Rattle.std.specs.Prelude.{ℕ, cond, List, eqb, ℤ, pos, negsuc, Float}
use Rattle.math.specs.Plane.{axis_x, axis_y, axis_z, new_plane}
use Rattle.math.specs.declared.vector.Vector3.{Vector3}
use Rattle.math.specs.declared.plane.Hyperplane.{Hyperplane}
use Rattle.format.specs.Step.{Step, ok, and_then}
use Rattle.format.specs.Answer.{Answer}
use Rattle.format.specs.Field.{f32_at, i32_at}
use Rattle.format.specs.declared.section.BspData.{BspData}
use Rattle.format.specs.declared.section.BspFileSectionId.TheVariants.{Planes, Vertices}
use Rattle.records.specs.Access.{record_of}
use Rattle.records.specs.Triple.{vector_at}

-- a plane of type 0, 1 or 2 is an axis' and ignores its normal; any other goes through `Hyperplane::new`
unfoldable pub file_plane : ℤ → Vector3 → Float → Hyperplane
file_plane (pos kind) normal dist =
    cond (eqb kind 0) (axis_x dist)
    (cond (eqb kind 1) (axis_y dist)
    (cond (eqb kind 2) (axis_z dist)
    (new_plane normal dist)))
file_plane (negsuc kind) normal dist = new_plane normal dist

unfoldable pub plane_at : List ℕ → ℕ → Step Hyperplane
plane_at s at =
    and_then (vector_at s at) (λ normal p.
    and_then (f32_at s p) (λ dist q.
    and_then (i32_at s q) (λ kind next.
    ok (file_plane kind normal dist) next)))

-- by index
abbrev pub plane_of : List ℕ → BspData → ℕ → Answer Hyperplane
plane_of s m i = record_of Planes plane_at s m i

abbrev pub vertex_of : List ℕ → BspData → ℕ → Answer Vector3
vertex_of s m i = record_of Vertices vector_at s m i
