-- The records whose fields are not tested: k bytes are read, whatever they are.
-- Assumes nothing.
use Rattle.records.specs.Edge.{edge_at, edge_index_at}
use Rattle.records.specs.Plane.{plane_at}
use Rattle.records.specs.Triple.{vector_at}
use Rattle.sections.proofs.Plain.{Plain, then, mapped, plain_u16, plain_i32, plain_f32}

pub plain_vector : Plain vector_at 12
unfolding vector_at
plain_vector = then plain_f32 _ 8 (λ x. then plain_f32 _ 4 (λ y. mapped plain_f32 _))

pub plain_plane : Plain plane_at 20
unfolding plane_at
plain_plane = then plain_vector _ 8 (λ n. then plain_f32 _ 4 (λ d. mapped plain_i32 _))

pub plain_edge : Plain edge_at 4
unfolding edge_at
plain_edge = then plain_u16 _ 2 (λ a. mapped plain_u16 _)

pub plain_edge_index : Plain edge_index_at 4
unfolding edge_index_at
plain_edge_index = mapped plain_i32 _
