-- For the contracts of functions that no other crate can name, and for proofs, which go stage by stage; a reader of the calls may leave this
-- file out.
-- The nineteen steps of `load_at` in seven stages, each with all that come after it: `from_planes` is loading from the planes on, once the header,
-- the limits and the entities were read. The first, `from_header`, is `load_at` itself (`stages` of proofs/Stages.antt).
use Rattle.std.specs.Prelude.{ℕ, List}
use Rattle.format.specs.Field.{u16_at}
use Rattle.format.specs.Step.{Step, ok, and_then}
use Rattle.format.specs.declared.section.BspData.{BspData}
use Rattle.format.specs.declared.section.BspFileSectionId.TheVariants.{Planes, Vertices, RenderNodes, CollisionNodes, Leaves, FaceList, Edges, EdgeList, Models}
use Rattle.records.specs.Edge.{edge_at, edge_index_at}
use Rattle.records.specs.Leaf.{leaf_at}
use Rattle.models.specs.Model.{file_model_at}
use Rattle.records.specs.Node.{render_node_at, collision_node_at}
use Rattle.records.specs.Plane.{plane_at}
use Rattle.records.specs.Triple.{vector_at}
use Rattle.sections.specs.Records.{section, blob}
use Rattle.sections.specs.Table.{header_at, limits}
use Rattle.textures.specs.Section as Section
use Rattle.load.specs.Entities.{entities}
use Rattle.load.specs.Extents.{face_extents}
use Rattle.load.specs.Tested.{texinfos, faces, leaf_references}
use Rattle.load.specs.Load.{counted}

unfoldable pub from_extents : List ℕ → BspData → Step BspData
from_extents s m =
    and_then (face_extents s m) (λ u p.
    and_then (leaf_references s m) (λ u p.
    and_then (section file_model_at Models s m.models) (λ u p.
    ok m 0)))

unfoldable pub from_edges : List ℕ → BspData → Step BspData
from_edges s m =
    and_then (section edge_at Edges s m.edges) (λ u p.
    and_then (section edge_index_at EdgeList s m.edgelist) (λ u p.
    from_extents s m))

unfoldable pub from_collision_nodes : List ℕ → BspData → Step BspData
from_collision_nodes s m =
    and_then (section collision_node_at CollisionNodes s m.collision_nodes) (λ u p.
    and_then (section leaf_at Leaves s m.leaves) (λ u p.
    and_then (section u16_at FaceList s m.facelist) (λ u p.
    from_edges s m)))

unfoldable pub from_texinfo : List ℕ → BspData → Step BspData
from_texinfo s m =
    and_then (texinfos s m) (λ u p.
    and_then (faces s m) (λ u p.
    and_then (blob s m.lightmaps) (λ u p.
    from_collision_nodes s m)))

unfoldable pub from_vertices : List ℕ → BspData → Step BspData
from_vertices s m =
    and_then (section vector_at Vertices s m.vertices) (λ u p.
    and_then (blob s m.visibility) (λ u p.
    and_then (section render_node_at RenderNodes s m.render_nodes) (λ u p.
    from_texinfo s m)))

unfoldable pub from_planes : List ℕ → BspData → Step BspData
from_planes s m =
    and_then (section plane_at Planes s m.planes) (λ u p.
    and_then (Section.textures s m.textures) (λ n p.
    from_vertices s (counted m n)))

unfoldable pub from_header : List ℕ → Step BspData
from_header s =
    and_then (header_at s) (λ m p.
    and_then (limits m) (λ u p.
    and_then (entities s m.entities) (λ u p.
    from_planes s m)))
