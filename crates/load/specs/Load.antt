-- Loading a file, in the order of load.rs: the header, the limits, the sections, the extents of the faces, the leaves that render nodes
-- name, the models; up to the first refusal.
use Rattle.std.specs.Prelude.{ℕ, List}
use Rattle.format.specs.Answer.{Answer}
use Rattle.format.specs.Field.{u16_at}
use Rattle.format.specs.Step.{Step, ok, refused, and_then}
use Rattle.format.specs.declared.section.BspData.{BspData}
use Rattle.format.specs.declared.section.BspFileSectionId.TheVariants.{Planes, Vertices, RenderNodes, CollisionNodes, Leaves, FaceList, Edges, EdgeList, Models}
use Rattle.records.specs.Edge.{edge_at, edge_index_at}
use Rattle.records.specs.Leaf.{leaf_at}
use Rattle.models.specs.Model.{file_model_at}
use Rattle.records.specs.Node.{render_node_at, collision_node_at}
use Rattle.records.specs.Plane.{plane_at}
use Rattle.records.specs.Triple.{vector_at}
use Rattle.sections.specs.Records.{section, blob}
use Rattle.sections.specs.Table.{header_at, limits}
use Rattle.textures.specs.Section as Section
use Rattle.load.specs.Entities.{entities}
use Rattle.load.specs.Extents.{face_extents}
use Rattle.load.specs.Tested.{texinfos, faces, leaf_references}

-- the map record with its texture count
abbrev pub counted : BspData → ℕ → BspData
counted m n = record {
  entities = m.entities;
  planes = m.planes;
  textures = m.textures;
  vertices = m.vertices;
  visibility = m.visibility;
  render_nodes = m.render_nodes;
  texinfo = m.texinfo;
  faces = m.faces;
  lightmaps = m.lightmaps;
  collision_nodes = m.collision_nodes;
  leaves = m.leaves;
  facelist = m.facelist;
  edges = m.edges;
  edgelist = m.edgelist;
  models = m.models;
  texture_count = n;
}

-- the nineteen steps
unfoldable pub load_at : List ℕ → Step BspData
load_at s =
    and_then (header_at s) (λ m p.
    and_then (limits m) (λ u p.
    and_then (entities s m.entities) (λ u p.
    and_then (section plane_at Planes s m.planes) (λ u p.
    and_then (Section.textures s m.textures) (λ n p.
    let map : BspData = counted m n in
    and_then (section vector_at Vertices s map.vertices) (λ u p.
    and_then (blob s map.visibility) (λ u p.
    and_then (section render_node_at RenderNodes s map.render_nodes) (λ u p.
    and_then (texinfos s map) (λ u p.
    and_then (faces s map) (λ u p.
    and_then (blob s map.lightmaps) (λ u p.
    and_then (section collision_node_at CollisionNodes s map.collision_nodes) (λ u p.
    and_then (section leaf_at Leaves s map.leaves) (λ u p.
    and_then (section u16_at FaceList s map.facelist) (λ u p.
    and_then (section edge_at Edges s map.edges) (λ u p.
    and_then (section edge_index_at EdgeList s map.edgelist) (λ u p.
    and_then (face_extents s map) (λ u p.
    and_then (leaf_references s map) (λ u p.
    and_then (section file_model_at Models s map.models) (λ u p.
    ok map 0)))))))))))))))))))

-- the map record, or the first refusal
abbrev pub outcome : Step BspData → Answer BspData
outcome (ok m p) = Answer.answer m
outcome (refused n) = Answer.refused n

abbrev pub load_of : List ℕ → Answer BspData
load_of s = outcome (load_at s)
