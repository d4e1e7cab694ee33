-- For the contracts of functions that no other crate can name; a reader of the calls may leave this file out.
-- The places of refusals, as the code makes them.
use Rattle.std.specs.Prelude.{List, ℕ, Option, Some, None}
use Rattle.format.specs.Section.{section_of}
use Rattle.format.specs.declared.refusal.Refusal.{Refusal}
use Rattle.format.specs.declared.section.BspData.{BspData}
use Rattle.format.specs.declared.section.BspFileSectionId.{BspFileSectionId}
use Rattle.format.specs.declared.section.BspFileSectionId.TheVariants as Id
use Rattle.place.specs.Part.{stop_in}
use Rattle.place.specs.Stop.{stop}
use Rattle.place.specs.declared.RefusedAt.{RefusedAt}
use Rattle.place.specs.declared.part.Part.{Part}
use Rattle.place.specs.declared.part.Part.TheVariants as P
use Rattle.format.specs.Field.{u16_at}
use Rattle.records.specs.Edge.{edge_at, edge_index_at}
use Rattle.records.specs.Leaf.{leaf_at}
use Rattle.records.specs.Node.{render_node_at, collision_node_at}
use Rattle.records.specs.Plane.{plane_at}
use Rattle.records.specs.Triple.{vector_at}
use Rattle.models.specs.Model.{file_model_at}
use Rattle.sections.specs.Records.{section, blob}
use Rattle.sections.specs.Table.{header_at, limits}
use Rattle.textures.specs.Section as Section
use Rattle.load.specs.Entities.{entities}
use Rattle.load.specs.Extents.{face_extents}
use Rattle.load.specs.Load.{counted}
use Rattle.load.specs.Tested.{texinfos, faces, leaf_references}
use Rattle.place.specs.Place.{Located, loads, located, header_stop, textures_stop}

-- the section whose records a part reads
abbrev pub section_of_part : Part → Option BspFileSectionId
section_of_part P.Directory = None
section_of_part P.Limits = None
section_of_part P.Planes = Some Id.Planes
section_of_part P.Offsets = Some Id.Textures
section_of_part P.Textures = Some Id.Textures
section_of_part P.Vertices = Some Id.Vertices
section_of_part P.RenderNodes = Some Id.RenderNodes
section_of_part P.TextureInfo = Some Id.TextureInfo
section_of_part P.Faces = Some Id.Faces
section_of_part P.CollisionNodes = Some Id.CollisionNodes
section_of_part P.Leaves = Some Id.Leaves
section_of_part P.FaceList = Some Id.FaceList
section_of_part P.Edges = Some Id.Edges
section_of_part P.EdgeList = Some Id.EdgeList
section_of_part P.Extents = Some Id.Faces
section_of_part P.References = Some Id.RenderNodes
section_of_part P.Models = Some Id.Models

-- refused where reading the records of a part stops, and at a section's start
abbrev pub in_part : Refusal → List ℕ → Part → BspData → RefusedAt
in_part e s part m = record { refusal = e; section = section_of_part part; stop = stop_in part s m }

abbrev pub at_start : Refusal → BspFileSectionId → BspData → RefusedAt
at_start e id m = record { refusal = e; section = Some id; stop = stop 0 (section_of id m).offset }

-- The nineteen steps of `place_of` in seven stages, each with all that come after it, as those of loading (load/specs/Private.antt).
unfoldable pub from_extents : List ℕ → BspData → Located
from_extents s m =
    located (face_extents s m) 7 (stop_in P.Extents s m) (λ u.
    located (leaf_references s m) 5 (stop_in P.References s m) (λ u.
    located (section file_model_at Id.Models s m.models) 14 (stop_in P.Models s m) (λ u.
    loads)))

unfoldable pub from_edges : List ℕ → BspData → Located
from_edges s m =
    located (section edge_at Id.Edges s m.edges) 12 (stop_in P.Edges s m) (λ u.
    located (section edge_index_at Id.EdgeList s m.edgelist) 13 (stop_in P.EdgeList s m) (λ u.
    from_extents s m))

unfoldable pub from_collision_nodes : List ℕ → BspData → Located
from_collision_nodes s m =
    located (section collision_node_at Id.CollisionNodes s m.collision_nodes) 9 (stop_in P.CollisionNodes s m) (λ u.
    located (section leaf_at Id.Leaves s m.leaves) 10 (stop_in P.Leaves s m) (λ u.
    located (section u16_at Id.FaceList s m.facelist) 11 (stop_in P.FaceList s m) (λ u.
    from_edges s m)))

unfoldable pub from_texinfo : List ℕ → BspData → Located
from_texinfo s m =
    located (texinfos s m) 6 (stop_in P.TextureInfo s m) (λ u.
    located (faces s m) 7 (stop_in P.Faces s m) (λ u.
    located (blob s m.lightmaps) 8 (stop 0 m.lightmaps.offset) (λ u.
    from_collision_nodes s m)))

unfoldable pub from_vertices : List ℕ → BspData → Located
from_vertices s m =
    located (section vector_at Id.Vertices s m.vertices) 3 (stop_in P.Vertices s m) (λ u.
    located (blob s m.visibility) 4 (stop 0 m.visibility.offset) (λ u.
    located (section render_node_at Id.RenderNodes s m.render_nodes) 5 (stop_in P.RenderNodes s m) (λ u.
    from_texinfo s m)))

unfoldable pub from_planes : List ℕ → BspData → Located
from_planes s m =
    located (section plane_at Id.Planes s m.planes) 1 (stop_in P.Planes s m) (λ u.
    located (Section.textures s m.textures) 2 (textures_stop s m) (λ n.
    from_vertices s (counted m n)))

unfoldable pub from_header : List ℕ → Located
from_header s =
    located (header_at s) 15 (header_stop s) (λ m.
    located (limits m) 15 (stop_in P.Limits s m) (λ u.
    located (entities s m.entities) 0 (stop 0 m.entities.offset) (λ u.
    from_planes s m)))
