-- Where loading refuses a file: the number that it answers, and the section, the record and the byte at which the reader stands that refuses.
-- The steps are those of loading, in its order (load/specs/Load.antt); sections are named by their numbers in the directory, 15 is the header.
-- The byte is the first of the record whose reader refuses. A section of records that does not end where it should (7) stops after its last
-- one; the entity text, visibility data and lightmaps are named by their start, and the textures, once all are read, by their section's end.
use Rattle.std.specs.Prelude.{Option, Some, None, ℕ, ◌+◌, cond, List, ltb, ℤ, length}
use Rattle.format.specs.Field.{u16_at, i32_at}
use Rattle.format.specs.Step.{Step, ok, refused}
use Rattle.format.specs.declared.section.BspData.{BspData}
use Rattle.format.specs.declared.section.BspFileSectionId.TheVariants as Id
use Rattle.records.specs.Edge.{edge_at, edge_index_at}
use Rattle.records.specs.Leaf.{leaf_at}
use Rattle.records.specs.Node.{render_node_at, collision_node_at}
use Rattle.records.specs.Number.{number_at, offset_at}
use Rattle.records.specs.Plane.{plane_at}
use Rattle.records.specs.Triple.{vector_at}
use Rattle.models.specs.Model.{file_model_at}
use Rattle.sections.specs.Records.{section, blob}
use Rattle.sections.specs.Table.{header_at, limits, is_version}
use Rattle.textures.specs.Section as Section
use Rattle.load.specs.Entities.{entities}
use Rattle.load.specs.Extents.{face_extents}
use Rattle.load.specs.Load.{counted}
use Rattle.load.specs.Tested.{texinfos, faces, leaf_references}
use Rattle.place.specs.Part.{stop_in}
use Rattle.place.specs.Stop.{stop, here_or}
use Rattle.place.specs.declared.part.Part.TheVariants as Part
use Rattle.place.specs.declared.part.Stop.{Stop}
use Rattle.format.specs.Section.{no_map}

-- the file loads, or it is refused with a number, in a section, at a record and a byte
pub data Located : Type 0 where
  loads : Located
  refused_at : ℕ → ℕ → Stop → Located

-- one step of loading, which is about a section: the place where it refuses, else what follows
abbrev pub located : {A : Type 0} → Step A → ℕ → Stop → (A → Located) → Located
located (ok v p) z here next = next v
located (refused n) z here next = refused_at n z here

-- the header: the version, or the first entry of the directory that is refused
abbrev pub version_stop : Step ℤ → Stop → Stop
version_stop (ok version p) further = cond (is_version version) further (stop 0 0)
version_stop (refused n) further = stop 0 0

unfoldable pub header_stop : List ℕ → Stop
header_stop s = version_stop (i32_at s 0) (stop_in Part.Directory s no_map)

-- where the header of a texture starts whose offset stands at a position of the list; an offset that leads past the file stands there itself
abbrev pub start_of : List ℕ → ℕ → ℕ → Step (Option ℕ) → ℕ
start_of s base at (ok (Some offset) p) = cond (ltb (base + offset) (length s)) (base + offset) at
start_of s base at (ok None p) = at
start_of s base at (refused n) = at

unfoldable pub start_at : List ℕ → ℕ → ℕ → ℕ
start_at s base at = start_of s base at (offset_at s at)

abbrev pub header_start : List ℕ → BspData → Stop → Stop
header_start s m here = stop here.index (start_at s m.textures.offset here.byte)

-- the textures: the first offset that is refused, else the first header, else the section's end (7, 14 and 15 are said there)
unfoldable pub list_stop : List ℕ → BspData → Stop
list_stop s m =
    cond (ltb (stop_in Part.Offsets s m).index m.texture_count) (stop_in Part.Offsets s m)
    (cond (ltb (stop_in Part.Textures s m).index m.texture_count) (header_start s m (stop_in Part.Textures s m))
    (stop m.texture_count (m.textures.offset + m.textures.size)))

-- the texture section: its count, and then the textures
unfoldable pub textures_stop : List ℕ → BspData → Stop
textures_stop s m = here_or (number_at 2097152 s m.textures.offset) (stop 0 m.textures.offset) (λ n p. list_stop s (counted m n))

-- the nineteen steps; the entity text, and bytes that are no records (visibility data, lightmaps), are named by their section's start
unfoldable pub place_of : List ℕ → Located
place_of s =
    located (header_at s) 15 (header_stop s) (λ m.
    located (limits m) 15 (stop_in Part.Limits s m) (λ u.
    located (entities s m.entities) 0 (stop 0 m.entities.offset) (λ u.
    located (section plane_at Id.Planes s m.planes) 1 (stop_in Part.Planes s m) (λ u.
    located (Section.textures s m.textures) 2 (textures_stop s m) (λ n.
    let map : BspData = counted m n in
    located (section vector_at Id.Vertices s map.vertices) 3 (stop_in Part.Vertices s map) (λ u.
    located (blob s map.visibility) 4 (stop 0 map.visibility.offset) (λ u.
    located (section render_node_at Id.RenderNodes s map.render_nodes) 5 (stop_in Part.RenderNodes s map) (λ u.
    located (texinfos s map) 6 (stop_in Part.TextureInfo s map) (λ u.
    located (faces s map) 7 (stop_in Part.Faces s map) (λ u.
    located (blob s map.lightmaps) 8 (stop 0 map.lightmaps.offset) (λ u.
    located (section collision_node_at Id.CollisionNodes s map.collision_nodes) 9 (stop_in Part.CollisionNodes s map) (λ u.
    located (section leaf_at Id.Leaves s map.leaves) 10 (stop_in Part.Leaves s map) (λ u.
    located (section u16_at Id.FaceList s map.facelist) 11 (stop_in Part.FaceList s map) (λ u.
    located (section edge_at Id.Edges s map.edges) 12 (stop_in Part.Edges s map) (λ u.
    located (section edge_index_at Id.EdgeList s map.edgelist) 13 (stop_in Part.EdgeList s map) (λ u.
    located (face_extents s map) 7 (stop_in Part.Extents s map) (λ u.
    located (leaf_references s map) 5 (stop_in Part.References s map) (λ u.
    located (section file_model_at Id.Models s map.models) 14 (stop_in Part.Models s map) (λ u.
    loads)))))))))))))))))))
