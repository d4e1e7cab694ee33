-- The parts of loading that read records in a row: which reader, how many records, from which position on. The readers are those of
-- loading (load/specs). A record whose fields are not tested is so many bytes (`plain`).
use Rattle.std.specs.Prelude.{ℕ, ◌+◌, ◌*◌, Bool, false, cond, List, eqb}
use Rattle.format.specs.Step.{Step, ok, refused, and_then}
use Rattle.format.specs.Section.{record_count, section_of}
use Rattle.format.specs.declared.section.BspData.{BspData}
use Rattle.format.specs.declared.section.BspFileSectionId.{BspFileSectionId}
use Rattle.format.specs.declared.section.BspFileSectionId.TheVariants as Id
use Rattle.records.specs.Leaf.{leaf_at}
use Rattle.records.specs.Node.{render_node_at, collision_node_at}
use Rattle.records.specs.Number.{offset_at}
use Rattle.faces.specs.Face.{face_at}
use Rattle.models.specs.Model.{file_model_at}
use Rattle.sections.specs.Records.{plain}
use Rattle.sections.specs.Table.{section_at, exceeds}
use Rattle.texture_list.specs.List.{listed_at}
use Rattle.load.specs.Extents.{extents_at}
use Rattle.load.specs.Tested.{textured, references_at}
use Rattle.place.specs.Stop.{stops}
use Rattle.place.specs.declared.part.Part.{Part}
use Rattle.place.specs.declared.part.Part.TheVariants.{Directory, Limits, Planes, Offsets, Textures, Vertices, RenderNodes, TextureInfo, Faces, CollisionNodes, Leaves, FaceList, Edges, EdgeList, Extents, References, Models}
use Rattle.place.specs.declared.part.Span.{Span}
use Rattle.place.specs.declared.part.Stop.{Stop}

-- the section of an entry of the directory, in the file's order
unfoldable pub id_of : ℕ → BspFileSectionId
id_of i =
    cond (eqb i 0) Id.Entities
    (cond (eqb i 1) Id.Planes
    (cond (eqb i 2) Id.Textures
    (cond (eqb i 3) Id.Vertices
    (cond (eqb i 4) Id.Visibility
    (cond (eqb i 5) Id.RenderNodes
    (cond (eqb i 6) Id.TextureInfo
    (cond (eqb i 7) Id.Faces
    (cond (eqb i 8) Id.Lightmaps
    (cond (eqb i 9) Id.CollisionNodes
    (cond (eqb i 10) Id.Leaves
    (cond (eqb i 11) Id.FaceList
    (cond (eqb i 12) Id.Edges
    (cond (eqb i 13) Id.EdgeList
    Id.Models)))))))))))))

-- a record that was read, its value aside
abbrev pub done : {A : Type 0} → Step A → Step (Unit {0})
done (ok v p) = ok tt p
done (refused n) = refused n

-- an entry is the models', and they have none
unfoldable pub lacks_models : BspData → ℕ → Bool
lacks_models m i = cond (eqb i 14) (eqb (record_count Id.Models m.models) 0) false

-- the limit of the section of an entry (6); there must be a model
unfoldable pub limit_at : BspData → ℕ → Step (Unit {0})
limit_at m i =
    cond (exceeds (id_of i) m) (refused 6)
    (cond (lacks_models m i) (refused 6)
    (ok tt (8 * i + 12)))

-- the texture of a number, whose offset stands at a position of the list of offsets; the next offset follows
unfoldable pub listed_header_at : List ℕ → BspData → ℕ → ℕ → Step (Unit {0})
listed_header_at s m i at = and_then (listed_at s m.textures.offset at 0) (λ u p. ok tt (m.textures.offset + 4 * i + 8))

-- record i of a part, at a position
unfoldable pub record_at : Part → List ℕ → BspData → ℕ → ℕ → Step (Unit {0})
record_at Directory s m i at = done (section_at (id_of i) s at)
record_at Limits s m i at = limit_at m i
record_at Planes s m i at = plain s at 20
record_at Offsets s m i at = done (offset_at s at)
record_at Textures s m i at = listed_header_at s m i at
record_at Vertices s m i at = plain s at 12
record_at RenderNodes s m i at = done (render_node_at s at)
record_at TextureInfo s m i at = done (textured m.texture_count s at)
record_at Faces s m i at = done (face_at (record_count Id.Planes m.planes) (record_count Id.TextureInfo m.texinfo) s at)
record_at CollisionNodes s m i at = done (collision_node_at s at)
record_at Leaves s m i at = done (leaf_at s at)
record_at FaceList s m i at = plain s at 2
record_at Edges s m i at = plain s at 4
record_at EdgeList s m i at = plain s at 4
record_at Extents s m i at = extents_at (record_count Id.Planes m.planes) (record_count Id.TextureInfo m.texinfo) m s at
record_at References s m i at = references_at (record_count Id.Leaves m.leaves) s at
record_at Models s m i at = done (file_model_at s at)

-- so many records from a position on
abbrev pub span : ℕ → ℕ → Span
span n at = record { count = n; start = at }

-- the records of a section
unfoldable pub section_span : BspFileSectionId → BspData → Span
section_span id m = span (record_count id (section_of id m)) (section_of id m).offset

-- the records of a part: the directory's fifteen entries follow the version, the offsets of the textures their count
unfoldable pub span_of : Part → BspData → Span
span_of Directory m = span 15 4
span_of Limits m = span 15 4
span_of Planes m = section_span Id.Planes m
span_of Offsets m = span m.texture_count (m.textures.offset + 4)
span_of Textures m = span m.texture_count (m.textures.offset + 4)
span_of Vertices m = section_span Id.Vertices m
span_of RenderNodes m = section_span Id.RenderNodes m
span_of TextureInfo m = section_span Id.TextureInfo m
span_of Faces m = section_span Id.Faces m
span_of CollisionNodes m = section_span Id.CollisionNodes m
span_of Leaves m = section_span Id.Leaves m
span_of FaceList m = section_span Id.FaceList m
span_of Edges m = section_span Id.Edges m
span_of EdgeList m = section_span Id.EdgeList m
span_of Extents m = section_span Id.Faces m
span_of References m = section_span Id.RenderNodes m
span_of Models m = section_span Id.Models m

-- where reading the records of a part stops
unfoldable pub stop_in : Part → List ℕ → BspData → Stop
stop_in part s m = stops (record_at part s m) (span_of part m).count 0 (span_of part m).start
