-- The fifteen sections: the sizes of their records, their limits, how many records they have, and where a record lies.
use Rattle.std.specs.Prelude.{Option, Some, None, ℕ, ◌+◌, ◌*◌, ◌/◌, Bool, true, cond, leb, eqb}
use Rattle.format.specs.Answer.{Answer, answer, refused}
use Rattle.format.specs.declared.section.BspFileSection.{BspFileSection}
use Rattle.format.specs.declared.section.BspData.{BspData}
use Rattle.format.specs.declared.section.BspFileSectionId.{BspFileSectionId}
use Rattle.format.specs.declared.section.BspFileSectionId.TheVariants.{Entities, Planes, Textures, Vertices, Visibility, RenderNodes, TextureInfo, Faces, Lightmaps, CollisionNodes, Leaves, FaceList, Edges, EdgeList, Models}

-- the section of a number, in the order of the file's header
unfoldable pub section_numbered : ℕ → Option BspFileSectionId
section_numbered n =
    cond (eqb n 0) (Some Entities)
    (cond (eqb n 1) (Some Planes)
    (cond (eqb n 2) (Some Textures)
    (cond (eqb n 3) (Some Vertices)
    (cond (eqb n 4) (Some Visibility)
    (cond (eqb n 5) (Some RenderNodes)
    (cond (eqb n 6) (Some TextureInfo)
    (cond (eqb n 7) (Some Faces)
    (cond (eqb n 8) (Some Lightmaps)
    (cond (eqb n 9) (Some CollisionNodes)
    (cond (eqb n 10) (Some Leaves)
    (cond (eqb n 11) (Some FaceList)
    (cond (eqb n 12) (Some Edges)
    (cond (eqb n 13) (Some EdgeList)
    (cond (eqb n 14) (Some Models)
    None))))))))))))))

-- the size on disk of one element of a section
abbrev pub element_size : BspFileSectionId → ℕ
element_size Entities = 1
element_size Planes = 20
element_size Textures = 1
element_size Vertices = 12
element_size Visibility = 1
element_size RenderNodes = 24
element_size TextureInfo = 40
element_size Faces = 20
element_size Lightmaps = 1
element_size CollisionNodes = 8
element_size Leaves = 28
element_size FaceList = 2
element_size Edges = 4
element_size EdgeList = 4
element_size Models = 64

-- Whether so many elements are within the section's limit, as the Rust's MAX_PLANES and so on have it. Faces, texture infos, the face
-- list and the lightmaps have none; the entity text and the texture count are tested as they are read.
abbrev pub within_limit : BspFileSectionId → ℕ → Bool
within_limit Entities n = true
within_limit Planes n = leb n 8192
within_limit Textures n = true
within_limit Vertices n = leb n 65535
within_limit Visibility n = leb n 1048576
within_limit RenderNodes n = leb n 32767
within_limit TextureInfo n = true
within_limit Faces n = true
within_limit Lightmaps n = true
within_limit CollisionNodes n = leb n 32767
within_limit Leaves n = leb n 32767
within_limit FaceList n = true
within_limit Edges n = leb n 256000
within_limit EdgeList n = leb n 512000
within_limit Models n = leb n 256

-- the section of the map record
abbrev pub section_of : BspFileSectionId → BspData → BspFileSection
section_of Entities m = m.entities
section_of Planes m = m.planes
section_of Textures m = m.textures
section_of Vertices m = m.vertices
section_of Visibility m = m.visibility
section_of RenderNodes m = m.render_nodes
section_of TextureInfo m = m.texinfo
section_of Faces m = m.faces
section_of Lightmaps m = m.lightmaps
section_of CollisionNodes m = m.collision_nodes
section_of Leaves m = m.leaves
section_of FaceList m = m.facelist
section_of Edges m = m.edges
section_of EdgeList m = m.edgelist
section_of Models m = m.models

-- a section that names nothing
abbrev pub no_section : BspFileSection
no_section = record { offset = 0; size = 0 }

-- the map record of such sections
abbrev pub no_map : BspData
no_map =
    record {
      entities = no_section;
      planes = no_section;
      textures = no_section;
      vertices = no_section;
      visibility = no_section;
      render_nodes = no_section;
      texinfo = no_section;
      faces = no_section;
      lightmaps = no_section;
      collision_nodes = no_section;
      leaves = no_section;
      facelist = no_section;
      edges = no_section;
      edgelist = no_section;
      models = no_section;
      texture_count = 0;
    }

-- how many whole records a section has
unfoldable pub record_count : BspFileSectionId → BspFileSection → ℕ
record_count id z = z.size / element_size id

-- Where the record i lies in n bytes: 20 where there is none; 23 where the section is above its limit or the record's own bytes are not
-- all among the n.
unfoldable pub place : BspFileSectionId → BspFileSection → ℕ → ℕ → Answer ℕ
place id z n i =
    cond (leb (record_count id z) i) (refused 20)
    (cond (within_limit id (record_count id z))
    (cond (leb (z.offset + i * element_size id + element_size id) n) (answer (z.offset + i * element_size id)) (refused 23))
    (refused 23))
