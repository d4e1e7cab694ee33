-- The sections whose records are tested against the counts of other sections, and the leaves that render nodes name.
use Rattle.std.specs.Prelude.{ℕ, Bool, false, cond, List, eqb, leb}
use Rattle.format.specs.Step.{Step, ok, refused, and_then}
use Rattle.format.specs.Section.{record_count}
use Rattle.format.specs.declared.section.BspData.{BspData}
use Rattle.format.specs.declared.section.BspFileSectionId.TheVariants.{Planes, RenderNodes, TextureInfo, Faces, Leaves}
use Rattle.faces.specs.Face.{face_at}
use Rattle.records.specs.Node.{render_node_at}
use Rattle.records.specs.Texinfo.{texinfo_at}
use Rattle.records.specs.declared.node.BspRenderNodeChild.{BspRenderNodeChild}
use Rattle.records.specs.declared.node.BspRenderNodeChild.TheVariants.{Node, Leaf}
use Rattle.records.specs.declared.texinfo.BspTexInfo.{BspTexInfo}
use Rattle.sections.specs.Records.{section, each_record}

-- A texture info. Its texture number may equal the texture count, on which the Rust panics as it looks the number up (11).
unfoldable pub textured : ℕ → List ℕ → ℕ → Step BspTexInfo
textured textures s at = and_then (texinfo_at textures s at) (λ info next. cond (eqb info.tex_id textures) (refused 11) (ok info next))

unfoldable pub texinfos : List ℕ → BspData → Step (Unit {0})
texinfos s m = section (textured m.texture_count) TextureInfo s m.texinfo

unfoldable pub faces : List ℕ → BspData → Step (Unit {0})
faces s m = section (face_at (record_count Planes m.planes) (record_count TextureInfo m.texinfo)) Faces s m.faces

-- a child is a leaf outside the table of leaves
unfoldable pub outside : ℕ → BspRenderNodeChild → Bool
outside leaves (Node n) = false
outside leaves (Leaf l) = leb leaves l

-- the leaves that one render node names: the front child's and then the back one's (11)
unfoldable pub references_at : ℕ → List ℕ → ℕ → Step (Unit {0})
references_at leaves s at =
    and_then (render_node_at s at) (λ node next.
    cond (outside leaves node.front) (refused 11)
    (cond (outside leaves node.back) (refused 11)
    (ok tt next)))

unfoldable pub leaf_references : List ℕ → BspData → Step (Unit {0})
leaf_references s m = each_record (references_at (record_count Leaves m.leaves)) RenderNodes s m.render_nodes
