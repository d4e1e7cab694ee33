-- The header: version 29 (2), then fifteen sections in order, each an offset (3), a size (4) and the size's divisibility (5). Then the
-- limits (6), in document 01's order.
use Rattle.std.specs.Prelude.{ℕ, ◌%◌, List, Bool, false, not, cond, eqb, ℤ, pos, negsuc}
use Rattle.format.specs.Step.{Step, ok, refused, and_then}
use Rattle.format.specs.Field.{i32_at, index_at}
use Rattle.format.specs.Section.{element_size, within_limit, record_count, section_of}
use Rattle.format.specs.declared.section.BspFileSection.{BspFileSection}
use Rattle.format.specs.declared.section.BspData.{BspData}
use Rattle.format.specs.declared.section.BspFileSectionId.{BspFileSectionId}
use Rattle.format.specs.declared.section.BspFileSectionId.TheVariants.{Entities, Planes, Textures, Vertices, Visibility, RenderNodes, TextureInfo, Faces, Lightmaps, CollisionNodes, Leaves, FaceList, Edges, EdgeList, Models}

-- a size of whole elements only
unfoldable pub is_multiple : BspFileSectionId → ℕ → Bool
is_multiple id size = eqb (size % element_size id) 0

-- one section of the table
unfoldable pub section_at : BspFileSectionId → List ℕ → ℕ → Step BspFileSection
section_at id s at =
    and_then (index_at 3 s at) (λ offset p.
    and_then (index_at 4 s p) (λ size next.
    cond (is_multiple id size) (ok (record { offset = offset; size = size }) next) (refused 5)))

-- three sections in a row
pub record Three : Type 0 where
  pub a : BspFileSection
  pub b : BspFileSection
  pub c : BspFileSection

-- three sections of the table
unfoldable pub three_sections_at : BspFileSectionId → BspFileSectionId → BspFileSectionId → List ℕ → ℕ → Step Three
three_sections_at i j k s at =
    and_then (section_at i s at) (λ a p.
    and_then (section_at j s p) (λ b q.
    and_then (section_at k s q) (λ c next.
    ok (record { a = a; b = b; c = c }) next)))

-- the fifteen sections in the map record, whose texture count is not known yet
abbrev pub table_of : Three → Three → Three → Three → Three → BspData
table_of a b c d e = record {
  entities = a.a;
  planes = a.b;
  textures = a.c;
  vertices = b.a;
  visibility = b.b;
  render_nodes = b.c;
  texinfo = c.a;
  faces = c.b;
  lightmaps = c.c;
  collision_nodes = d.a;
  leaves = d.b;
  facelist = d.c;
  edges = e.a;
  edgelist = e.b;
  models = e.c;
  texture_count = 0;
}

-- the table from the collision nodes on
unfoldable pub table_end_at : Three → Three → Three → List ℕ → ℕ → Step BspData
table_end_at a b c s at =
    and_then (three_sections_at CollisionNodes Leaves FaceList s at) (λ d p.
    and_then (three_sections_at Edges EdgeList Models s p) (λ e next.
    ok (table_of a b c d e) next))

-- the table, a section after another in the file's order
unfoldable pub table_at : List ℕ → ℕ → Step BspData
table_at s at =
    and_then (three_sections_at Entities Planes Textures s at) (λ a p.
    and_then (three_sections_at Vertices Visibility RenderNodes s p) (λ b q.
    and_then (three_sections_at TextureInfo Faces Lightmaps s q) (λ c t.
    table_end_at a b c s t)))

unfoldable pub is_version : ℤ → Bool
is_version (pos n) = eqb n 29
is_version (negsuc n) = false

unfoldable pub header_at : List ℕ → Step BspData
header_at s =
    and_then (i32_at s 0) (λ version p.
    cond (is_version version) (table_at s p) (refused 2))

-- a section has more elements than its limit
unfoldable pub exceeds : BspFileSectionId → BspData → Bool
exceeds id m = not (within_limit id (record_count id (section_of id m)))

-- the limits, from the leaves on
unfoldable pub limits_from_leaves : BspData → Step (Unit {0})
limits_from_leaves m =
    cond (exceeds Leaves m) (refused 6)
    (cond (exceeds Edges m) (refused 6)
    (cond (exceeds EdgeList m) (refused 6)
    (cond (eqb (record_count Models m.models) 0) (refused 6)
    (cond (exceeds Models m) (refused 6)
    (ok tt 0)))))

unfoldable pub limits : BspData → Step (Unit {0})
limits m =
    cond (exceeds Planes m) (refused 6)
    (cond (exceeds Vertices m) (refused 6)
    (cond (exceeds Visibility m) (refused 6)
    (cond (exceeds RenderNodes m) (refused 6)
    (cond (exceeds CollisionNodes m) (refused 6)
    (limits_from_leaves m)))))
