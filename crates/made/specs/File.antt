-- Note 14 of document 02, whose words stand in quotes: the file of a made-up map.
use Rattle.std.specs.Prelude.{ℕ, ◌+◌, ◌*◌, Bool, ◌&&◌, cond, List, [], ◌∷◌, ◌++◌, leb, ℤ, pos, negsuc, replicate}
use Rattle.format.specs.Answer.{Answer, answer, refused}
use Rattle.format.specs.declared.section.BspFileSection.{BspFileSection}
use Rattle.format.specs.declared.section.BspData.{BspData}
use Rattle.written.specs.Bytes.{u32, i16, i32, f32, joined, row}
use Rattle.made.specs.Map.{axis_of, distance_of, node_number, Side, node, solid, empty, front_of, back_of}

abbrev at : ℕ → ℕ → BspFileSection
at offset size = record { offset = offset; size = size }

-- "unused sections empty at offset 0"
abbrev unused : BspFileSection
unused = at 0 0

-- "Sections follow the header in their order without gaps"; the header has 124 bytes
unfoldable pub made_map : ℕ → BspData
made_map n = record {
  entities = at 124 1;
  planes = at 125 (n * 20);
  textures = at (125 + n * 20) 4;
  vertices = unused;
  visibility = unused;
  render_nodes = at (129 + n * 20) (n * 24);
  texinfo = unused;
  faces = unused;
  lightmaps = unused;
  collision_nodes = at (129 + n * 44) (n * 8);
  leaves = at (129 + n * 52) 56;
  facelist = unused;
  edges = unused;
  edgelist = unused;
  models = at (185 + n * 52) 64;
  texture_count = 0;
}

-- "every other field zero"
abbrev pub zeros : ℕ → List ℕ
zeros n = replicate n 0

-- a section of the table in the header
abbrev pub entry : BspFileSection → List ℕ
entry z = u32 z.offset ++ u32 z.size

-- the fifteen sections of the table
abbrev pub table_bytes : BspData → List ℕ
table_bytes m =
    entry m.entities
    ++ entry m.planes
    ++ entry m.textures
    ++ entry m.vertices
    ++ entry m.visibility
    ++ entry m.render_nodes
    ++ entry m.texinfo
    ++ entry m.faces
    ++ entry m.lightmaps
    ++ entry m.collision_nodes
    ++ entry m.leaves
    ++ entry m.facelist
    ++ entry m.edges
    ++ entry m.edgelist
    ++ entry m.models

unfoldable pub header : BspData → List ℕ
header m = i32 (pos 29) ++ table_bytes m

-- normal, distance, type
unfoldable pub plane : ℕ → List ℕ
plane number = zeros 12 ++ f32 (distance_of number) ++ u32 (axis_of number)

-- a render node's child: leaf 0 is Solid, leaf 1 is Empty, and leaf l is stored as -1 - l
abbrev pub render_child : Side → ℤ
render_child (node k) = pos k
render_child solid = negsuc 0
render_child empty = negsuc 1

-- a clip node's child: the contents codes are 2 for Solid and 1 for Empty, stored negated
abbrev pub clip_child : Side → ℤ
clip_child (node k) = pos k
clip_child solid = negsuc 1
clip_child empty = negsuc 0

-- plane, front, back; box and faces. Of node i of n, "node n has plane n"
unfoldable pub render_node : ℕ → ℕ → ℕ → List ℕ
render_node n i number = u32 i ++ i16 (render_child (front_of number)) ++ i16 (render_child (back_of n i)) ++ zeros 16

-- "the same chain serves as clip nodes"
unfoldable pub clip_node : ℕ → ℕ → ℕ → List ℕ
clip_node n i number = u32 i ++ i16 (clip_child (front_of number)) ++ i16 (clip_child (back_of n i))

-- "leaf 0 Solid and leaf 1 Empty, both with visibility -1"; box, faces and sounds
unfoldable pub leaf : ℤ → List ℕ
leaf code = i32 code ++ i32 (negsuc 0) ++ zeros 20

unfoldable pub leaves : List ℕ
leaves = leaf (negsuc 1) ++ leaf (negsuc 0)

-- "one model with roots 0 and leaf count 1": box and origin, four roots, leaf count, faces
unfoldable pub model : List ℕ
model = zeros 52 ++ u32 1 ++ zeros 8

-- what stands for node i of n: its plane, its render node and its clip node
abbrev pub plane_part : ℕ → ℕ → List ℕ
plane_part seed i = plane (node_number seed i)

abbrev pub render_part : ℕ → ℕ → ℕ → List ℕ
render_part seed n i = render_node n i (node_number seed i)

abbrev pub clip_part : ℕ → ℕ → ℕ → List ℕ
clip_part seed n i = clip_node n i (node_number seed i)

-- the sections in use, behind the header: "one zero entity byte, a zero texture count", the leaves, the model
abbrev pub parts_of : ℕ → ℕ → List (List ℕ)
parts_of seed n =
    header (made_map n)
    ∷ (0 ∷ [])
    ∷ row (plane_part seed) n
    ∷ u32 0
    ∷ row (render_part seed n) n
    ∷ row (clip_part seed n) n
    ∷ leaves
    ∷ model
    ∷ []

unfoldable pub file_of : ℕ → ℕ → List ℕ
file_of seed n = joined (parts_of seed n)

-- "a node count of 1 to 500"
unfoldable pub is_node_count : ℕ → Bool
is_node_count n = leb 1 n && leb n 500

-- what a call says of a seed and a node count: the file, or 29
unfoldable pub made_up : ℕ → ℕ → Answer (List ℕ)
made_up seed n = cond (is_node_count n) (answer (file_of seed n)) (refused 29)
