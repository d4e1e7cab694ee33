-- The BSP map file as the Quake Specifications (version 3.4) list it: the size of each record, and offset, width and sign of each field; the
-- directory; the contents codes. They are that document's and not the Rust's, written down from memory, since no copy was at hand (docs/DIFFERENCES.md);
-- where the Rust reads a field with another sign, the laws about the readers say what follows.
use Rattle.std.specs.Prelude.{Option, Some, None, ℕ, zero, suc, ◌+◌, ◌*◌, ◌^◌, List, [], ◌∷◌, ℤ, pos, negsuc, get_or, Float}
use Rattle.std.specs.Float.Ieee.{of_bits}
use Rattle.std.specs.Float.{binary32}
use Rattle.std.specs.Int.{Width, w8, w16, w32}
use Rattle.std.proofs.Common.{to_z}
use Rattle.format.specs.declared.section.BspFileSectionId.{BspFileSectionId}
use Rattle.format.specs.declared.section.BspFileSectionId.TheVariants.{Entities, Planes, Textures, Vertices, Visibility, RenderNodes, TextureInfo, Faces, Lightmaps, CollisionNodes, Leaves, FaceList, Edges, EdgeList, Models}
use Rattle.format.specs.declared.contents.BspLeafContents.{BspLeafContents}
use Rattle.format.specs.declared.contents.BspLeafContents.TheVariants.{Empty, Solid, Water, Slime, Lava, Sky, Current0, Current90, Current180, Current270, CurrentUp, CurrentDown}

-- how the bits of a field are read
pub data Sort : Type 0 where
  unsigned : Sort
  signed : Sort
  real : Sort

pub record Field : Type 0 where
  pub offset : ℕ
  pub width : ℕ
  pub sort : Sort

pub record Layout : Type 0 where
  pub size : ℕ
  pub fields : List Field

abbrev pub layout : ℕ → List Field → Layout
layout size fields = record { size = size; fields = fields }

abbrev pub u8 : ℕ → Field
u8 o = record { offset = o; width = 1; sort = unsigned }

abbrev pub u16 : ℕ → Field
u16 o = record { offset = o; width = 2; sort = unsigned }

abbrev pub u32 : ℕ → Field
u32 o = record { offset = o; width = 4; sort = unsigned }

abbrev pub i16 : ℕ → Field
i16 o = record { offset = o; width = 2; sort = signed }

abbrev pub i32 : ℕ → Field
i32 o = record { offset = o; width = 4; sort = signed }

abbrev pub f32 : ℕ → Field
f32 o = record { offset = o; width = 4; sort = real }

-- the number of w bytes from a position on, the lowest first
unfoldable pub little_endian : List ℕ → ℕ → ℕ → ℕ
little_endian s p zero = 0
little_endian s p (suc w) = little_endian s p w + 256 ^ w * get_or s (p + w) 0

-- field i of a record at a position: its bits
abbrev pub bits : Layout → ℕ → List ℕ → ℕ → ℕ
bits t i s at = little_endian s (at + (get_or t.fields i (u8 0)).offset) (get_or t.fields i (u8 0)).width

abbrev pub width_of : ℕ → Width
width_of (suc (suc (suc w))) = w32
width_of (suc (suc zero)) = w16
width_of (suc zero) = w8
width_of zero = w8

abbrev pub signed_by : Sort → Width → ℕ → ℤ
signed_by unsigned w n = pos n
signed_by signed w n = to_z w n
signed_by real w n = pos n

-- its number, with the sign that the table gives it
abbrev pub int : Layout → ℕ → List ℕ → ℕ → ℤ
int t i s at = signed_by (get_or t.fields i (u8 0)).sort (width_of (get_or t.fields i (u8 0)).width) (bits t i s at)

-- its float
abbrev pub float : Layout → ℕ → List ℕ → ℕ → Float
float t i s at = of_bits binary32 (bits t i s at)

-- normal, dist, type
abbrev pub plane : Layout
plane = layout 20 (f32 0 ∷ f32 4 ∷ f32 8 ∷ f32 12 ∷ i32 16 ∷ [])

-- X, Y, Z
abbrev pub vertex : Layout
vertex = layout 12 (f32 0 ∷ f32 4 ∷ f32 8 ∷ [])

-- plane_id, front, back, box min, box max, face_id, face_num
abbrev pub node : Layout
node = layout 24 (i32 0 ∷ u16 4 ∷ u16 6 ∷ i16 8 ∷ i16 10 ∷ i16 12 ∷ i16 14 ∷ i16 16 ∷ i16 18 ∷ u16 20 ∷ u16 22 ∷ [])

-- vectorS, distS, vectorT, distT, texture_id, animated
abbrev pub texture_info : Layout
texture_info = layout 40 (f32 0 ∷ f32 4 ∷ f32 8 ∷ f32 12 ∷ f32 16 ∷ f32 20 ∷ f32 24 ∷ f32 28 ∷ u32 32 ∷ u32 36 ∷ [])

-- plane_id, side, ledge_id, ledge_num, texinfo_id, typelight, baselight, light, lightmap
abbrev pub face : Layout
face = layout 20 (u16 0 ∷ u16 2 ∷ i32 4 ∷ u16 8 ∷ u16 10 ∷ u8 12 ∷ u8 13 ∷ u8 14 ∷ u8 15 ∷ i32 16 ∷ [])

-- planenum, front, back
abbrev pub clip_node : Layout
clip_node = layout 8 (u32 0 ∷ i16 4 ∷ i16 6 ∷ [])

-- type, vislist, min, max, lface_id, lface_num, sndwater, sndsky, sndslime, sndlava
abbrev pub leaf : Layout
leaf = layout 28 (i32 0 ∷ i32 4 ∷ i16 8 ∷ i16 10 ∷ i16 12 ∷ i16 14 ∷ i16 16 ∷ i16 18 ∷ u16 20 ∷ u16 22 ∷ u8 24 ∷ u8 25 ∷ u8 26 ∷ u8 27 ∷ [])

-- a face's index
abbrev pub face_list : Layout
face_list = layout 2 (u16 0 ∷ [])

-- vertex0, vertex1
abbrev pub edge : Layout
edge = layout 4 (u16 0 ∷ u16 2 ∷ [])

-- an edge's index
abbrev pub edge_list : Layout
edge_list = layout 4 (i32 0 ∷ [])

-- box min, box max, origin, node_id0 to node_id3, numleafs, face_id, face_num
abbrev pub model : Layout
model = layout 64 (f32 0 ∷ f32 4 ∷ f32 8 ∷ f32 12 ∷ f32 16 ∷ f32 20 ∷ f32 24 ∷ f32 28 ∷ f32 32 ∷ i32 36 ∷ i32 40 ∷ i32 44 ∷ i32 48 ∷ i32 52 ∷ i32 56 ∷ i32 60 ∷ [])

-- An entry of the directory: the section's offset from the file's start, and its size in bytes. Entry n stands at 4 + 8 n, behind the version.
abbrev pub entry : Layout
entry = layout 8 (i32 0 ∷ i32 4 ∷ [])

-- the number of each section's entry
abbrev pub entry_number : BspFileSectionId → ℕ
entry_number Entities = 0
entry_number Planes = 1
entry_number Textures = 2
entry_number Vertices = 3
entry_number Visibility = 4
entry_number RenderNodes = 5
entry_number TextureInfo = 6
entry_number Faces = 7
entry_number Lightmaps = 8
entry_number CollisionNodes = 9
entry_number Leaves = 10
entry_number FaceList = 11
entry_number Edges = 12
entry_number EdgeList = 13
entry_number Models = 14

-- the size of each section's records; entities, wall textures, visibility lists and light maps are counted in bytes
abbrev pub record_size : BspFileSectionId → ℕ
record_size Entities = 1
record_size Planes = plane.size
record_size Textures = 1
record_size Vertices = vertex.size
record_size Visibility = 1
record_size RenderNodes = node.size
record_size TextureInfo = texture_info.size
record_size Faces = face.size
record_size Lightmaps = 1
record_size CollisionNodes = clip_node.size
record_size Leaves = leaf.size
record_size FaceList = face_list.size
record_size Edges = edge.size
record_size EdgeList = edge_list.size
record_size Models = model.size

-- The contents of the codes −1 to −14: empty, solid, water, slime, lava, sky, origin, clip, the currents by their angle, up and down. The Rust
-- has no name for sky, origin and clip; sky is taken (document 02, note 1), origin and clip are not.
abbrev pub contents : List (Option BspLeafContents)
contents =
    Some Empty
    ∷ Some Solid
    ∷ Some Water
    ∷ Some Slime
    ∷ Some Lava
    ∷ Some Sky
    ∷ None
    ∷ None
    ∷ Some Current0
    ∷ Some Current90
    ∷ Some Current180
    ∷ Some Current270
    ∷ Some CurrentUp
    ∷ Some CurrentDown
    ∷ []

-- what a number in a file stands for
abbrev pub contents_named : ℤ → Option BspLeafContents
contents_named (pos n) = None
contents_named (negsuc k) = get_or contents k None
