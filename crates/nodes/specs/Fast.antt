-- For the contracts of functions below the calls; a reader of the calls may leave this file out.
-- The node tables as the readers of this crate go by them: fields at a place, the parts of the file and where a record lies in one, nodes as words,
-- planes, what an end says; and of these `table`, which is `table_of` of Tables.antt (proofs/Equal.antt).
use Rattle.std.specs.Prelude.{Option, Some, None, Result, Ok, Err, ◌≡◌, ℕ, ◌+◌, ◌-◌, ◌*◌, ◌/◌, ◌%◌, ◌<◌, ◌≤◌, Bool, true, false, cond, List, length, ◌==◌, from_bits, nat_le, nat_lt, slice_index, slice_index_or, Float}
use Rattle.std.specs.Float.{binary32, nan}
use Rattle.math.specs.Vector as Vec
use Rattle.math.specs.Plane as Pl
use Rattle.math.specs.declared.vector.Vector3.{Vector3}
use Rattle.math.specs.declared.plane.Hyperplane.{Hyperplane}
use Rattle.math.specs.declared.plane.HyperplaneSide.{HyperplaneSide}
use Rattle.format.specs.Answer.{Answer, answer, refused, mapped, then_answer}
use Rattle.format.specs.Refusal.{number_of}
use Rattle.format.specs.declared.refusal.Refusal.{Refusal}
use Rattle.format.specs.Code.{contents_of}
use Rattle.format.specs.declared.contents.BspLeafContents.{BspLeafContents}
use Rattle.format.specs.declared.section.BspData.{BspData}
use Rattle.format.specs.declared.section.BspFileSection.{BspFileSection}
use Rattle.records.specs.Access.{reading}
use Rattle.records.specs.Plane.{plane_at}
use Rattle.records.specs.Node.{collision_node_at, render_node_at}
use Rattle.records.specs.Leaf.{leaf_at}
use Rattle.walk.specs.Table.{Child, node, end, Node, Nodes, Table}
use Rattle.walk.specs.Walk.{meet}
use Rattle.nodes.specs.Tables.{End, contents, leaf, nothing, node_with, clip_node, render_node, nth, box_nodes, box_planes, leaf_in, leaf_contents, leaf_of_end, file_table}
use Rattle.nodes.specs.declared.table.HullTable.{HullTable}
use Rattle.nodes.specs.declared.table.HullTable.TheVariants.{Render, Clip, Box}
use Rattle.nodes.specs.declared.table.Part.{Part}
use Rattle.nodes.specs.declared.table.Tables.{Tables}
use Rattle.nodes.specs.declared.read.Onto.{Onto}
use Rattle.nodes.specs.declared.read.Onto.TheVariants as O
use Rattle.nodes.specs.declared.read.Words.{Words}

-- ---- which table

abbrev pub is_render : HullTable → Bool
is_render Render = true
is_render Clip = false
is_render Box = false

-- ---- bytes

abbrev pub Positive : ℕ → Type 0
Positive n = 0 < n

unfoldable pub u16 : List ℕ → ℕ → ℕ
u16 s at = slice_index s at + 256 * slice_index s (at + 1)

unfoldable pub u32 : List ℕ → ℕ → ℕ
u32 s at = slice_index s at + 256 * slice_index s (at + 1) + 65536 * slice_index s (at + 2) + 16777216 * slice_index s (at + 3)

-- a number that is two words: the one at a place, and 65536 times the next
abbrev pub Pair : List ℕ → ℕ → ℕ → Type 0
Pair s at n = (n % 65536 ≡ u16 s at) × (n / 65536 ≡ u16 s (at + 2))

abbrev pub f32 : List ℕ → ℕ → Float
f32 s at = from_bits binary32 (u32 s at)

-- the bytes n are those of s from the place a on
pub record Within (n s : List ℕ) (a : ℕ) : Type 0 where
  pub inside : a + length n ≤ length s
  pub same : (i : ℕ) → i < length n → slice_index n i ≡ slice_index s (a + i)

-- ---- parts of the file

-- a section of records of the given size, of which the limit allows so many
abbrev pub part_of : BspFileSection → ℕ → ℕ → Part
part_of z size limit =
    record { at = z.offset; count = z.size / size; readable = cond (nat_lt limit (z.size / size)) 0 (z.size / size) }

abbrev pub box_part : ℕ → Part
box_part n = record { at = 0; count = n; readable = 0 }

abbrev pub tables_of : BspData → HullTable → Vector3 → Vector3 → Tables
tables_of m Render mins maxs =
    record {
      table = Render;
      nodes = part_of m.render_nodes 24 32767;
      planes = part_of m.planes 20 8192;
      leaves = part_of m.leaves 28 32767;
      mins = mins;
      maxs = maxs;
    }
tables_of m Clip mins maxs =
    record {
      table = Clip;
      nodes = part_of m.collision_nodes 8 32767;
      planes = part_of m.planes 20 8192;
      leaves = part_of m.leaves 28 32767;
      mins = mins;
      maxs = maxs;
    }
tables_of m Box mins maxs =
    record { table = Box; nodes = box_part 6; planes = box_part 6; leaves = box_part 0; mins = mins; maxs = maxs }

-- where the record i lies in n bytes
unfoldable pub place_in : Part → ℕ → ℕ → ℕ → Answer ℕ
place_in p size n i =
    cond (nat_le p.count i) (refused 20)
    (cond (nat_le p.readable i) (refused 23)
    (cond (nat_le (p.at + i * size + size) n) (answer (p.at + i * size)) (refused 23)))

-- ---- nodes as words

-- the end that a code stands for
abbrev pub coded : Option BspLeafContents → End
coded (Some c) = contents c
coded None = nothing

-- the end that a word from 2^15 on stands for: a leaf's number or a contents code, in two's complement
abbrev pub end_of : HullTable → ℕ → End
end_of Render w = leaf (65535 - w)
end_of Clip w = coded (contents_of (65536 - w))
end_of Box w = coded (contents_of (65536 - w))

abbrev pub child_of : HullTable → ℕ → Child End
child_of t w = cond (nat_lt w 32768) (node w) (end (end_of t w))

-- the child that a word stands for, with an end by its word: below 2^15 a node
abbrev pub onto_word : ℕ → Onto
onto_word w = cond (nat_lt w 32768) (O.Node w) (O.End w)

abbrev pub onto_child : HullTable → Onto → Child End
onto_child t (O.Node n) = node n
onto_child t (O.End w) = end (end_of t w)

-- the children's words
abbrev pub front_of : Words → ℕ
front_of w = w.both % 65536

abbrev pub back_of : Words → ℕ
back_of w = w.both / 65536

abbrev pub node_of : HullTable → Words → Node End
node_of t w = node_with w.plane (child_of t (front_of w)) (child_of t (back_of w))

abbrev pub word_on : Words → Bool → ℕ
word_on w true = front_of w
word_on w false = back_of w

abbrev pub is_invalid : Option BspLeafContents → Bool
is_invalid (Some c) = false
is_invalid None = true

-- neither a node nor contents
unfoldable pub invalid : ℕ → Bool
invalid w = cond (nat_lt w 32768) false (is_invalid (contents_of (65536 - w)))

-- one of two words, of which the second counts 65536 times
abbrev pub either_invalid : ℕ → Bool
either_invalid n = cond (invalid (n % 65536)) true (invalid (n / 65536))

abbrev pub words_answer : HullTable → Result Words Refusal → Answer (Node End)
words_answer t (Ok w) = answer (node_of t w)
words_answer t (Err e) = refused (number_of e)

unfoldable pub clip_node_here : List ℕ → ℕ → Answer (Node End)
clip_node_here s at = mapped clip_node (reading (collision_node_at s at))

unfoldable pub render_node_here : List ℕ → ℕ → Answer (Node End)
render_node_here s at = mapped render_node (reading (render_node_at s at))

-- for private contracts: a render node or a clip node, its size, and what a reader says of one in the bytes n, which are a file's
abbrev pub node_here : Bool → List ℕ → ℕ → Answer (Node End)
node_here true s at = render_node_here s at
node_here false s at = clip_node_here s at

abbrev pub node_size : Bool → ℕ
node_size true = 24
node_size false = 8

abbrev pub ReadsNode : Bool → List ℕ → ℕ → Result Words Refusal → Type 0
ReadsNode render n at r = (s : List ℕ) (a : ℕ) → Within n s a → words_answer (file_table render) r ≡ node_here render s (a + at)

unfoldable pub box_node : ℕ → Answer (Node End)
box_node i = nth box_nodes i

abbrev pub node_in : HullTable → List ℕ → Part → ℕ → Answer (Node End)
node_in Render s p i = then_answer (place_in p 24 (length s) i) (render_node_here s)
node_in Clip s p i = then_answer (place_in p 8 (length s) i) (clip_node_here s)
node_in Box s p i = box_node i

unfoldable pub node_at : List ℕ → Tables → ℕ → Answer (Node End)
node_at s t i = node_in t.table s t.nodes i

-- ---- planes

abbrev pub along : Vector3 → ℕ → Float
along p k = cond (k == 0) p.x (cond (k == 1) p.y p.z)

-- the point of three coordinates
abbrev pub point_of : List Float → Vector3
point_of l = Vec.vector (slice_index_or l 0 nan) (slice_index_or l 1 nan) (slice_index_or l 2 nan)

abbrev pub normal : List ℕ → ℕ → Vector3
normal s at = Vec.vector (f32 s at) (f32 s (at + 4)) (f32 s (at + 8))

-- a plane of type 0, 1 or 2 ignores its normal
unfoldable pub plane_with : ℕ → Vector3 → Float → Hyperplane
plane_with k n d =
    cond (k == 0) (Pl.axis_x d)
    (cond (k == 1) (Pl.axis_y d)
    (cond (k == 2) (Pl.axis_z d)
    (Pl.new_plane n d)))

unfoldable pub plane_here : List ℕ → ℕ → Hyperplane
plane_here s at = plane_with (u32 s (at + 16)) (normal s at) (f32 s (at + 12))

unfoldable pub plane_read : List ℕ → ℕ → Answer Hyperplane
plane_read s at = reading (plane_at s at)

unfoldable pub box_plane : Vector3 → Vector3 → ℕ → Answer Hyperplane
box_plane mins maxs i = nth (box_planes mins maxs) i

abbrev pub plane_for : HullTable → List ℕ → Tables → ℕ → Answer Hyperplane
plane_for Render s t i = then_answer (place_in t.planes 20 (length s) i) (plane_read s)
plane_for Clip s t i = then_answer (place_in t.planes 20 (length s) i) (plane_read s)
plane_for Box s t i = box_plane t.mins t.maxs i

unfoldable pub plane_of_index : List ℕ → Tables → ℕ → Answer Hyperplane
plane_of_index s t i = plane_for t.table s t i

-- the plane's number (30), then the plane
unfoldable pub plane_in : List ℕ → Tables → ℕ → Answer Hyperplane
plane_in s t i = cond (nat_lt i t.planes.count) (plane_of_index s t i) (refused 30)

abbrev pub side_from : Vector3 → Answer Hyperplane → Answer HyperplaneSide
side_from p a = mapped (λ h. Pl.point_side h p) a

abbrev pub sided_answer : Result Bool Refusal → Answer HyperplaneSide
sided_answer (Ok b) = answer (Pl.side_if b)
sided_answer (Err e) = refused (number_of e)

abbrev pub two_dists : Vector3 → Vector3 → Hyperplane → Float × Float
two_dists p q h = (Pl.point_dist h p, Pl.point_dist h q)

abbrev pub dists_from : Vector3 → Vector3 → Answer Hyperplane → Answer (Float × Float)
dists_from p q a = mapped (two_dists p q) a

-- ---- ends

unfoldable pub leaf_contents_here : List ℕ → ℕ → Answer BspLeafContents
leaf_contents_here s at = mapped leaf_contents (reading (leaf_at s at))

abbrev pub end_contents : List ℕ → Tables → End → Answer BspLeafContents
end_contents s t (contents c) = answer c
end_contents s t (leaf n) = then_answer (place_in t.leaves 28 (length s) n) (leaf_contents_here s)
end_contents s t nothing = refused 23

-- ---- the tables

abbrev pub nodes : List ℕ → Tables → Nodes End
nodes s t = record { count = t.nodes.count; planes = t.planes.count; node_at = node_at s t; leaf_in = leaf_in t.leaves.count }

-- for `contents_at_point` and `trace`
abbrev pub table : List ℕ → Tables → Table End BspLeafContents
table s t = record { nodes = nodes s t; plane_at = plane_of_index s t; leaf_at = end_contents s t }

-- for `find_leaf`
abbrev pub leaves : List ℕ → Tables → Table End ℕ
leaves s t = record { nodes = nodes s t; plane_at = plane_of_index s t; leaf_at = leaf_of_end }

-- the contents of the end that a word stands for, when it is met
unfoldable pub contents_met : List ℕ → Tables → ℕ → Answer BspLeafContents
contents_met s t w = meet (table s t) (end_of t.table w)
