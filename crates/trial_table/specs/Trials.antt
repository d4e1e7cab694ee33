-- Document 01's trials about the definitions that the contracts cite, in one table: beside what a definition says, what the document says.
-- The marked ones (★) come first, in the document's order and words; then others of the same kinds. proofs/Trials.antt computes them all.
use Rattle.std.specs.Prelude.{ℕ, ◌*◌, Bool, true, false, List, [], ◌∷◌, ◌++◌, ℤ, pos, negsuc, Float, replicate}
use Rattle.std.specs.Float.{fin, nan, inf}
use Rattle.float.specs.Whole.{of_whole}
use Rattle.math.specs.Vector.{vector, dot, normalize}
use Rattle.math.specs.Plane.{axis_x, axis_y, with_normal, new_plane}
use Rattle.math.specs.Box.{box_side}
use Rattle.math.specs.declared.vector.Vector3.{Vector3}
use Rattle.math.specs.declared.plane.Hyperplane.{Hyperplane}
use Rattle.math.specs.declared.bounds.BoxSide.{BoxSide}
use Rattle.math.specs.declared.bounds.BoxSide.TheVariants.{One, Both}
use Rattle.math.specs.declared.plane.HyperplaneSide.TheVariants.{Negative}
use Rattle.format.specs.Answer.{Answer, answer, refused, mapped, then_answer}
use Rattle.format.specs.Listed.{Listed, listed, into}
use Rattle.format.specs.declared.contents.BspLeafContents.{BspLeafContents}
use Rattle.format.specs.declared.contents.BspLeafContents.TheVariants.{Empty, Solid, Sky}
use Rattle.format.specs.declared.section.BspData.{BspData}
use Rattle.format.specs.declared.section.BspFileSection.{BspFileSection}
use Rattle.phys.specs.Trace as Tr
use Rattle.phys.specs.declared.Trace.{Trace}
use Rattle.phys.specs.declared.TraceEnd.{TraceEnd}
use Rattle.walk.specs.Walk.{Outcome, done, refused as stopped, with_visits, point_walk}
use Rattle.walk.specs.Tracing as Tracing
use Rattle.walk.specs.TreeCheck.{Checked, checked, tree_check}
use Rattle.faces.specs.Extents.{extent}
use Rattle.nodes.specs.Tables.{nodes_of, table_of}
use Rattle.nodes.specs.Fast.{tables_of, contents_met}
use Rattle.nodes.specs.declared.table.HullTable.TheVariants.{Clip, Box}
use Rattle.models.specs.Text.{entities_of}
use Rattle.hull.specs.Hull.{for_bounds, hull, hull_table, check_hull}
use Rattle.hull.specs.declared.collision.BspCollisionHull.{BspCollisionHull}
use Rattle.vis.specs.Row.{row_at}
use Rattle.load.specs.Extents.{is_bad}
use Rattle.load.specs.Load.{load_of}

-- what is said of a case: of loading a file, of a visibility row, of the contents at a point and the visits, of a trace and the visits, of
-- an extent and whether it is refused with 12, of the tree check and the marks, of a vector, of a plane, of the side of a box, of the nodes
-- that a walk enters
pub data Said : Type 0 where
  loading : Answer BspData → Said
  row : Answer (List ℕ) → Said
  lent : Listed → Said
  contents : Answer (BspLeafContents × ℕ) → Said
  traced : Answer (Trace × ℕ) → Said
  extents : ℤ → Bool → Said
  check : Checked → Said
  point : Vector3 → Said
  plane : Hyperplane → Said
  side : BoxSide → Said
  entered : List ℕ → Said

pub record Trial : Type 0 where
  pub definition : Said
  pub document : Said

infix 4 ◌gives◌
abbrev pub ◌gives◌ : Said → Said → Trial
d gives e = record { definition = d; document = e }

-- ---- numbers and points: `fin s m e` is m times 2 to the power e, below zero if s is true

abbrev pub zero32 : Float
zero32 = fin false 0 (pos 0)

abbrev pub half : Float
half = fin false 1 (negsuc 0)

abbrev pub one : Float
one = fin false 1 (pos 0)

abbrev pub minus_one : Float
minus_one = fin true 1 (pos 0)

-- 2^30, beside which 1 is lost, and its negative
abbrev pub large : Float
large = fin false 1 (pos 30)

abbrev pub minus_large : Float
minus_large = fin true 1 (pos 30)

-- (x, 0, 0)
abbrev pub on_x : Float → Vector3
on_x x = vector x zero32 zero32

-- ---- files and map records

-- a number below 256 in four bytes
abbrev pub word : ℕ → List ℕ
word n = n ∷ 0 ∷ 0 ∷ 0 ∷ []

-- the 193-byte map, with another version and another size of its models
abbrev pub smallest : ℕ → ℕ → List ℕ
smallest version models =
    word version ++ (word 124 ++ (word 1 ++ (replicate 8 0 ++ (word 125 ++ (word 4 ++ (replicate 88 0 ++ (word 129 ++ (word models ++ replicate 69 0))))))))

abbrev pub section_with : ℕ → ℕ → BspFileSection
section_with offset size = record { offset = offset; size = size }

-- a map record with these sections of entities, planes, textures, clip nodes, leaves and models, and no others
abbrev pub map_with : BspFileSection → BspFileSection → BspFileSection → BspFileSection → BspFileSection → BspFileSection → BspData
map_with entities planes textures clip leaves models = record {
  entities = entities;
  planes = planes;
  textures = textures;
  vertices = section_with 0 0;
  visibility = section_with 0 0;
  render_nodes = section_with 0 0;
  texinfo = section_with 0 0;
  faces = section_with 0 0;
  lightmaps = section_with 0 0;
  collision_nodes = clip;
  leaves = leaves;
  facelist = section_with 0 0;
  edges = section_with 0 0;
  edgelist = section_with 0 0;
  models = models;
  texture_count = 0;
}

-- what loading answers for the 193-byte map
abbrev pub smallest_map : BspData
smallest_map = map_with (section_with 124 1) (section_with 0 0) (section_with 125 4) (section_with 0 0) (section_with 0 0) (section_with 129 64)

-- The 193-byte map with further sections: 88 bytes for those from the vertices to the edge list, and the bytes that follow the model at 193.
abbrev pub furnished : List ℕ → List ℕ → List ℕ
furnished sections bytes =
    word 29 ++ (word 124 ++ (word 1 ++ (replicate 8 0 ++ (word 125 ++ (word 4 ++ (sections ++ (word 129 ++ (word 64 ++ (replicate 69 0 ++ bytes)))))))))

-- ten bytes of visibility data from 190 on, of which the file has three
abbrev pub cut_visibility : List ℕ
cut_visibility = furnished (replicate 8 0 ++ (word 190 ++ (word 10 ++ replicate 72 0))) []

-- a leaf at 193 that is Empty, of whose 28 bytes the file has 25: one of its four sound bytes
abbrev pub cut_sounds : List ℕ
cut_sounds = furnished (replicate 56 0 ++ (word 193 ++ (word 28 ++ replicate 24 0))) (replicate 4 255 ++ replicate 21 0)

-- a leaf at 193 whose contents have the low byte given and 255 in the others
abbrev pub leaf_holds : ℕ → List ℕ
leaf_holds low = furnished (replicate 56 0 ++ (word 193 ++ (word 28 ++ replicate 24 0))) (low ∷ replicate 3 255 ++ replicate 24 0)

-- the 193-byte map with two leaves from 193 on, of which the second, at 221, has no contents code
abbrev pub two_leaves : List ℕ
two_leaves = furnished (replicate 56 0 ++ (word 193 ++ (word 56 ++ replicate 24 0))) (replicate 4 255 ++ (replicate 24 0 ++ (249 ∷ replicate 3 255 ++ replicate 24 0)))

abbrev pub leaf_map : BspData
leaf_map = map_with (section_with 124 1) (section_with 0 0) (section_with 125 4) (section_with 0 0) (section_with 193 28) (section_with 129 64)

-- an edge list of 512,001 entries, one more than there may be, of which the file has none
abbrev pub long_edge_list : List ℕ
long_edge_list = furnished (replicate 80 0 ++ (word 193 ++ (4 ∷ 64 ∷ 31 ∷ 0 ∷ []))) []

-- a render node at 193 and a leaf at 217; both children of the node have the low byte given and the high byte 255
abbrev pub one_leaf : ℕ → List ℕ
one_leaf child =
    furnished (replicate 16 0 ++ (word 193 ++ (word 24 ++ (replicate 32 0 ++ (word 217 ++ (word 28 ++ replicate 24 0))))))
    (word 0 ++ (child ∷ 255 ∷ child ∷ 255 ∷ (replicate 16 0 ++ (replicate 4 255 ++ replicate 24 0))))

-- a render node at 193 and a leaf at 217; the node's first face has the low byte 0 and the high byte given
abbrev pub face_from : ℕ → List ℕ
face_from high =
    furnished (replicate 16 0 ++ (word 193 ++ (word 24 ++ (replicate 32 0 ++ (word 217 ++ (word 28 ++ replicate 24 0))))))
    (word 0 ++ (replicate 4 255 ++ (replicate 12 0 ++ (0 ∷ high ∷ 0 ∷ 0 ∷ (replicate 4 255 ++ replicate 24 0)))))

-- the contents at a point of a hull of the first model
abbrev pub in_model : List ℕ → BspData → ℕ → Vector3 → Said
in_model file map index p = contents (then_answer (hull file map 0 index) (λ h. with_visits (point_walk (hull_table file map h) h.node_id p)))

-- ---- the box from -1 to 1 on each axis, by `for_bounds`; its walks and traces read no bytes

abbrev pub box : Answer BspCollisionHull
box = for_bounds (vector minus_one minus_one minus_one) (vector one one one)

abbrev pub in_box : Vector3 → Said
in_box p = contents (then_answer box (λ h. with_visits (point_walk (hull_table [] smallest_map h) h.node_id p)))

-- one without an end towards positive x
abbrev pub in_long_box : Vector3 → Said
in_long_box p =
    contents (then_answer (for_bounds (vector minus_one minus_one minus_one) (vector (inf false) one one)) (λ h.
    with_visits (point_walk (hull_table [] smallest_map h) h.node_id p)))

-- the nodes on the way to a point, in order
abbrev pub nodes_to : {A : Type 0} → Outcome A → Answer (List ℕ)
nodes_to (done a ns) = answer ns
nodes_to (stopped n) = refused n

abbrev pub numbers_or : Answer (List ℕ) → List ℕ
numbers_or (answer ns) = ns
numbers_or (refused n) = []

abbrev pub entered_in_box : Vector3 → Said
entered_in_box p = entered (numbers_or (then_answer box (λ h. nodes_to (point_walk (hull_table [] smallest_map h) h.node_id p))))

abbrev pub through_box : Vector3 → Vector3 → Said
through_box start end = traced (then_answer box (λ h. with_visits (Tracing.trace (hull_table [] smallest_map h) h.node_id start end)))

-- a trace from a start on: its end, its contents, whether it started solid, and the visits
abbrev pub traced_from : Vector3 → TraceEnd → BspLeafContents → Bool → ℕ → Said
traced_from start end c solid visits = traced (answer (Tr.trace (Tr.start start zero32) end c solid, visits))

-- ---- a face whose texture coordinates run from 0 to 16 times the cast difference, of an info not marked special

abbrev pub of_difference : ℕ → Said
of_difference d = extents (extent zero32 (of_whole false (16 * d))) (is_bad false (extent zero32 (of_whole false (16 * d))))

-- the same from 0 to a number of texture units
abbrev pub of_span : ℕ → Said
of_span n = extents (extent zero32 (of_whole false n)) (is_bad false (extent zero32 (of_whole false n)))

-- ---- two clip nodes of one plane, the plane x = 0; a node is given by the bytes of its children

abbrev pub clip_file : List ℕ → List ℕ → List ℕ
clip_file first second = word 0 ++ (first ++ (word 0 ++ (second ++ (replicate 20 0))))

abbrev pub clip_map : BspData
clip_map = map_with (section_with 0 0) (section_with 16 20) (section_with 0 0) (section_with 0 16) (section_with 0 0) (section_with 0 0)

abbrev pub check_clip : List ℕ → List ℕ → List ℕ → Said
check_clip first second marks = check (tree_check (nodes_of (clip_file first second) clip_map Clip) marks 0)

abbrev pub in_clip : List ℕ → List ℕ → Vector3 → Said
in_clip first second p = contents (with_visits (point_walk (table_of (clip_file first second) clip_map Clip p p) 0 p))

abbrev pub through_clip : List ℕ → List ℕ → Vector3 → Vector3 → Said
through_clip first second start end = traced (with_visits (Tracing.trace (table_of (clip_file first second) clip_map Clip start end) 0 start end))

-- the same where the file ends inside the plane's last byte
abbrev pub cut_plane : List ℕ → List ℕ → Vector3 → Said
cut_plane first second p = contents (with_visits (point_walk (table_of (word 0 ++ (first ++ (word 0 ++ (second ++ (replicate 19 0))))) clip_map Clip p p) 0 p))

-- a hull of these nodes with root 0, made by hand; how many nodes the check of a hull fills in
abbrev pub clip_hull : BspCollisionHull
clip_hull = record { table = Clip; node_id = 0; node_count = 2; mins = on_x zero32; maxs = on_x zero32; tree_nodes = 0; tree_height = 0 }

abbrev pub size_below : List ℕ → List ℕ → Said
size_below first second = contents (mapped (λ h. (Empty, h.tree_nodes)) (check_hull (clip_file first second) clip_map clip_hull (0 ∷ 0 ∷ [])).answer)

-- whether there is a node of an index, of two
abbrev pub node_of_two : ℕ → Said
node_of_two i = contents (mapped (λ n. (Empty, 0)) ((nodes_of (clip_file (1 ∷ 0 ∷ 255 ∷ 255 ∷ []) (255 ∷ 255 ∷ 254 ∷ 255 ∷ [])) clip_map Clip).node_at i))

-- what a word says where it is met as an end of a clip table; no node is entered
abbrev pub met_in_clip : ℕ → Said
met_in_clip word = contents (mapped (λ c. (c, 0)) (contents_met [] (tables_of clip_map Clip (on_x zero32) (on_x zero32)) word))

-- ---- the table

unfoldable pub trials : List Trial
trials =
    -- ★ Empty file: 1.
    (loading (load_of []) gives loading (refused 1))
    -- ★ Version 28: 2.
    ∷ (loading (load_of (smallest 28 64)) gives loading (refused 2))
    -- ★ Row 5, 1 with leaf count 10: 1, 3, 9.
    ∷ (row (row_at (5 ∷ 1 ∷ []) 0 10) gives row (answer (1 ∷ 3 ∷ 9 ∷ [])))
    -- ★ Row 0, 1, 128 with 17: 16.
    ∷ (row (row_at (0 ∷ 1 ∷ 128 ∷ []) 0 17) gives row (answer (16 ∷ [])))
    -- ★ Row 128 with 2: none, by document 02, note 3 (in document 01: 8, past the leaf count).
    ∷ (row (row_at (128 ∷ []) 0 2) gives row (answer []))
    -- ★ Row 0 alone with 2: 33.
    ∷ (row (row_at (0 ∷ []) 0 2) gives row (refused 33))
    -- Box -1 to 1 on each axis: ★ (-1,0,0) Solid
    ∷ (in_box (on_x minus_one) gives contents (answer (Solid, 6)))
    -- ★ (1,0,0) Empty
    ∷ (in_box (on_x one) gives contents (answer (Empty, 1)))
    -- ★ Trace (-3,0,0) to (5,0,0) there: boundary at (-1,0,0), ratio 0.5, normal (-1,0,0), dist 1, 6 visits.
    ∷ (through_box (on_x (fin true 3 (pos 0))) (on_x (fin false 5 (pos 0)))
    gives traced_from (on_x (fin true 3 (pos 0))) (Tr.boundary (on_x minus_one) half (with_normal (on_x minus_one) one)) Empty false 6)
    -- ★ (0,0,0) to (4,0,0): terminal at (1,0,0), started solid, 6 visits.
    ∷ (through_box (on_x zero32) (on_x (fin false 1 (pos 2))) gives traced_from (on_x zero32) (Tr.terminal (on_x one)) Solid true 6)
    -- Cast difference ★ 2,048: -32,768, accepted.
    ∷ (of_difference 2048 gives extents (negsuc 32767) false)
    -- ★ Both children the same node: 34.
    ∷ (check_clip (1 ∷ 0 ∷ 1 ∷ 0 ∷ []) (255 ∷ 255 ∷ 254 ∷ 255 ∷ []) (0 ∷ 0 ∷ []) gives check (checked (refused 34) (0 ∷ 0 ∷ [])))
    -- No model: 6.
    ∷ (loading (load_of (smallest 29 0)) gives loading (refused 6))
    -- the 193-byte map loads
    ∷ (loading (load_of (smallest 29 64)) gives loading (answer smallest_map))
    -- a file that ends inside the visibility data, or inside the last leaf's four sound bytes: 7, not 1
    ∷ (loading (load_of cut_visibility) gives loading (refused 7))
    ∷ (loading (load_of cut_sounds) gives loading (refused 7))
    -- of two leaves the second has no contents code: 10; an edge list above the limit: 6
    ∷ (loading (load_of two_leaves) gives loading (refused 10))
    ∷ (loading (load_of long_edge_list) gives loading (refused 6))
    -- a render node's child -2 is leaf 1, which one leaf does not have: 11
    ∷ (loading (load_of (one_leaf 254)) gives loading (refused 11))
    -- The 193-byte map, contents in hull 1: 30.
    ∷ (in_model (smallest 29 64) smallest_map 1 (on_x zero32) gives contents (refused 30))
    -- Count 1: empty, nothing read.
    ∷ (row (row_at [] 0 1) gives row (answer []))
    -- an offset past the data is refused with any count; one at the data's end is not past it
    ∷ (row (row_at (5 ∷ []) 2 0) gives row (refused 33))
    ∷ (row (row_at (5 ∷ []) 1 1) gives row (answer []))
    -- a lent list keeps its entries past the length; one that is just long enough is filled; one that is too short is left as it is
    ∷ (lent (into (row_at (5 ∷ 1 ∷ []) 0 10) (7 ∷ 7 ∷ 7 ∷ 7 ∷ [])) gives lent (listed (answer 3) (1 ∷ 3 ∷ 9 ∷ 7 ∷ [])))
    ∷ (lent (into (row_at (5 ∷ 1 ∷ []) 0 10) (7 ∷ 7 ∷ 7 ∷ [])) gives lent (listed (answer 3) (1 ∷ 3 ∷ 9 ∷ [])))
    ∷ (lent (into (row_at (5 ∷ 1 ∷ []) 0 10) (7 ∷ 7 ∷ [])) gives lent (listed (refused 22) (7 ∷ 7 ∷ [])))
    -- a box that is flat on the y axis: 21
    ∷ (contents (mapped (λ h. (Empty, 0)) (for_bounds (vector minus_one one minus_one) (vector one one one))) gives contents (refused 21))
    -- a NaN coordinate Empty
    ∷ (in_box (vector nan zero32 zero32) gives contents (answer (Empty, 2)))
    -- at infinity a point is in front of a plane there: the coordinate and the distance are compared, not subtracted
    ∷ (in_long_box (on_x (inf false)) gives contents (answer (Empty, 1)))
    ∷ (in_box (vector zero32 nan zero32) gives contents (answer (Empty, 4)))
    ∷ (in_box (vector zero32 zero32 nan) gives contents (answer (Empty, 6)))
    -- Cast difference 125: extent 2,000, accepted; 126: 12
    ∷ (of_difference 125 gives extents (pos 2000) false)
    ∷ (of_difference 126 gives extents (pos 2016) true)
    -- the box passes the tree check; the marks of its nodes are zero afterwards, and a further one is kept; too few marks stay as they were
    ∷ (check (tree_check (nodes_of [] smallest_map Box) (replicate 7 9) 0) gives check (checked (answer 6) (replicate 6 0 ++ (9 ∷ []))))
    ∷ (check (tree_check (nodes_of [] smallest_map Box) (replicate 5 9) 0) gives check (checked (refused 22) (replicate 5 9)))
    -- a node that is its own front child: the tree check, the walk and the trace
    ∷ (check_clip (0 ∷ 0 ∷ 255 ∷ 255 ∷ []) (255 ∷ 255 ∷ 254 ∷ 255 ∷ []) (0 ∷ 0 ∷ []) gives check (checked (refused 34) (0 ∷ 0 ∷ [])))
    ∷ (in_clip (0 ∷ 0 ∷ 255 ∷ 255 ∷ []) (255 ∷ 255 ∷ 254 ∷ 255 ∷ []) (on_x one) gives contents (refused 31))
    ∷ (through_clip (0 ∷ 0 ∷ 255 ∷ 255 ∷ []) (255 ∷ 255 ∷ 254 ∷ 255 ∷ []) (on_x one) (on_x one) gives traced (refused 32))
    -- a word that is a contents code, and one that is none
    ∷ (met_in_clip 65534 gives contents (answer (Solid, 0)))
    ∷ (met_in_clip 65529 gives contents (refused 23))
    -- Document 02, note 1. A leaf with contents -6 loads; one with -7 is refused with 10, and so is a clip node's child -7 (23 in a walk)
    ∷ (loading (load_of (leaf_holds 250)) gives loading (answer leaf_map))
    ∷ (loading (load_of (leaf_holds 249)) gives loading (refused 10))
    ∷ (in_clip (249 ∷ 255 ∷ 255 ∷ 255 ∷ []) (255 ∷ 255 ∷ 254 ∷ 255 ∷ []) (on_x one) gives contents (refused 23))
    -- sky in front of the plane x = 0 and solid behind it: a point there is in Sky, which is not Solid; a trace goes through it to the plane
    ∷ (in_clip (250 ∷ 255 ∷ 254 ∷ 255 ∷ []) (255 ∷ 255 ∷ 254 ∷ 255 ∷ []) (on_x one) gives contents (answer (Sky, 1)))
    ∷ (through_clip (250 ∷ 255 ∷ 254 ∷ 255 ∷ []) (255 ∷ 255 ∷ 254 ∷ 255 ∷ []) (on_x one) (on_x minus_one)
    gives traced_from (on_x one) (Tr.boundary (on_x zero32) half (axis_x zero32)) Sky false 1)
    -- sky on both sides of the plane: the trace goes on behind it, to its end
    ∷ (through_clip (250 ∷ 255 ∷ 250 ∷ 255 ∷ []) (255 ∷ 255 ∷ 254 ∷ 255 ∷ []) (on_x one) (on_x minus_one) gives traced_from (on_x one) (Tr.terminal (on_x minus_one)) Sky false 1)
    -- a dot product adds from left to right: 1 and 2^30 are 2^30, and with -2^30 it is 0
    ∷ (point (on_x (dot (vector one large minus_large) (vector one one one))) gives point (on_x zero32))
    -- (0, 0, 2) normalised is (0, 0, 1); the plane of the normal (0, 1, 0) is one along y
    ∷ (point (normalize (vector zero32 zero32 (fin false 1 (pos 1)))) gives point (vector zero32 zero32 one))
    ∷ (plane (new_plane (vector zero32 one zero32) one) gives plane (axis_y one))
    -- the box lies behind the plane x = 4, and goes to both sides of the plane x = 0
    ∷ (side (box_side (axis_x (fin false 1 (pos 2))) (vector minus_one minus_one minus_one) (vector one one one)) gives side (One Negative))
    ∷ (side (box_side (axis_x zero32) (vector minus_one minus_one minus_one) (vector one one one)) gives side Both)
    -- 17 texture units are two steps of 16: the values are divided before they are rounded
    ∷ (of_span 17 gives extents (pos 32) false)
    -- a render node's first face with the bytes 0 and 128 is negative: 10
    ∷ (loading (load_of (face_from 128)) gives loading (refused 10))
    -- the entity text of the 193-byte map is its zero byte; that of a section that leads outside the bytes: 23
    ∷ (contents (mapped (λ p. (Empty, p.size)) (entities_of (smallest 29 64) smallest_map)) gives contents (answer (Empty, 1)))
    ∷ (contents (mapped (λ p. (Empty, 0)) (entities_of [] smallest_map)) gives contents (refused 23))
    -- the nodes on the way to the middle of the box, each once; its hull has no size of its tree
    ∷ (entered_in_box (on_x zero32) gives entered (0 ∷ 1 ∷ 2 ∷ 3 ∷ 4 ∷ 5 ∷ []))
    ∷ (contents (mapped (λ h. (Empty, h.tree_nodes)) box) gives contents (answer (Empty, 0)))
    -- node 0 with node 1 in front: two nodes
    ∷ (size_below (1 ∷ 0 ∷ 255 ∷ 255 ∷ []) (255 ∷ 255 ∷ 254 ∷ 255 ∷ []) gives contents (answer (Empty, 2)))
    -- the second of two nodes, and a third, which the file does not have: 20
    ∷ (node_of_two 1 gives contents (answer (Empty, 0)))
    ∷ (node_of_two 2 gives contents (refused 20))
    -- a record whose last byte is not there: 23
    ∷ (cut_plane (255 ∷ 255 ∷ 254 ∷ 255 ∷ []) (255 ∷ 255 ∷ 254 ∷ 255 ∷ []) (on_x one) gives contents (refused 23))
    ∷ []
