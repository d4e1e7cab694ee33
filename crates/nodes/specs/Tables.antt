-- The node tables that walks, traces and the tree check go down: render nodes, clip nodes, and the six nodes of a box.
-- Records are read as the accessors read them: 23 where one cannot be read. (Their 20 does not show: an index is tested before, with 30.)
use Rattle.std.specs.Prelude.{ℕ, zero, suc, Bool, true, false, cond, List, [], ◌∷◌, Option, Some, None, eqb, nat_lt}
use Rattle.math.specs.Plane.{axis_x, axis_y, axis_z}
use Rattle.math.specs.declared.vector.Vector3.{Vector3}
use Rattle.math.specs.declared.plane.Hyperplane.{Hyperplane}
use Rattle.format.specs.Answer.{Answer, answer, refused, mapped}
use Rattle.format.specs.Section.{record_count}
use Rattle.format.specs.declared.contents.BspLeafContents.{BspLeafContents}
use Rattle.format.specs.declared.contents.BspLeafContents.TheVariants.{Empty, Solid}
use Rattle.format.specs.declared.section.BspData.{BspData}
use Rattle.format.specs.declared.section.BspFileSectionId.TheVariants.{Planes, RenderNodes, CollisionNodes, Leaves}
use Rattle.records.specs.Plane.{plane_of}
use Rattle.records.specs.Node.{collision_node_of, render_node_of}
use Rattle.records.specs.Leaf.{leaf_of}
use Rattle.records.specs.declared.node.BspCollisionNodeChild.{BspCollisionNodeChild}
use Rattle.records.specs.declared.node.BspCollisionNodeChild.TheVariants as C
use Rattle.records.specs.declared.node.BspCollisionNode.{BspCollisionNode}
use Rattle.records.specs.declared.node.BspRenderNodeChild.{BspRenderNodeChild}
use Rattle.records.specs.declared.node.BspRenderNodeChild.TheVariants as R
use Rattle.records.specs.declared.node.BspRenderNode.{BspRenderNode}
use Rattle.records.specs.declared.leaf.BspLeaf.{BspLeaf}
use Rattle.walk.specs.Table.{Child, node, end, Node, Nodes, Table}
use Rattle.nodes.specs.declared.table.HullTable.{HullTable}
use Rattle.nodes.specs.declared.table.HullTable.TheVariants.{Render, Clip, Box}

-- what stands in a child's place where it is no node: contents (`BspCollisionNodeChild`), or a leaf's number (`BspRenderNodeChild`). A word
-- that is no contents code stands for `nothing`: a node that holds one cannot be read (23), so no node of a table has this end
-- (proofs/Ends.antt), and a caller who asks what such a word says is refused (23).
pub data End : Type 0 where
  contents : BspLeafContents → End
  leaf : ℕ → End
  nothing : End

abbrev pub node_with : ℕ → Child End → Child End → Node End
node_with p f b = record { plane = p; front = f; back = b }

abbrev pub clip_child : BspCollisionNodeChild → Child End
clip_child (C.Node n) = node n
clip_child (C.Contents c) = end (contents c)

abbrev pub render_child : BspRenderNodeChild → Child End
render_child (R.Node n) = node n
render_child (R.Leaf n) = end (leaf n)

abbrev pub clip_node : BspCollisionNode → Node End
clip_node n = node_with n.plane_id (clip_child n.front) (clip_child n.back)

abbrev pub render_node : BspRenderNode → Node End
render_node n = node_with n.plane_id (render_child n.front) (render_child n.back)

-- the element i of a list
abbrev pub nth : {A : Type 0} → List A → ℕ → Answer A
nth [] i = refused 20
nth (x ∷ xs) zero = answer x
nth (x ∷ xs) (suc i) = nth xs i

-- the nodes that `for_bounds` pushes, in its order
abbrev pub box_nodes : List (Node End)
box_nodes =
    node_with 0 (end (contents Empty)) (node 1)
    ∷ node_with 1 (node 2) (end (contents Empty))
    ∷ node_with 2 (end (contents Empty)) (node 3)
    ∷ node_with 3 (node 4) (end (contents Empty))
    ∷ node_with 4 (end (contents Empty)) (node 5)
    ∷ node_with 5 (end (contents Solid)) (end (contents Empty))
    ∷ []

-- and the planes
abbrev pub box_planes : Vector3 → Vector3 → List Hyperplane
box_planes mins maxs =
    axis_x maxs.x
    ∷ axis_x mins.x
    ∷ axis_y maxs.y
    ∷ axis_y mins.y
    ∷ axis_z maxs.z
    ∷ axis_z mins.z
    ∷ []

-- a leaf's number may be outside its table; nothing else has a table to be outside of
abbrev pub leaf_in : ℕ → End → Bool
leaf_in leaves (contents c) = true
leaf_in leaves (leaf n) = nat_lt n leaves
leaf_in leaves nothing = true

-- a box's nodes, the same for every box; it has no leaves
abbrev pub nodes_of_box : Nodes End
nodes_of_box = record { count = 6; planes = 6; node_at = nth box_nodes; leaf_in = leaf_in 0 }

-- the nodes of the file s with the map record m, or a box's
abbrev pub nodes_of : List ℕ → BspData → HullTable → Nodes End
nodes_of s m Render =
    record {
      count = record_count RenderNodes m.render_nodes;
      planes = record_count Planes m.planes;
      node_at = λ i. mapped render_node (render_node_of s m i);
      leaf_in = leaf_in (record_count Leaves m.leaves);
    }
nodes_of s m Clip =
    record {
      count = record_count CollisionNodes m.collision_nodes;
      planes = record_count Planes m.planes;
      node_at = λ i. mapped clip_node (collision_node_of s m i);
      leaf_in = leaf_in (record_count Leaves m.leaves);
    }
nodes_of s m Box = nodes_of_box

abbrev pub leaf_contents : BspLeaf → BspLeafContents
leaf_contents l = l.contents

-- what an end says to `contents_at_point` and `trace`
abbrev pub contents_of_end : List ℕ → BspData → End → Answer BspLeafContents
contents_of_end s m (contents c) = answer c
contents_of_end s m (leaf n) = mapped leaf_contents (leaf_of s m n)
contents_of_end s m nothing = refused 23

abbrev pub contents_in_box : End → Answer BspLeafContents
contents_in_box (contents c) = answer c
contents_in_box (leaf n) = refused 20
contents_in_box nothing = refused 23

-- the table of a box with these bounds, which reads no bytes
abbrev pub box_table : Vector3 → Vector3 → Table End BspLeafContents
box_table mins maxs = record { nodes = nodes_of_box; plane_at = nth (box_planes mins maxs); leaf_at = contents_in_box }

-- `contents_at_point` and `trace`; the bounds are those of a box
unfoldable pub table_of : List ℕ → BspData → HullTable → Vector3 → Vector3 → Table End BspLeafContents
table_of s m Render mins maxs = record { nodes = nodes_of s m Render; plane_at = plane_of s m; leaf_at = contents_of_end s m }
table_of s m Clip mins maxs = record { nodes = nodes_of s m Clip; plane_at = plane_of s m; leaf_at = contents_of_end s m }
table_of s m Box mins maxs = box_table mins maxs

-- what an end says to `find_leaf`: the leaf's number, and its record is not read. (A render node has nothing but nodes and
-- leaves in a child's place.)
abbrev pub leaf_of_end : End → Answer ℕ
leaf_of_end (contents c) = refused 30
leaf_of_end (leaf n) = answer n
leaf_of_end nothing = refused 30

-- `find_leaf`
unfoldable pub leaf_table : List ℕ → BspData → Table End ℕ
leaf_table s m = record { nodes = nodes_of s m Render; plane_at = plane_of s m; leaf_at = leaf_of_end }

abbrev pub is_box : HullTable → Bool
is_box Render = false
is_box Clip = false
is_box Box = true

-- the node table of a number: 0 render nodes, 1 clip nodes, 2 a box
unfoldable pub table_numbered : ℕ → Option HullTable
table_numbered n = cond (eqb n 0) (Some Render) (cond (eqb n 1) (Some Clip) (cond (eqb n 2) (Some Box) None))

-- the table of the file's nodes, render nodes or clip nodes
abbrev pub file_table : Bool → HullTable
file_table true = Render
file_table false = Clip
