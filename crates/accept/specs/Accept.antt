-- Whole-map acceptance, Note 4 of document 02, in its order:
--   "face by face, plane, texture info, edge-list range, each edge with its two vertices; every leaf's face-list range and every model's face range (all
--   three ranges: start plus count at most the table's size); every model's inclusive leaf range; the visibility row of each leaf but 0, with the count of
--   all leaves; the tree check for the roots of hulls 0 to 2 of every model, then for render node 0."
--   "22 first of all if the marks are short; else the first failure in that order: 35 a reference outside its table or a row that gets 33, 23 for a record
--   it must read, or a tree's own number."
-- A record is read by the accessors' definitions when a check needs it; what an index leads to is not read unless a later check needs it (of a plane, a
-- texture info and a vertex only the number is looked at, and of the texture section nothing).
use Rattle.std.specs.Prelude.{ℕ, ◌+◌, ◌-◌, max, cond, List, ◌++◌, ltb, eqb, length, replicate, drop}
use Rattle.format.specs.Answer.{Answer, answer, refused, mapped, then_answer}
use Rattle.format.specs.Section.{record_count}
use Rattle.format.specs.declared.section.BspData.{BspData}
use Rattle.format.specs.declared.section.BspFileSectionId.TheVariants.{Planes, Vertices, RenderNodes, TextureInfo, Faces, CollisionNodes, Leaves, FaceList, Edges, EdgeList, Models}
use Rattle.records.specs.Edge.{edge_of, edgelist_of}
use Rattle.records.specs.Leaf.{leaf_of}
use Rattle.records.specs.declared.edge.BspEdge.{BspEdge}
use Rattle.faces.specs.Face.{file_face_of}
use Rattle.faces.specs.declared.face.BspFace.{BspFace}
use Rattle.models.specs.Model.{file_model_of, model_of, leaf_range}
use Rattle.models.specs.declared.model.PerHull.{PerHull}
use Rattle.sections.specs.Records.{one_by_one}
use Rattle.vis.specs.Pvs.{pvs_of}
use Rattle.walk.specs.TreeCheck.{tree_check}
use Rattle.nodes.specs.Tables.{nodes_of}
use Rattle.nodes.specs.declared.table.HullTable.{HullTable}
use Rattle.nodes.specs.declared.table.HullTable.TheVariants.{Render, Clip}

-- a check answers nothing but that it passed, or it is refused
abbrev pub Check : Type 0
Check = Answer (Unit {0})

abbrev pub passes : Check
passes = answer tt

-- a check and, where it passes, the next one
abbrev pub also : Check → Check → Check
also (answer u) next = next
also (refused n) next = refused n

-- the check of n records, one after the other, from record i on: the first refusal
unfoldable pub each : (ℕ → Check) → ℕ → ℕ → Check
each one n i = one_by_one (λ j rest. also (one j) (rest (j + 1))) (λ j. passes) n i

-- a reference into a table of n records
unfoldable pub inside : ℕ → ℕ → Check
inside i n = cond (ltb i n) passes (refused 35)

-- a range: start plus count at most the table's size
unfoldable pub within : ℕ → ℕ → ℕ → Check
within first count n = cond (ltb n (first + count)) (refused 35) passes

-- "a row that gets 33" is 35
abbrev pub whole_row : Answer (List ℕ) → Check
whole_row (answer leaves) = passes
whole_row (refused n) = cond (eqb n 33) (refused 35) (refused n)

module _ (s : List ℕ) (m : BspData) where
  -- "each edge with its two vertices": the vertices, the edge of a number, and entry i of the list of edges
  abbrev pub vertices_check : BspEdge → Check
  vertices_check edge =
      also (inside edge.vertex_id_0 (record_count Vertices m.vertices))
      (inside edge.vertex_id_1 (record_count Vertices m.vertices))

  abbrev pub edge_named : ℕ → Check
  edge_named index = also (inside index (record_count Edges m.edges)) (then_answer (edge_of s m index) (λ edge. vertices_check edge))

  unfoldable pub edge_check : ℕ → Check
  edge_check i = then_answer (edgelist_of s m i) (λ entry. edge_named entry.index)

  -- "face by face, plane, texture info, edge-list range, each edge"
  abbrev pub face_references : BspFace → Check
  face_references face =
      also (inside face.plane_id (record_count Planes m.planes))
      (also (inside face.texinfo_id (record_count TextureInfo m.texinfo))
      (also (within face.edge_id face.edge_count (record_count EdgeList m.edgelist))
      (each edge_check face.edge_count face.edge_id)))

  unfoldable pub face_check : ℕ → Check
  face_check i = then_answer (file_face_of s m i) (λ face. face_references face)

  -- a leaf's face-list range
  unfoldable pub leaf_faces : ℕ → Check
  leaf_faces i =
      then_answer (leaf_of s m i) (λ leaf.
      within leaf.facelist_id leaf.facelist_count (record_count FaceList m.facelist))

  -- a model's face range
  unfoldable pub model_faces : ℕ → Check
  model_faces i =
      then_answer (file_model_of s m i) (λ model.
      within model.face_id model.face_count (record_count Faces m.faces))

  -- a model's inclusive leaf range: its last leaf is a leaf
  unfoldable pub model_leaves : ℕ → Check
  model_leaves i =
      then_answer (model_of s m i) (λ model.
      inside (leaf_range model).last (record_count Leaves m.leaves))

  -- the visibility row of leaf i, with the count of all leaves
  unfoldable pub row_check : ℕ → Check
  row_check i = whole_row (pvs_of s m i (record_count Leaves m.leaves))

  -- the tree check from a root, with marks enough; what they hold does not matter, and the height is not asked
  unfoldable pub tree_from : HullTable → ℕ → Check
  tree_from table root = mapped (λ height. tt) (tree_check (nodes_of s m table) (replicate (nodes_of s m table).count 0) root).answer

  -- the roots of hulls 0 to 2 of model i: hull 0 in the render nodes, hulls 1 and 2 in the clip nodes
  abbrev pub roots_check : PerHull → Check
  roots_check roots =
      also (tree_from Render roots.hull_0)
      (also (tree_from Clip roots.hull_1)
      (tree_from Clip roots.hull_2))

  unfoldable pub model_trees : ℕ → Check
  model_trees i = then_answer (file_model_of s m i) (λ model. roots_check model.collision_node_ids)

  -- the checks before the trees
  unfoldable pub references : Check
  references =
      also (each face_check (record_count Faces m.faces) 0)
      (also (each leaf_faces (record_count Leaves m.leaves) 0)
      (also (each model_faces (record_count Models m.models) 0)
      (also (each model_leaves (record_count Models m.models) 0)
      (each row_check (record_count Leaves m.leaves - 1) 1))))

  -- the trees
  unfoldable pub trees : Check
  trees = also (each model_trees (record_count Models m.models) 0) (tree_from Render 0)

  -- all of them
  unfoldable pub accept_of : Check
  accept_of = also references trees

-- one mark for each node of the larger node table
unfoldable pub marks_for : BspData → ℕ
marks_for m = max (record_count RenderNodes m.render_nodes) (record_count CollisionNodes m.collision_nodes)

-- what acceptance answers, and the marks that it leaves
pub record Judged : Type 0 where
  pub answered : Check
  pub marks : List ℕ

abbrev pub judged : Check → List ℕ → Judged
judged a ms = record { answered = a; marks = ms }

-- 22 first, with the marks untouched. Otherwise, refused or not, the first marks are zero afterwards, and later ones are kept.
unfoldable pub accept : List ℕ → BspData → List ℕ → Judged
accept s m ms =
    cond (ltb (length ms) (marks_for m))
    (judged (refused 22) ms)
    (judged (accept_of s m) (replicate (marks_for m) 0 ++ drop (marks_for m) ms))
