-- Note 14 of document 02, of every made-up map: "Every file so written loads, passes Note 4, and reads back as the planes and nodes that the numbers say."
-- proofs/EveryMap.antt proves `EveryMap` and `EveryBuffer`.
use Rattle.std.specs.Prelude.{ℕ, ◌+◌, ◌*◌, ◌<◌, ◌≤◌, List, ◌++◌, ◌≡◌, cond, ltb, length, take, drop, replicate}
use Rattle.format.specs.Answer.{answer, refused}
use Rattle.format.specs.Listed.{listed, into}
use Rattle.format.specs.Section.{record_count}
use Rattle.format.specs.declared.contents.BspLeafContents.TheVariants.{Empty, Solid}
use Rattle.format.specs.declared.section.BspData.{BspData}
use Rattle.format.specs.declared.section.BspFileSectionId.TheVariants.{Planes, RenderNodes, CollisionNodes}
use Rattle.records.specs.Leaf.{leaf_of}
use Rattle.records.specs.Node.{render_node_of, collision_node_of}
use Rattle.records.specs.Plane.{plane_of}
use Rattle.models.specs.Model.{model_of, with_rest}
use Rattle.walk.specs.Tree.{Height}
use Rattle.nodes.specs.Tables.{nodes_of}
use Rattle.nodes.specs.declared.table.HullTable.{HullTable}
use Rattle.nodes.specs.declared.table.HullTable.TheVariants.{Render, Clip}
use Rattle.tree.specs.Size.{NodeCount}
use Rattle.load.specs.Load.{load_of}
use Rattle.accept.specs.Accept.{passes, Judged, judged, accept}
use Rattle.made.specs.Map.{node_number}
use Rattle.made.specs.File.{made_map, file_of, made_up}
use Rattle.made_loads.specs.Said.{plane_said, render_node_said, clip_node_said, leaf_said, model_said}

-- It reads back: so many planes and nodes, and each as its number says; the two leaves and the model, too.
pub record ReadsBack (seed n : ℕ) (s : List ℕ) (m : BspData) : Type 0 where
  pub plane_count : record_count Planes m.planes ≡ n
  pub render_node_count : record_count RenderNodes m.render_nodes ≡ n
  pub clip_node_count : record_count CollisionNodes m.collision_nodes ≡ n
  pub planes : (i : ℕ) → i < n → plane_of s m i ≡ answer (plane_said (node_number seed i))
  pub render_nodes : (i : ℕ) → i < n → render_node_of s m i ≡ answer (render_node_said n i (node_number seed i))
  pub clip_nodes : (i : ℕ) → i < n → collision_node_of s m i ≡ answer (clip_node_said n i (node_number seed i))
  pub solid_leaf : leaf_of s m 0 ≡ answer (leaf_said Solid)
  pub empty_leaf : leaf_of s m 1 ≡ answer (leaf_said Empty)
  pub model : model_of s m 0 ≡ answer (with_rest n 0 model_said)

-- the tree of root 0, which every hull of the model has: n nodes, and as high as that
pub record TreeSaid (n : ℕ) (s : List ℕ) (m : BspData) (table : HullTable) : Type 0 where
  pub nodes : NodeCount (nodes_of s m table) 0 n
  pub height : Height (nodes_of s m table) 0 n

-- what acceptance says of it and leaves in the marks: with a mark for each node it passes, and these marks are zero
abbrev pub accepted : ℕ → List ℕ → Judged
accepted n marks = cond (ltb (length marks) n) (judged (refused 22) marks) (judged passes (replicate n 0 ++ drop n marks))

pub record Sound (seed n : ℕ) : Type 0 where
  pub size : length (file_of seed n) ≡ 249 + n * 52
  pub loads : load_of (file_of seed n) ≡ answer (made_map n)
  pub passes_note_4 : (marks : List ℕ) → accept (file_of seed n) (made_map n) marks ≡ accepted n marks
  pub reads_back : ReadsBack seed n (file_of seed n) (made_map n)
  pub render_tree : TreeSaid n (file_of seed n) (made_map n) Render
  pub clip_tree : TreeSaid n (file_of seed n) (made_map n) Clip

-- for every seed and every node count from 1 to 500
abbrev pub EveryMap : Type 0
EveryMap = (seed n : ℕ) → 1 ≤ n → n ≤ 500 → Sound seed n

-- the same about the call `made_up`: where it answers a length, the front of the buffer that it leaves is such a file
abbrev pub EveryBuffer : Type 0
EveryBuffer = (seed n k : ℕ) (lent left : List ℕ) → listed (answer k) left ≡ into (made_up seed n) lent → (take k left ≡ file_of seed n) × Sound seed n
