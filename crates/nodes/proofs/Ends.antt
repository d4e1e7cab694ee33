-- No node of a table has the end `nothing`: a record holds contents, leaves and nodes alone, and a word that is none of them is refused when
-- its node is read. Assumes nothing.
use Rattle.std.proofs.Common.{◌≡◌, ℕ, zero, suc, Bool, true, false, List, sym, refl, ap, ◌∙◌, true≢false}
use Rattle.format.specs.Answer.{Answer, answer, refused, mapped}
use Rattle.format.specs.declared.section.BspData.{BspData}
use Rattle.math.specs.declared.plane.HyperplaneSide.{HyperplaneSide}
use Rattle.math.specs.declared.plane.HyperplaneSide.TheVariants.{Positive, Negative}
use Rattle.walk.specs.Table.{Child, node, end, Node, child_on}
use Rattle.walk.specs.Tree.{IsEnd}
use Rattle.records.specs.Node.{collision_node_of, render_node_of}
use Rattle.records.specs.declared.node.BspCollisionNodeChild.{BspCollisionNodeChild}
use Rattle.records.specs.declared.node.BspCollisionNodeChild.TheVariants as C
use Rattle.records.specs.declared.node.BspCollisionNode.{BspCollisionNode}
use Rattle.records.specs.declared.node.BspRenderNodeChild.{BspRenderNodeChild}
use Rattle.records.specs.declared.node.BspRenderNodeChild.TheVariants as R
use Rattle.records.specs.declared.node.BspRenderNode.{BspRenderNode}
use Rattle.nodes.specs.Tables.{End, contents, leaf, nothing, clip_child, render_child, clip_node, render_node, nth, box_nodes, nodes_of}
use Rattle.nodes.specs.declared.table.HullTable.{HullTable}
use Rattle.nodes.specs.declared.table.HullTable.TheVariants.{Render, Clip, Box}

-- an end that is contents or a leaf
abbrev says : End → Bool
says (contents c) = true
says (leaf n) = true
says nothing = false

abbrev child_says : Child End → Bool
child_says (node n) = true
child_says (end e) = says e

abbrev node_says : HyperplaneSide → Answer (Node End) → Bool
node_says sd (answer nd) = child_says (child_on nd sd)
node_says sd (refused n) = true

clip_child_lem : (c : BspCollisionNodeChild) → child_says (clip_child c) ≡ true
clip_child_lem (C.Node n) = refl
clip_child_lem (C.Contents c) = refl

render_child_lem : (c : BspRenderNodeChild) → child_says (render_child c) ≡ true
render_child_lem (R.Node n) = refl
render_child_lem (R.Leaf n) = refl

of_clip : (sd : HyperplaneSide) (a : Answer BspCollisionNode) → node_says sd (mapped clip_node a) ≡ true
of_clip Positive (answer n) = clip_child_lem n.front
of_clip Negative (answer n) = clip_child_lem n.back
of_clip sd (refused n) = refl

of_render : (sd : HyperplaneSide) (a : Answer BspRenderNode) → node_says sd (mapped render_node a) ≡ true
of_render Positive (answer n) = render_child_lem n.front
of_render Negative (answer n) = render_child_lem n.back
of_render sd (refused n) = refl

of_box : (sd : HyperplaneSide) (i : ℕ) → node_says sd (nth box_nodes i) ≡ true
of_box Positive zero = refl
of_box Negative zero = refl
of_box Positive (suc zero) = refl
of_box Negative (suc zero) = refl
of_box Positive (suc (suc zero)) = refl
of_box Negative (suc (suc zero)) = refl
of_box Positive (suc (suc (suc zero))) = refl
of_box Negative (suc (suc (suc zero))) = refl
of_box Positive (suc (suc (suc (suc zero)))) = refl
of_box Negative (suc (suc (suc (suc zero)))) = refl
of_box Positive (suc (suc (suc (suc (suc zero))))) = refl
of_box Negative (suc (suc (suc (suc (suc zero))))) = refl
of_box sd (suc (suc (suc (suc (suc (suc i)))))) = refl

module _ (s : List ℕ) (m : BspData) where
  of_table : (t : HullTable) (sd : HyperplaneSide) (i : ℕ) → node_says sd ((nodes_of s m t).node_at i) ≡ true
  of_table Render sd i = of_render sd (render_node_of s m i)
  of_table Clip sd i = of_clip sd (collision_node_of s m i)
  of_table Box sd i = of_box sd i

  pub never_nothing : (t : HullTable) → ¬ IsEnd (nodes_of s m t) nothing
  never_nothing t x =
      let a : node_says x.side (answer x.record_of) ≡ true = sym (ap (node_says x.side) x.read_as) ∙ of_table t x.side x.of_node in
      true≢false (sym a ∙ ap child_says x.is_end)
