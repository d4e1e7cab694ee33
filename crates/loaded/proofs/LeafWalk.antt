-- A leaf lookup in a table of render nodes, in which no child is contents: it is the same if contents, too, are given a number.
-- Assumes nothing.
use Prim.Native.Nat.{ℕ}
use mathlib.Core.Path.{◌≡◌, refl, ap, subst}
use mathlib.Core.Bool.{Bool, true, false, cond}
use mathlib.Core.List.{List}
use mathlib.Core.Logic.{inl}
use lib.Dec.{ltb}
use Rattle.format.specs.Answer as Ans
use Rattle.format.specs.Answer.{Answer, answer, mapped}
use Rattle.format.specs.declared.section.BspData.{BspData}
use Rattle.math.specs.declared.vector.Vector3.{Vector3}
use Rattle.math.specs.declared.plane.Hyperplane.{Hyperplane}
use Rattle.walk.specs.Table.{Table}
use Rattle.walk.specs.Walk.{with_plane, with_node, enter, meet, point_walk}
use Rattle.walk.proofs.Simulates.{None, like_itself, same_equal, Stands, Enters, Simulates, walks_same}
use Rattle.records.specs.Plane.{plane_of}
use Rattle.records.specs.Node.{render_node_of}
use Rattle.records.specs.declared.node.BspRenderNodeChild.{BspRenderNodeChild}
use Rattle.records.specs.declared.node.BspRenderNodeChild.TheVariants as R
use Rattle.records.specs.declared.node.BspRenderNode.{BspRenderNode}
use Rattle.nodes.specs.Tables.{End, contents, leaf, nothing, render_child, render_node, nodes_of, leaf_table}
use Rattle.nodes.specs.declared.table.HullTable.TheVariants.{Render}

-- every end has a number
abbrev pub numbered : End → Answer ℕ
numbered (contents c) = answer 0
numbered (leaf n) = answer n
numbered nothing = answer 0

module _ (s : List ℕ) (m : BspData) where
  abbrev pub total : Table End ℕ
  total = record { nodes = nodes_of s m Render; plane_at = plane_of s m; leaf_at = numbered }

  abbrev Equal : ℕ → ℕ → Type 0
  Equal i n = i ≡ n

  at_child : (c : BspRenderNodeChild) → Stands None (leaf_table s m) total Equal (render_child c) (render_child c)
  unfolding leaf_table meet
  at_child (R.Node n) = refl
  at_child (R.Leaf n) = like_itself None (meet total (leaf n))

  at_plane : (nd : BspRenderNode) (a : Answer Hyperplane) → Enters None (leaf_table s m) total Equal (with_plane (leaf_table s m) (render_node nd) a) (with_plane total (render_node nd) a)
  at_plane nd (answer h) = (refl, at_child nd.front, at_child nd.back)
  at_plane nd (Ans.refused n) = inl refl

  at_test : (nd : BspRenderNode) (a : Answer Hyperplane) (b : Bool)
      → Enters None (leaf_table s m) total Equal (cond b (with_plane (leaf_table s m) (render_node nd) a) (Ans.refused 30)) (cond b (with_plane total (render_node nd) a) (Ans.refused 30))
  at_test nd a true = at_plane nd a
  at_test nd a false = inl refl

  at_node_lem : (a : Answer BspRenderNode) → Enters None (leaf_table s m) total Equal (with_node (leaf_table s m) (mapped render_node a)) (with_node total (mapped render_node a))
  unfolding leaf_table
  at_node_lem (answer nd) = at_test nd (plane_of s m nd.plane_id) (ltb nd.plane_id total.nodes.planes)
  at_node_lem (Ans.refused n) = inl refl

  at_index : (i : ℕ) → Enters None (leaf_table s m) total Equal (enter (leaf_table s m) i) (enter total i)
  unfolding leaf_table enter
  at_index i = at_node_lem (render_node_of s m i)

  sim : Simulates None (leaf_table s m) total Equal
  unfolding leaf_table
  sim = record {
    in_range = λ i n e. ap (λ (k : ℕ). ltb k total.nodes.count) e;
    enters = λ i n e. subst (λ (k : ℕ). Enters None (leaf_table s m) total Equal (enter (leaf_table s m) i) (enter total k)) e (at_index i);
  }

  pub leaf_walk : (p : Vector3) (root : ℕ) → point_walk (leaf_table s m) root p ≡ point_walk total root p
  unfolding leaf_table
  leaf_walk p root =
      same_equal (point_walk (leaf_table s m) root p) (point_walk total root p) (walks_same None (leaf_table s m) total Equal p sim total.nodes.count root root refl)
