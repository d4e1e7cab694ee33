-- The tables that the readers go by are those of specs/Tables.antt.
-- Assumes nothing.
use Rattle.std.proofs.Common.{◌≡◌, ℕ, ◌/◌, Bool, true, false, ltb, leb, List, length, refl, ap, arith, ltb-false, ltb-true, le-leb}
use mathlib.Core.Path.{fun_ext}
use borrow.Author.Tests.{lt-leb}
use Rattle.format.specs.Answer.{Answer, answer, refused, mapped, then_answer}
use Rattle.format.specs.Step.{Step}
use Rattle.format.specs.Section.{element_size, within_limit, record_count, place}
use Rattle.format.specs.declared.section.BspData.{BspData}
use Rattle.format.specs.declared.section.BspFileSection.{BspFileSection}
use Rattle.format.specs.declared.section.BspFileSectionId.{BspFileSectionId}
use Rattle.format.specs.declared.section.BspFileSectionId.TheVariants.{Planes, RenderNodes, CollisionNodes, Leaves}
use Rattle.math.specs.declared.vector.Vector3.{Vector3}
use Rattle.math.specs.declared.plane.Hyperplane.{Hyperplane}
use Rattle.walk.specs.Table.{Nodes, Table}
use Rattle.records.specs.Access.{reading, read_at, record_of}
use Rattle.records.specs.Plane.{plane_at}
use Rattle.records.specs.Node.{collision_node_at, render_node_at}
use Rattle.records.specs.Leaf.{leaf_at}
use Rattle.nodes.specs.Tables.{End, contents, leaf, nothing, render_node, clip_node, leaf_in, leaf_contents, nodes_of, table_of, leaf_table}
use Rattle.nodes.specs.Fast as Fast
use Rattle.nodes.specs.Fast.{part_of, tables_of, place_in, render_node_here, clip_node_here, plane_read, leaf_contents_here}
use Rattle.nodes.specs.declared.table.HullTable.{HullTable}
use Rattle.nodes.specs.declared.table.HullTable.TheVariants.{Render, Clip, Box}

-- a part is a section: where a record lies
module _ (id : BspFileSectionId) (z : BspFileSection) (limit n i : ℕ) (limited : (k : ℕ) → within_limit id k ≡ leb k limit) where
  by_tests : (a b : Bool) → leb (z.size / element_size id) i ≡ a → ltb limit (z.size / element_size id) ≡ b
      → place id z n i ≡ place_in (part_of z (element_size id) limit) (element_size id) n i
  unfolding place place_in record_count
  by_tests true b p q = simp p
  by_tests false true p q =
      rw (limited (z.size / element_size id)) (simp (p, q, lt-leb (z.size / element_size id) limit (ltb-true limit (z.size / element_size id) q), le-leb 0 i (omega arith)))
  by_tests false false p q =
      rw (limited (z.size / element_size id)) (simp (p, q, le-leb (z.size / element_size id) limit (ltb-false limit (z.size / element_size id) q)) refl)

  pub part_place : place id z n i ≡ place_in (part_of z (element_size id) limit) (element_size id) n i
  part_place = by_tests (leb (z.size / element_size id) i) (ltb limit (z.size / element_size id)) refl refl

-- what stands at a place, made into what a walk needs of it
read_map : {A B : Type 0} (f : A → B) (one : ℕ → Step A) (a : Answer ℕ) → then_answer a (λ p. mapped f (reading (one p))) ≡ mapped f (read_at a one)
read_map f one (answer p) = refl
read_map f one (refused n) = refl

read_as_is : {A : Type 0} (one : ℕ → Step A) (a : Answer ℕ) → then_answer a (λ p. reading (one p)) ≡ read_at a one
read_as_is one (answer p) = refl
read_as_is one (refused n) = refl

module _ (s : List ℕ) (m : BspData) (i : ℕ) where
  render_is : then_answer (place_in (part_of m.render_nodes 24 32767) 24 (length s) i) (render_node_here s) ≡ mapped render_node (record_of RenderNodes render_node_at s m i)
  unfolding render_node_here record_of
  render_is =
      rw (← part_place RenderNodes m.render_nodes 32767 (length s) i (λ k. refl))
      (read_map render_node (λ p. render_node_at s p) (place RenderNodes m.render_nodes (length s) i))

  clip_is : then_answer (place_in (part_of m.collision_nodes 8 32767) 8 (length s) i) (clip_node_here s) ≡ mapped clip_node (record_of CollisionNodes collision_node_at s m i)
  unfolding clip_node_here record_of
  clip_is =
      rw (← part_place CollisionNodes m.collision_nodes 32767 (length s) i (λ k. refl))
      (read_map clip_node (λ p. collision_node_at s p) (place CollisionNodes m.collision_nodes (length s) i))

  plane_is : then_answer (place_in (part_of m.planes 20 8192) 20 (length s) i) (plane_read s) ≡ record_of Planes plane_at s m i
  unfolding plane_read record_of
  plane_is =
      rw (← part_place Planes m.planes 8192 (length s) i (λ k. refl)) (read_as_is (λ p. plane_at s p) (place Planes m.planes (length s) i))

  leaf_is : then_answer (place_in (part_of m.leaves 28 32767) 28 (length s) i) (leaf_contents_here s) ≡ mapped leaf_contents (record_of Leaves leaf_at s m i)
  unfolding leaf_contents_here record_of
  leaf_is =
      rw (← part_place Leaves m.leaves 32767 (length s) i (λ k. refl))
      (read_map leaf_contents (λ p. leaf_at s p) (place Leaves m.leaves (length s) i))

three : {A : Type 0} {n n' : Nodes End} {p p' : ℕ → Answer Hyperplane} {l l' : End → Answer A} → n ≡ n' → p ≡ p' → l ≡ l'
    → ◌≡◌ {A = Table End A} (record { nodes = n; plane_at = p; leaf_at = l }) (record { nodes = n'; plane_at = p'; leaf_at = l' })
three a b c = cc

module _ (s : List ℕ) (m : BspData) (mins maxs : Vector3) where
  node_at : (t : HullTable) → Fast.node_at s (tables_of m t mins maxs) ≡ (nodes_of s m t).node_at
  unfolding Fast.node_at Fast.box_node
  node_at Render = fun_ext (render_is s m)
  node_at Clip = fun_ext (clip_is s m)
  node_at Box = refl

  plane_at_lem : (t : HullTable) → Fast.plane_of_index s (tables_of m t mins maxs) ≡ (table_of s m t mins maxs).plane_at
  unfolding Fast.plane_of_index Fast.box_plane table_of
  plane_at_lem Render = fun_ext (plane_is s m)
  plane_at_lem Clip = fun_ext (plane_is s m)
  plane_at_lem Box = refl

  nodes_are : (t : HullTable) → Fast.nodes s (tables_of m t mins maxs) ≡ nodes_of s m t
  unfolding record_count
  nodes_are Render = ap (λ f. record { count = m.render_nodes.size / 24; planes = m.planes.size / 20; node_at = f; leaf_in = leaf_in (m.leaves.size / 28) }) (node_at Render)
  nodes_are Clip = ap (λ f. record { count = m.collision_nodes.size / 8; planes = m.planes.size / 20; node_at = f; leaf_in = leaf_in (m.leaves.size / 28) }) (node_at Clip)
  nodes_are Box = ap (λ f. record { count = 6; planes = 6; node_at = f; leaf_in = leaf_in 0 }) (node_at Box)

  ends_in : (t : HullTable) (e : End) → Fast.end_contents s (tables_of m t mins maxs) e ≡ (table_of s m t mins maxs).leaf_at e
  unfolding table_of place_in
  ends_in Render (contents c) = refl
  ends_in Render (leaf n) = leaf_is s m n
  ends_in Render nothing = refl
  ends_in Clip (contents c) = refl
  ends_in Clip (leaf n) = leaf_is s m n
  ends_in Clip nothing = refl
  ends_in Box (contents c) = refl
  ends_in Box (leaf n) = simp (le-leb 0 n (omega arith))
  ends_in Box nothing = refl

  -- the table of contents
  pub table_is : (t : HullTable) → Fast.table s (tables_of m t mins maxs) ≡ table_of s m t mins maxs
  unfolding table_of
  table_is Render = three (nodes_are Render) (plane_at_lem Render) (fun_ext (ends_in Render))
  table_is Clip = three (nodes_are Clip) (plane_at_lem Clip) (fun_ext (ends_in Clip))
  table_is Box = three (nodes_are Box) (plane_at_lem Box) (fun_ext (ends_in Box))

  -- the table of leaves
  pub leaves_are : Fast.leaves s (tables_of m Render mins maxs) ≡ leaf_table s m
  unfolding leaf_table table_of
  leaves_are = three (nodes_are Render) (plane_at_lem Render) refl
