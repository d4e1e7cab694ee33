-- What can be read of the tables of a file whose planes and leaves can (specs/Readable.antt), and the tree check's exact condition there: render
-- nodes, clip nodes and a box alike. Assumes nothing.
use Prim.Native.Nat.{ℕ, zero, suc, ◌<◌, ◌≤◌}
use mathlib.Core.Path.{◌≡◌, refl, ap}
use mathlib.Core.Bool.{true}
use mathlib.Core.List.{List}
use mathlib.Core.Logic.{◌↔◌}
use native.Mathlib.Omega.{arith}
use borrow.Author.Tests.{ltb-true}
use lib.ListN.{length}
use Rattle.format.specs.Answer.{answer, refused, mapped}
use Rattle.format.specs.declared.contents.BspLeafContents.{BspLeafContents}
use Rattle.format.specs.declared.section.BspData.{BspData}
use Rattle.math.specs.declared.vector.Vector3.{Vector3}
use Rattle.math.specs.Plane.{axis_x, axis_y, axis_z}
use Rattle.math.specs.declared.plane.Hyperplane.{Hyperplane}
use Rattle.walk.specs.TreeCheck.{check_node, tree_check}
use Rattle.walk.specs.Tree.{Reads, IsEnd, IsTree, Fails}
use Rattle.walk.proofs.Check.{answer_is, passes_exactly}
use Rattle.walk.proofs.Refused.{refused_for}
use Rattle.records.specs.Leaf.{leaf_of}
use Rattle.records.specs.declared.leaf.BspLeaf.{BspLeaf}
use Rattle.nodes.specs.Tables.{End, contents, leaf, nothing, leaf_in, leaf_contents, contents_of_end, contents_in_box, nth, box_planes, nodes_of, table_of}
use Rattle.nodes.specs.declared.table.HullTable.{HullTable}
use Rattle.nodes.specs.declared.table.HullTable.TheVariants.{Render, Clip, Box}
use Rattle.nodes.proofs.Ends.{never_nothing}
use Rattle.tree.specs.Readable.{Readable}

-- ---- a box reads no bytes

pub box_planes_read : (mins maxs : Vector3) (i : ℕ) → i < 6 → (h : Hyperplane) × (nth (box_planes mins maxs) i ≡ answer h)
box_planes_read mins maxs zero l = (axis_x maxs.x, refl)
box_planes_read mins maxs (suc zero) l = (axis_x mins.x, refl)
box_planes_read mins maxs (suc (suc zero)) l = (axis_y maxs.y, refl)
box_planes_read mins maxs (suc (suc (suc zero))) l = (axis_y mins.y, refl)
box_planes_read mins maxs (suc (suc (suc (suc zero)))) l = (axis_z maxs.z, refl)
box_planes_read mins maxs (suc (suc (suc (suc (suc zero))))) l = (axis_z mins.z, refl)
box_planes_read mins maxs (suc (suc (suc (suc (suc (suc i)))))) l = absurd (omega arith)

module _ (s : List ℕ) (m : BspData) where
  -- ---- the tree check's exact condition, for either table

  -- it passes exactly if none of its refusals occurs in the root's tree
  pub check_passes : (table : HullTable) (marks : List ℕ) (root : ℕ) → (nodes_of s m table).count ≤ length marks
      → ((h : ℕ) × ((tree_check (nodes_of s m table) marks root).answer ≡ answer h)) ↔ IsTree (nodes_of s m table) root
  check_passes table marks root l = passes_exactly (nodes_of s m table) marks root l

  -- and what it refuses with does occur there
  pub check_refuses : (table : HullTable) (marks : List ℕ) (root r : ℕ) → (nodes_of s m table).count ≤ length marks
      → (tree_check (nodes_of s m table) marks root).answer ≡ refused r → Fails (nodes_of s m table) root r
  check_refuses table marks root r l e = refused_for (nodes_of s m table) root marks r l e

  -- a box passes from its node 0, with the height 6
  pub box_passes : (marks : List ℕ) → 6 ≤ length marks → (tree_check (nodes_of s m Box) marks 0).answer ≡ answer 6
  unfolding check_node
  box_passes marks l = answer_is (nodes_of s m Box) marks 0 l

  -- ---- what can be read

  box_ends_read : (e : End) → IsEnd (nodes_of s m Box) e → leaf_in 0 e ≡ true → (c : BspLeafContents) × (contents_in_box e ≡ answer c)
  box_ends_read (contents c) i h = (c, refl)
  box_ends_read (leaf n) i h = let l : n < 0 = ltb-true n 0 h in absurd (omega arith)
  box_ends_read nothing i h = absurd (never_nothing s m Box i)

  module _ (R : Readable s m) where
    end_read : (t : HullTable) (e : End) → IsEnd (nodes_of s m t) e → (nodes_of s m Render).leaf_in e ≡ true → (c : BspLeafContents) × (contents_of_end s m e ≡ answer c)
    end_read t (contents c) i h = (c, refl)
    end_read t (leaf n) i h =
        let l : (l : BspLeaf) × (leaf_of s m n ≡ answer l) = R.leaves n (ltb-true _ _ h) in
        (l.0.contents, ap (mapped leaf_contents) l.1)
    end_read t nothing i h = absurd (never_nothing s m t i)

    pub reads : (table : HullTable) (mins maxs : Vector3) → Reads (table_of s m table mins maxs)
    unfolding table_of
    reads Render mins maxs = record { planes_read = R.planes; leaves_read = end_read Render }
    reads Clip mins maxs = record { planes_read = R.planes; leaves_read = end_read Clip }
    reads Box mins maxs = record { planes_read = box_planes_read mins maxs; leaves_read = box_ends_read }
