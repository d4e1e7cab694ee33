-- What is known of records of the file that were read: a plane's distance is an f32, and a table with a node that can be read is within its
-- limit. Assumes nothing.
use Prim.Native.Nat.{ℕ, zero, suc, ◌≤◌}
use mathlib.Core.Path.{◌≡◌, ap, subst}
use mathlib.Core.Bool.{Bool, true, false, cond}
use mathlib.Core.List.{List}
use native.Mathlib.Omega.{arith}
use borrow.Author.Tests.{leb-true}
use lib.Dec.{T, eqb}
use lib.Ieee.{Float, binary32, fits, of_bits}
use lib.Ieee.Bits.{of_bits-fits}
use lib.IntN.{ℤ, pos, negsuc}
use Rattle.format.proofs.Answers.{mapped_answer}
use Rattle.format.specs.Answer as Ans
use Rattle.format.specs.Answer.{answer, mapped}
use Rattle.format.specs.Step.{Step, ok, refused, and_then}
use Rattle.format.specs.Field.{u32_at, i32_at, f32_at}
use Rattle.format.specs.Section.{section_of, record_count, within_limit}
use Rattle.format.specs.declared.section.BspData.{BspData}
use Rattle.format.specs.declared.section.BspFileSectionId.{BspFileSectionId}
use Rattle.format.specs.declared.section.BspFileSectionId.TheVariants.{Planes, RenderNodes, CollisionNodes}
use Rattle.math.specs.Plane as Pl
use Rattle.math.specs.declared.vector.Vector3.{Vector3}
use Rattle.math.specs.declared.vector.Axis.TheVariants.{X, Y, Z}
use Rattle.math.specs.declared.plane.Hyperplane.{Hyperplane}
use Rattle.math.proofs.Fits.{FitsPlane, axis_plane_fits, new_plane_fits}
use Rattle.walk.specs.Table.{Node}
use Rattle.walk.specs.Tree.{PlanesFit}
use Rattle.records.specs.Access.{reading, record_of}
use Rattle.records.specs.Triple.{vector_at}
use Rattle.records.specs.Plane.{file_plane, plane_at, plane_of}
use Rattle.records.specs.Node.{render_node_at, collision_node_at}
use Rattle.records.proofs.Readable.{WasRead, was_read, limited}
use Rattle.nodes.specs.Tables.{End, render_node, clip_node, nth, box_planes, nodes_of, table_of}
use Rattle.nodes.specs.declared.table.HullTable.{HullTable}
use Rattle.nodes.specs.declared.table.HullTable.TheVariants.{Render, Clip, Box}
use Rattle.tree.specs.Readable.{Floats}

none : {A : Type 0} {P : Type 0} (n : ℕ) (a : A) → Ans.refused n ≡ answer a → P
none n a e = let z : ◌≡◌ {A = ℕ} 0 1 = cc in absurd (omega arith)

-- ---- planes

abbrev Dist : Hyperplane → Type 0
Dist h = T (fits binary32 h.dist)

either : (t : Bool) {g h : Hyperplane} → FitsPlane g → FitsPlane h → FitsPlane (cond t g h)
either true G H = G
either false G H = H

file_plane_fits : (kind : ℤ) (n : Vector3) (d : Float) → T (fits binary32 d) → FitsPlane (file_plane kind n d)
unfolding file_plane
file_plane_fits (pos k) n d D =
    either (eqb k 0) (axis_plane_fits X d D) (either (eqb k 1) (axis_plane_fits Y d D) (either (eqb k 2) (axis_plane_fits Z d D) (new_plane_fits n d D)))
file_plane_fits (negsuc k) n d D = new_plane_fits n d D

same_dist : (g h : Hyperplane) → answer g ≡ answer h → Dist g → Dist h
same_dist g h e D = let q : g ≡ h = cc in subst Dist q D

plane_at_fits : (s : List ℕ) (at : ℕ) (h : Hyperplane) → reading (plane_at s at) ≡ answer h → Dist h
unfolding plane_at f32_at
plane_at_fits s at h e = normal (vector_at s at) e
  where
    kind : (n : Vector3) (w : ℕ) (x : Step ℤ) → reading (and_then x (λ k next. ok (file_plane k n (of_bits binary32 w)) next)) ≡ answer h → Dist h
    kind n w (ok k next) e = same_dist (file_plane k n (of_bits binary32 w)) h e (file_plane_fits k n (of_bits binary32 w) (of_bits-fits binary32 w)).dist_fits
    kind n w (refused r) e = none 23 h e

    dist : (n : Vector3) (x : Step ℕ)
        → reading (and_then (and_then x (λ w q. ok (of_bits binary32 w) q)) (λ d q. and_then (i32_at s q) (λ k next. ok (file_plane k n d) next))) ≡ answer h → Dist h
    dist n (ok w q) e = kind n w (i32_at s q) e
    dist n (refused r) e = none 23 h e

    normal : (x : Step Vector3)
        → reading (and_then x (λ n p. and_then (f32_at s p) (λ d q. and_then (i32_at s q) (λ k next. ok (file_plane k n d) next)))) ≡ answer h → Dist h
    normal (ok n p) e = dist n (u32_at s p) e
    normal (refused r) e = none 23 h e

plane_of_fits : (s : List ℕ) (m : BspData) (i : ℕ) (h : Hyperplane) → plane_of s m i ≡ answer h → Dist h
plane_of_fits s m i h e =
    let r : WasRead Planes plane_at s m i h = was_read Planes plane_at s m i h e in
    plane_at_fits s r.at h (ap reading r.reads)

box_plane_fits : (mins maxs : Vector3) → Floats mins → Floats maxs → (i : ℕ) (h : Hyperplane) → nth (box_planes mins maxs) i ≡ answer h → Dist h
box_plane_fits mins maxs F G zero h e = same_dist (Pl.axis_x maxs.x) h e G.x_float
box_plane_fits mins maxs F G (suc zero) h e = same_dist (Pl.axis_x mins.x) h e F.x_float
box_plane_fits mins maxs F G (suc (suc zero)) h e = same_dist (Pl.axis_y maxs.y) h e G.y_float
box_plane_fits mins maxs F G (suc (suc (suc zero))) h e = same_dist (Pl.axis_y mins.y) h e F.y_float
box_plane_fits mins maxs F G (suc (suc (suc (suc zero)))) h e = same_dist (Pl.axis_z maxs.z) h e G.z_float
box_plane_fits mins maxs F G (suc (suc (suc (suc (suc zero))))) h e = same_dist (Pl.axis_z mins.z) h e F.z_float
box_plane_fits mins maxs F G (suc (suc (suc (suc (suc (suc i)))))) h e = none 20 h e

pub planes_fit : (s : List ℕ) (m : BspData) (table : HullTable) (mins maxs : Vector3) → Floats mins → Floats maxs → PlanesFit (table_of s m table mins maxs)
unfolding table_of
planes_fit s m Render mins maxs F G = plane_of_fits s m
planes_fit s m Clip mins maxs F G = plane_of_fits s m
planes_fit s m Box mins maxs F G = box_plane_fits mins maxs F G

-- ---- limits

read_within : {A B : Type 0} (id : BspFileSectionId) (one : List ℕ → ℕ → Step A) (f : A → B) (s : List ℕ) (m : BspData) (i : ℕ) (b : B)
    → mapped f (record_of id one s m i) ≡ answer b → within_limit id (record_count id (section_of id m)) ≡ true
read_within {A} id one f s m i b e =
    let v : (v : A) × (record_of id one s m i ≡ answer v) × (f v ≡ b) = mapped_answer f (record_of id one s m i) b e in
    limited id one s m i v.0 v.1

-- a table of which some node can be read holds at most 32,767
pub few_nodes : (s : List ℕ) (m : BspData) (table : HullTable) (i : ℕ) (nd : Node End) → (nodes_of s m table).node_at i ≡ answer nd → (nodes_of s m table).count ≤ 32767
few_nodes s m Render i nd e = leb-true _ _ (read_within RenderNodes render_node_at render_node s m i nd e)
few_nodes s m Clip i nd e = leb-true _ _ (read_within CollisionNodes collision_node_at clip_node s m i nd e)
few_nodes s m Box i nd e = omega arith
