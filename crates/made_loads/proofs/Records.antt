-- The records of a made-up map are read back as the numbers say.
-- Assumes nothing.
use Prim.Native.Nat.{ℕ, zero, suc, ◌+◌, ◌^◌, ◌<◌, ◌≤◌, zero-le}
use mathlib.Core.Path.{◌≡◌, refl, ap}
use mathlib.Core.Bool.{Bool, true, false, cond}
use mathlib.Core.List.{List}
use native.Mathlib.Nat.{add-zero}
use native.Mathlib.Omega.{arith}
use borrow.Author.Tests.{le-ltb, eqb-false}
use lib.Dec.{eqb, leb}
use lib.IntN.{ℤ, pos, negsuc}
use lib.Ieee.{Float, binary32, of_bits}
use lib.Ieee.Fits.{of_int-fits}
use lib.ListN.{length, get_or}
use mir.Syntax.{w32}
use mir.Val.{SFits}
use Rattle.format.specs.Step.{ok}
use Rattle.format.specs.Field.{i16_at, index_at}
use Rattle.format.specs.Code.{contents_of, negated_contents}
use Rattle.format.specs.declared.contents.BspLeafContents.{BspLeafContents}
use Rattle.format.specs.declared.contents.BspLeafContents.TheVariants.{Empty, Solid}
use Rattle.math.specs.declared.plane.Hyperplane.{Hyperplane}
use Rattle.math.specs.declared.vector.Vector3.{Vector3}
use Rattle.math.specs.Plane.{axis_x, axis_y, axis_z}
use Rattle.records.specs.Plane.{file_plane, plane_at}
use Rattle.records.specs.Triple.{vector_at, point_at}
use Rattle.records.specs.Number.{index16_at, offset_of, offset_at}
use Rattle.records.specs.Node as Nd
use Rattle.records.specs.Node.{render_child_at, render_node_end_at, render_node_at, collision_child_at, collision_node_at}
use Rattle.records.specs.Leaf.{contents, contents_at, leaf_end_at, leaf_at, sounds_at, up_to}
use Rattle.models.specs.Model.{bounds_at, roots_at, file_model_end_at, file_model_at}
use Rattle.std.specs.Prelude.{None}
use Rattle.written.specs.Bytes.{i16, i32}
use Rattle.made.specs.Map.{axis_of, distance_of, Side, node, solid, empty, front_of, back_of}
use Rattle.made.specs.File.{zeros, plane, render_child, clip_child, render_node, clip_node, leaf, model}
use Rattle.made_loads.specs.Said.{with_sounds, plane_said, corner, render_side, clip_side, render_node_said, clip_node_said, leaf_said, origin, model_said}
use Rattle.written.proofs.Fields.{Reads, then, last, reads_u16, reads_i16, reads_i32, reads_f32, reads_bits, reads_index}

-- zeros

reads_vector : Reads vector_at (zeros 12) origin
unfolding vector_at of_bits
reads_vector = then _ (reads_bits 0 (omega arith)) (then _ (reads_bits 0 (omega arith)) (last _ (reads_bits 0 (omega arith)) (λ p. refl)))

zero_i16 : Reads i16_at (zeros 2) (pos 0)
zero_i16 = reads_i16 (pos 0) (record { sfits = omega arith })

reads_point : Reads point_at (zeros 6) corner
unfolding point_at
reads_point = then _ zero_i16 (then _ zero_i16 (last _ zero_i16 (λ p. refl)))

-- planes

axis_of_lem : (k : ℕ) (normal : Vector3) (d : Float) → k < 3 → file_plane (pos k) normal d ≡ cond (eqb k 0) (axis_x d) (cond (eqb k 1) (axis_y d) (axis_z d))
unfolding file_plane
axis_of_lem zero normal d h = refl
axis_of_lem (suc zero) normal d h = refl
axis_of_lem (suc (suc zero)) normal d h = refl
axis_of_lem (suc (suc (suc k))) normal d h = absurd (omega arith)

pub reads_plane : (number : ℕ) → Reads plane_at (plane number) (plane_said number)
unfolding plane_at plane
reads_plane number =
    then _ reads_vector
    (then _ (reads_f32 (distance_of number) (of_int-fits binary32 _))
    (last _ (reads_i32 (pos (axis_of number)) (record { sfits = omega arith })) (λ p. ap (λ (h : Hyperplane). ok h p) (axis_of_lem (axis_of number) origin (distance_of number) (omega arith)))))

-- nodes

-- a child's number fits its field
abbrev pub Fits16 : Side → Type 0
Fits16 (node k) = k < 2 ^ 15
Fits16 solid = Unit {0}
Fits16 empty = Unit {0}

reads_render_child : (x : Side) → Fits16 x → Reads render_child_at (i16 (render_child x)) (render_side x)
unfolding render_child_at Nd.render_child
reads_render_child (node k) h = last _ (reads_i16 (pos k) (record { sfits = h })) (λ p. rw (le-ltb k 0 zero-le))
reads_render_child solid h = last _ (reads_i16 (negsuc 0) (record { sfits = omega arith })) (λ p. refl)
reads_render_child empty h = last _ (reads_i16 (negsuc 1) (record { sfits = omega arith })) (λ p. refl)

reads_clip_child : (x : Side) → Fits16 x → Reads collision_child_at (i16 (clip_child x)) (clip_side x)
unfolding collision_child_at negated_contents contents_of
reads_clip_child (node k) h = last _ (reads_i16 (pos k) (record { sfits = h })) (λ p. rw (le-ltb k 0 zero-le))
reads_clip_child solid h = last _ (reads_i16 (negsuc 1) (record { sfits = omega arith })) (λ p. refl)
reads_clip_child empty h = last _ (reads_i16 (negsuc 0) (record { sfits = omega arith })) (λ p. refl)

front_fits : (number : ℕ) → Fits16 (front_of number)
front_fits number = by (leb (2 ^ 31) number)
  where
    by : (t : Bool) → Fits16 (cond t solid empty)
    by true = tt
    by false = tt

back_fits : (n i : ℕ) → i < n → n ≤ 2 ^ 15 → Fits16 (back_of n i)
back_fits n i h m = by (eqb (i + 1) n) refl
  where
    by : (t : Bool) → eqb (i + 1) n ≡ t → Fits16 (cond t empty (node (i + 1)))
    by true e = tt
    by false e = let q = eqb-false (i + 1) n e in omega arith

zero_index16 : Reads index16_at (zeros 2) 0
unfolding index16_at
zero_index16 = last _ zero_i16 (λ p. refl)

module _ (n i number : ℕ) (h : i < n) (m : n ≤ 2 ^ 15) where
  pub reads_render_node : Reads render_node_at (render_node n i number) (render_node_said n i number)
  unfolding render_node_at render_node_end_at render_node
  reads_render_node =
      then _ (reads_index 10 i (omega arith))
      (then _ (reads_render_child (front_of number) (front_fits number))
      (then _ (reads_render_child (back_of n i) (back_fits n i h m))
      (then _ reads_point
      (then _ reads_point
      (then _ zero_index16
      (last _ (reads_u16 0 (omega arith)) (λ p. refl)))))))

  pub reads_clip_node : Reads collision_node_at (clip_node n i number) (clip_node_said n i number)
  unfolding collision_node_at clip_node
  reads_clip_node =
      then _ (reads_index 10 i (omega arith))
      (then _ (reads_clip_child (front_of number) (front_fits number))
      (last _ (reads_clip_child (back_of n i) (back_fits n i h m)) (λ p. refl)))

-- leaves

reads_contents : (code : ℤ) (c : BspLeafContents) → SFits w32 code → ((p : ℕ) → contents code p ≡ ok c p) → Reads contents_at (i32 code) c
unfolding contents_at
reads_contents code c f h = last _ (reads_i32 code f) h

reads_no_offset : Reads offset_at (i32 (negsuc 0)) None
unfolding offset_at offset_of
reads_no_offset = last _ (reads_i32 (negsuc 0) (record { sfits = omega arith })) (λ p. refl)

reads_sounds : (c : BspLeafContents) → Reads (λ s at. ok (with_sounds c (sounds_at s at)) (up_to 4 s at)) (zeros 4) (leaf_said c)
reads_sounds c = record { reads = λ s at l. by s at l.inside (l.same 0 (omega arith)) (l.same 1 (omega arith)) (l.same 2 (omega arith)) (l.same 3 (omega arith)) }
  where
    by : (s : List ℕ) (at : ℕ) → at + 4 ≤ length s → get_or s (at + 0) 0 ≡ 0 → get_or s (at + 1) 0 ≡ 0 → get_or s (at + 2) 0 ≡ 0 → get_or s (at + 3) 0 ≡ 0
        → ok (with_sounds c (sounds_at s at)) (up_to 4 s at) ≡ ok (leaf_said c) (at + 4)
    by s at i a b d e =
        let z : get_or s at 0 ≡ 0 = rw (add-zero at) at a in
        let k : up_to 4 s at ≡ at + 4 = omega arith in
        rw (z, b, d, e, k) refl

reads_leaf : (code : ℤ) (c : BspLeafContents) → SFits w32 code → ((p : ℕ) → contents code p ≡ ok c p) → Reads leaf_at (leaf code) (leaf_said c)
unfolding leaf_at leaf_end_at leaf
reads_leaf code c f h =
    then _ (reads_contents code c f h)
    (then _ reads_no_offset
    (then _ reads_point
    (then _ reads_point
    (then _ (reads_u16 0 (omega arith))
    (then _ (reads_u16 0 (omega arith))
    (reads_sounds c))))))

pub reads_solid_leaf : Reads leaf_at (leaf (negsuc 1)) (leaf_said Solid)
unfolding negated_contents contents_of
reads_solid_leaf = reads_leaf (negsuc 1) Solid (record { sfits = omega arith }) (λ p. refl)

pub reads_empty_leaf : Reads leaf_at (leaf (negsuc 0)) (leaf_said Empty)
unfolding negated_contents contents_of
reads_empty_leaf = reads_leaf (negsuc 0) Empty (record { sfits = omega arith }) (λ p. refl)

-- the model

zero_index : Reads (index_at 10) (zeros 4) 0
zero_index = reads_index 10 0 (omega arith)

pub reads_model : Reads file_model_at model model_said
unfolding file_model_at bounds_at roots_at file_model_end_at model
reads_model =
    then _ (then _ reads_vector (then _ reads_vector (last _ reads_vector (λ p. refl))))
    (then _ (then _ zero_index (then _ zero_index (last _ zero_index (λ p. refl))))
    (then _ (reads_i32 (pos 0) (record { sfits = omega arith }))
    (then _ (reads_index 10 1 (omega arith))
    (then _ zero_index
    (last _ zero_index (λ p. refl))))))
