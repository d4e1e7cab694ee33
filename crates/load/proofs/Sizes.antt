-- Each reader takes at most the bytes of its record: its fields' sizes add up to the record's.
-- Assumes nothing.
use Rattle.std.specs.Prelude.{Option, Some, None}
use Prim.Native.Nat.{ℕ}
use mathlib.Core.Bool.{true, false}
use lib.Dec.{eqb, ltb}
use lib.IntN.{pos, negsuc, nat_abs}
use lib.Signed.{lt_z}
use mir.Syntax.{w16, w32}
use Rattle.format.specs.Code.{negated_contents}
use Rattle.format.specs.Step.{ok}
use Rattle.format.specs.declared.contents.BspLeafContents.{BspLeafContents}
use Rattle.records.specs.Edge.{edge_at, edge_index_at}
use Rattle.faces.specs.Face.{side_at, styles_at, face_at, face_end_at, face_light_at}
use Rattle.records.specs.Leaf.{contents_at, leaf_at, leaf_end_at}
use Rattle.models.specs.Model.{bounds_at, roots_at, file_model_at, file_model_end_at}
use Rattle.records.specs.Node.{render_child_at, render_node_at, render_node_end_at, with_contents, collision_child_at, collision_node_at}
use Rattle.records.specs.Number.{index16_at, number16_at, number_at, count_at, offset_at}
use Rattle.records.specs.Plane.{plane_at}
use Rattle.records.specs.Texinfo.{flag_at, texinfo_at, texinfo_end_at}
use Rattle.records.specs.Triple.{vector_at, point_at}
use Rattle.sections.proofs.Bounded.{Bounded, then, of_ok, of_refused, of_when, of_up_to, bounded_u8, bounded_u16, bounded_i16, bounded_i32, bounded_f32, bounded_index}

pub bounded_vector : Bounded vector_at 12
unfolding vector_at
bounded_vector = then bounded_f32 _ 8 (λ x. then bounded_f32 _ 4 (λ y. then bounded_f32 _ 0 (λ z. of_ok _)))

bounded_point : Bounded point_at 6
unfolding point_at
bounded_point = then bounded_i16 _ 4 (λ x. then bounded_i16 _ 2 (λ y. then bounded_i16 _ 0 (λ z. of_ok _)))

bounded_index16 : Bounded index16_at 2
unfolding index16_at
bounded_index16 = then bounded_i16 _ 0 (λ x. of_when (λ s at. lt_z x (pos 0)) 0 (of_refused 10 0) (of_ok (λ s at. nat_abs x)))

bounded_number16 : (most : ℕ) → Bounded (number16_at most) 2
unfolding number16_at
bounded_number16 most = then bounded_index16 _ 0 (λ n. of_when (λ s at. ltb most n) 0 (of_refused 10 0) (of_ok (λ s at. n)))

bounded_number : (most : ℕ) → Bounded (number_at most) 4
unfolding number_at
bounded_number most = then (bounded_index 10) _ 0 (λ n. of_when (λ s at. ltb most n) 0 (of_refused 10 0) (of_ok (λ s at. n)))

bounded_count : (least : ℕ) → Bounded (count_at least) 2
unfolding count_at
bounded_count least = then bounded_index16 _ 0 (λ n. of_when (λ s at. ltb n least) 0 (of_refused 10 0) (of_ok (λ s at. n)))

bounded_offset : Bounded offset_at 4
unfolding offset_at
bounded_offset = then bounded_i32 _ 0 (λ x. of_when (λ s at. lt_z x (negsuc 0)) 0 (of_refused 10 0) (of_ok _))

pub bounded_plane : Bounded plane_at 20
unfolding plane_at
bounded_plane = then bounded_vector _ 8 (λ n. then bounded_f32 _ 4 (λ d. then bounded_i32 _ 0 (λ k. of_ok _)))

pub bounded_edge : Bounded edge_at 4
unfolding edge_at
bounded_edge = then bounded_u16 _ 2 (λ a. then bounded_u16 _ 0 (λ b. of_ok _))

pub bounded_edge_index : Bounded edge_index_at 4
unfolding edge_index_at
bounded_edge_index = then bounded_i32 _ 0 (λ x. of_ok _)

bounded_flag : Bounded flag_at 4
unfolding flag_at
bounded_flag = then (bounded_index 10) _ 0 (λ n. of_when (λ s at. eqb n 0) 0 (of_ok (λ s at. false)) (of_when (λ s at. eqb n 1) 0 (of_ok (λ s at. true)) (of_refused 10 0)))

pub bounded_texinfo : (textures : ℕ) → Bounded (texinfo_at textures) 40
unfolding texinfo_at texinfo_end_at
bounded_texinfo n = then bounded_vector _ 28 (λ a. then bounded_f32 _ 24 (λ b. then bounded_vector _ 12 (λ c. then bounded_f32 _ 8 (λ d. then (bounded_number n) _ 4 (λ t. then bounded_flag _ 0 (λ f. of_ok _))))))

bounded_side : Bounded side_at 2
unfolding side_at
bounded_side = then bounded_index16 _ 0 (λ n. of_when (λ s at. eqb n 0) 0 (of_ok _) (of_when (λ s at. eqb n 1) 0 (of_ok _) (of_refused 10 0)))

bounded_styles : Bounded styles_at 4
unfolding styles_at
bounded_styles = then bounded_u8 _ 3 (λ a. then bounded_u8 _ 2 (λ b. then bounded_u8 _ 1 (λ c. then bounded_u8 _ 0 (λ d. of_ok _))))

pub bounded_face : (planes infos : ℕ) → Bounded (face_at planes infos) 20
unfolding face_at face_end_at face_light_at
bounded_face n k =
    then (bounded_number16 n) _ 18 (λ plane.
    then bounded_side _ 16 (λ side.
    then (bounded_index 10) _ 12 (λ edge.
    then (bounded_count 3) _ 10 (λ count.
    then (bounded_number16 k) _ 8 (λ info.
    then bounded_styles _ 4 (λ styles.
    then bounded_offset _ 0 (λ light. of_ok _)))))))

bounded_render_child : Bounded render_child_at 2
unfolding render_child_at
bounded_render_child = then bounded_i16 _ 0 (λ f. of_ok _)

pub bounded_render_node : Bounded render_node_at 24
unfolding render_node_at render_node_end_at
bounded_render_node =
    then (bounded_index 10) _ 20 (λ plane.
    then bounded_render_child _ 18 (λ front.
    then bounded_render_child _ 16 (λ back.
    then bounded_point _ 10 (λ low.
    then bounded_point _ 4 (λ high.
    then bounded_index16 _ 2 (λ face.
    then bounded_u16 _ 0 (λ count. of_ok _)))))))

-- contents, or 10: no bytes
of_contents_lem : {A : Type 0} (c : Option BspLeafContents) (h : BspLeafContents → A) → Bounded (λ s at. with_contents c (λ x. ok (h x) at)) 0
of_contents_lem (Some x) h = of_ok (λ s at. h x)
of_contents_lem None h = of_refused 10 0

bounded_collision_child : Bounded collision_child_at 2
unfolding collision_child_at
bounded_collision_child = then bounded_i16 _ 0 (λ x. of_when (λ s at. lt_z x (pos 0)) 0 (of_contents_lem (negated_contents w16 x) _) (of_ok _))

pub bounded_collision_node : Bounded collision_node_at 8
unfolding collision_node_at
bounded_collision_node = then (bounded_index 10) _ 4 (λ plane. then bounded_collision_child _ 2 (λ front. then bounded_collision_child _ 0 (λ back. of_ok _)))

bounded_contents : Bounded contents_at 4
unfolding contents_at
bounded_contents = then bounded_i32 _ 0 (λ x. of_contents_lem (negated_contents w32 x) _)

pub bounded_leaf : Bounded leaf_at 28
unfolding leaf_at leaf_end_at
bounded_leaf =
    then bounded_contents _ 24 (λ contents.
    then bounded_offset _ 20 (λ offset.
    then bounded_point _ 14 (λ low.
    then bounded_point _ 8 (λ high.
    then bounded_u16 _ 6 (λ first.
    then bounded_u16 _ 4 (λ count. of_up_to 4 _))))))

bounded_bounds : Bounded bounds_at 36
unfolding bounds_at
bounded_bounds = then bounded_vector _ 24 (λ low. then bounded_vector _ 12 (λ high. then bounded_vector _ 0 (λ origin. of_ok _)))

bounded_roots : Bounded roots_at 12
unfolding roots_at
bounded_roots = then (bounded_index 10) _ 8 (λ a. then (bounded_index 10) _ 4 (λ b. then (bounded_index 10) _ 0 (λ c. of_ok _)))

pub bounded_file_model : Bounded file_model_at 64
unfolding file_model_at file_model_end_at
bounded_file_model =
    then bounded_bounds _ 28 (λ bounds.
    then bounded_roots _ 16 (λ roots.
    then bounded_i32 _ 12 (λ unused.
    then (bounded_index 10) _ 8 (λ leaves.
    then (bounded_index 10) _ 4 (λ face.
    then (bounded_index 10) _ 0 (λ faces. of_ok _))))))
