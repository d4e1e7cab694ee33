-- The table of specs/Acceptance.antt, computed. Assumes nothing.
use mathlib.Core.List.{map}
use mathlib.Core.Path.{◌≡◌, refl}
use Rattle.format.specs.Code.{contents_of, negated_contents}
use Rattle.format.specs.Field.{u8_at, u16_at, u32_at, i16_at, i32_at, f32_at, index_at}
use Rattle.format.specs.Section.{record_count, place}
use Rattle.records.specs.Access.{record_of}
use Rattle.records.specs.Edge.{edge_at, edge_index, edge_index_at}
use Rattle.records.specs.Leaf.{contents_at, leaf_end_at, leaf_at}
use Rattle.records.specs.Node.{render_child, render_child_at, render_node_end_at, render_node_at, collision_child_at, collision_node_at}
use Rattle.records.specs.Number.{index16_at, number16_at, count_at, offset_of, offset_at}
use Rattle.records.specs.Triple.{vector_at, point_at}
use Rattle.faces.specs.Face.{side_at, styles_at, face_light_at, face_end_at, face_at}
use Rattle.models.specs.Model.{padded_bounds, bounds_at, roots_at, file_model_end_at, file_model_at, leaf_id_of, model_of}
use Rattle.vis.specs.Row.{bits, row_bits, visible, row_at}
use Rattle.vis.specs.Pvs.{visibility_of, section_row, pvs_of}
use Rattle.walk.specs.TreeCheck.{check_node, tree_check}
use Rattle.accept.specs.Accept.{each, inside, within, edge_check, face_check, leaf_faces, model_faces, model_leaves, row_check, tree_from, model_trees, references, trees, accept_of, marks_for, accept}
use Rattle.file_table.specs.Acceptance.{trials}

pub all_hold : map (λ t. t.definition) trials ≡ map (λ t. t.note) trials
unfolding trials accept accept_of references trees each inside within edge_check face_check leaf_faces model_faces model_leaves row_check tree_from model_trees marks_for check_node tree_check pvs_of section_row visibility_of row_at row_bits bits visible record_of place record_count leaf_at contents_at leaf_end_at negated_contents contents_of u8_at u16_at u32_at i16_at i32_at f32_at index_at offset_at offset_of index16_at number16_at count_at vector_at point_at edge_at edge_index edge_index_at side_at styles_at face_light_at face_end_at face_at padded_bounds bounds_at roots_at file_model_end_at file_model_at leaf_id_of model_of render_child render_child_at render_node_end_at render_node_at collision_child_at collision_node_at
all_hold = refl
