-- The table of trials, computed: one proof for all of them. Assumes nothing.
use mathlib.Core.List.{map}
use mathlib.Core.Path.{◌≡◌, refl}
use lib.Ieee.{of_bits, add, sub, mul, div, neg, lt, le, eq, to_signed}
use Rattle.float.specs.Root.{sqrt, root_of_units, nearest_root, digits}
use Rattle.float.specs.Whole.{of_whole, floor_of, ceil_of, times16}
use Rattle.math.specs.Vector.{normalize}
use Rattle.math.specs.Plane.{new_plane, line_segment}
use Rattle.math.specs.Box.{box_side}
use Rattle.format.specs.Contents.{equal}
use Rattle.format.specs.Code.{contents_of, negated_contents}
use Rattle.format.specs.Field.{u16_at, u32_at, i16_at, i32_at, f32_at, index_at}
use Rattle.format.specs.Section.{record_count, place}
use Rattle.phys.specs.Trace as Tr
use Rattle.walk.specs.Walk.{enter, meet, walk}
use Rattle.walk.specs.Tracing.{recursive_trace}
use Rattle.walk.specs.TreeCheck.{check_node, tree_check}
use Rattle.walk.specs.Order.{nodes_below, sized_check}
use Rattle.records.specs.Access.{record_of}
use Rattle.records.specs.Leaf.{contents_at, leaf_end_at, leaf_at}
use Rattle.records.specs.Node.{render_child, render_child_at, render_node_end_at, render_node_at, collision_node_at, collision_child_at}
use Rattle.records.specs.Number.{number_at, index16_at, offset_of, offset_at}
use Rattle.records.specs.Plane.{file_plane, plane_at}
use Rattle.records.specs.Triple.{vector_at, point_at}
use Rattle.faces.specs.Extents.{extent}
use Rattle.models.specs.Model.{padded_bounds, bounds_at, roots_at, file_model_end_at, file_model_at, leaf_id_of, model_of}
use Rattle.models.specs.Text.{text_end, entities_of}
use Rattle.nodes.specs.Tables.{table_of}
use Rattle.nodes.specs.Fast.{contents_met}
use Rattle.hull.specs.Hull.{for_bounds, hull}
use Rattle.sections.specs.Records.{records, section, blob}
use Rattle.sections.specs.Table.{is_multiple, section_at, three_sections_at, table_end_at, table_at, is_version, header_at, exceeds, limits, limits_from_leaves}
use Rattle.utf8.specs.Unicode.{lead, next_of, run, whole, is_utf8}
use Rattle.vis.specs.Row.{bits, row_bits, visible, row_at}
use Rattle.textures.specs.Count.{any}
use Rattle.textures.specs.Group.{sequenced}
use Rattle.textures.specs.Section as Textures
use Rattle.texture_list.specs.List.{listed, textures_at}
use Rattle.load.specs.Entities.{entities}
use Rattle.load.specs.Extents.{is_bad, face_extents}
use Rattle.load.specs.Load.{load_at}
use Rattle.load.specs.Tested.{texinfos, faces, outside, references_at, leaf_references}
use Rattle.trial_table.specs.Trials.{trials}

pub all_hold : map (λ t. t.definition) trials ≡ map (λ t. t.document) trials
unfolding trials contents_at leaf_end_at leaf_at render_child render_child_at render_node_end_at render_node_at index16_at offset_of offset_at point_at outside references_at load_at header_at i32_at u32_at f32_at is_version table_at three_sections_at section_at is_multiple index_at table_end_at limits limits_from_leaves exceeds record_count entities text_end is_utf8 run next_of lead whole Textures.textures textures_at listed sequenced any section records number_at blob texinfos faces face_extents leaf_references file_model_at file_model_end_at bounds_at roots_at vector_at padded_bounds leaf_id_of model_of row_at row_bits bits visible for_bounds hull table_of walk enter meet recursive_trace of_whole of_bits add sub mul div neg lt le eq to_signed line_segment new_plane normalize sqrt root_of_units nearest_root digits equal Tr.join extent floor_of ceil_of times16 is_bad tree_check check_node record_of place collision_node_at collision_child_at plane_at file_plane i16_at u16_at negated_contents contents_of contents_met box_side entities_of nodes_below sized_check
all_hold = refl
