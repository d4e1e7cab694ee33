-- The definitions of the calls, each from the crate where the call stands.
pub use Rattle.ffi_load.specs.Calls.{bsp_load}
pub use Rattle.ffi_place.specs.Calls.{bsp_load_place, bsp_version}
pub use Rattle.ffi_records.specs.Calls.{bsp_record}
pub use Rattle.ffi_counts.specs.Calls.{bsp_count, bsp_entities}
pub use Rattle.ffi_hull.specs.Calls.{bsp_hull, bsp_box}
pub use Rattle.ffi_walks.specs.Calls.{bsp_contents, bsp_find_leaf}
pub use Rattle.ffi_traces.specs.Calls.{bsp_trace}
pub use Rattle.ffi_entered.specs.Calls.{bsp_contents_nodes, bsp_find_leaf_nodes, bsp_trace_nodes}
pub use Rattle.ffi_vis.specs.Calls.{bsp_pvs}
pub use Rattle.ffi_team.specs.Calls.{bsp_pvs_team}
pub use Rattle.ffi_tree.specs.Calls.{bsp_tree_check}
pub use Rattle.ffi_checked.specs.Calls.{bsp_hull_check}
pub use Rattle.ffi_boxes.specs.Calls.{bsp_contents_box}
pub use Rattle.ffi_sizes.specs.Calls.{bsp_body_sizes, bsp_hull_sized}
pub use Rattle.ffi_accept.specs.Calls.{bsp_accept}
pub use Rattle.ffi_points.specs.Calls.{bsp_contents_points}
pub use Rattle.ffi_line.specs.Calls.{bsp_trace_line}
pub use Rattle.ffi_order.specs.Calls.{Ordering, ordering, bsp_order, bsp_order_contents, bsp_order_trace}
pub use Rattle.ffi_textures.specs.Calls.{bsp_texture_frame, bsp_texture_static, bsp_texture, bsp_texture_numbers}
pub use Rattle.ffi_made.specs.Calls.{bsp_made_up}
