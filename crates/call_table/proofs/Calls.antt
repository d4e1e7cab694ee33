-- The table of specs/Calls.antt, computed. Assumes nothing.
use mathlib.Core.List.{map}
use mathlib.Core.Path.{◌≡◌, refl}
use Rattle.ffi_hull.specs.Layout.{hull_from}
use Rattle.ffi_hull.specs.Calls.{bsp_hull, bsp_box}
use Rattle.ffi_walks.specs.Calls.{bsp_contents, bsp_find_leaf}
use Rattle.ffi_traces.specs.Calls.{bsp_trace}
use Rattle.ffi_entered.specs.Calls.{bsp_contents_nodes, bsp_find_leaf_nodes, bsp_trace_nodes}
use Rattle.ffi_checked.specs.Calls.{bsp_hull_check}
use Rattle.ffi_boxes.specs.Calls.{bsp_contents_box}
use Rattle.ffi_accept.specs.Calls.{bsp_accept}
use Rattle.ffi_points.specs.Calls.{bsp_contents_points}
use Rattle.ffi_line.specs.Calls.{bsp_trace_line}
use Rattle.ffi_order.specs.Calls.{bsp_order, bsp_order_contents}
use Rattle.call_table.specs.Calls.{trials}

pub all_hold : map (λ t. t.definition) trials ≡ map (λ t. t.header) trials
unfolding trials hull_from bsp_hull bsp_box bsp_contents bsp_find_leaf bsp_trace bsp_contents_nodes bsp_find_leaf_nodes bsp_trace_nodes bsp_hull_check bsp_contents_box bsp_accept bsp_contents_points bsp_trace_line bsp_order bsp_order_contents
all_hold = refl
