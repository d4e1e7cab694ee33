-- The definitions that this crate cites of the calls for C, each from the crate where it stands.

-- those in the contracts of the calls
unfoldable pub use Rattle.ffi_load.specs.Calls.{bsp_load}
unfoldable pub use Rattle.ffi_tree.specs.Calls.{bsp_tree_check}
unfoldable pub use Rattle.ffi_walks.specs.Calls.{bsp_contents, bsp_find_leaf}
unfoldable pub use Rattle.ffi_traces.specs.Calls.{bsp_trace}
unfoldable pub use Rattle.ffi_entered.specs.Calls.{bsp_contents_nodes, bsp_find_leaf_nodes, bsp_trace_nodes}
unfoldable pub use Rattle.ffi_hull.specs.Calls.{bsp_hull}
unfoldable pub use Rattle.ffi_vis.specs.Calls.{bsp_pvs}
unfoldable pub use Rattle.ffi_accept.specs.Calls.{bsp_accept}
-- a point from a list of floats
pub use Rattle.ffi_hull.specs.Layout.{point_at}
-- and, for the proofs, the parts of which these are made
unfoldable pub use Rattle.nodes.specs.Tables.{table_numbered}
pub use Rattle.ffi_tree.specs.Calls.{check_of}
unfoldable pub use Rattle.ffi_hull.specs.Layout.{hull_from}
pub use Rattle.ffi_hull.specs.Layout.{vector_at, hull_in, table_word, hull_words}
pub use Rattle.ffi_walks.specs.Calls.{contents_words, leaf_words}
pub use Rattle.ffi_traces.specs.Layout.{trace_words}
pub use Rattle.ffi_accept.specs.Calls.{status_of, judged_in}
