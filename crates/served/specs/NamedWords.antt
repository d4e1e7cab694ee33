-- The words of the lists that the calls for C are lent and write, as include/bsp29.h names them.
use Rattle.std.specs.Prelude.{ℕ, List, get_or}
-- how many words each list has at least: BSP_MAP_WORDS, those of a hull that walks and traces ask for, BSP_CONTENTS_WORDS, BSP_LEAF_WORDS, BSP_TRACE_WORDS
pub use Rattle.words.specs.Words.{map_length}
pub use Rattle.ffi_hull.specs.Layout.{hull_asked}
pub use Rattle.ffi_walks.specs.Calls.{contents_length, leaf_length}
pub use Rattle.ffi_traces.specs.Layout.{trace_length}

-- a word of a list
abbrev pub word : ℕ → List ℕ → ℕ
word i ws = get_or ws i 0

-- of a hull: BSP_HULL_TABLE, BSP_HULL_ROOT
abbrev pub hull_table : List ℕ → ℕ
hull_table = word 0

abbrev pub hull_root : List ℕ → ℕ
hull_root = word 1

-- of the answer of bsp_contents: the contents code, the visits
abbrev pub contents_code : List ℕ → ℕ
contents_code = word 0

abbrev pub contents_visits : List ℕ → ℕ
contents_visits = word 1

-- of the answer of bsp_find_leaf: the visits, behind the leaf
abbrev pub leaf_visits : List ℕ → ℕ
leaf_visits = word 1

-- of the answer of bsp_trace: BSP_TRACE_VISITS, BSP_TRACE_START_SOLID
abbrev pub trace_visits : List ℕ → ℕ
trace_visits = word 0

abbrev pub trace_start_solid : List ℕ → ℕ
trace_start_solid = word 2

-- of `out` of a list call: how many nodes are in `list`
abbrev pub node_count : List ℕ → ℕ
node_count = word 0

-- of `out` of bsp_tree_check: the height
abbrev pub tree_height : List ℕ → ℕ
tree_height = word 0

-- BSP_TABLE_RENDER
abbrev pub render_table : ℕ
render_table = 0

-- BSP_SOLID
abbrev pub solid_code : ℕ
solid_code = 2
