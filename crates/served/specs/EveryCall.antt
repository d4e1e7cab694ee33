-- Demand 3 at the calls that a server makes: bsp_load, bsp_tree_check, and then bsp_contents, bsp_find_leaf and bsp_trace with the calls that list their
-- nodes. For every file for which bsp_load answers 0, and every table and root for which bsp_tree_check answers 0 on the map words that bsp_load wrote, every
-- hull of that table and root, every point and every segment: each call answers 0; its visits are the number of nodes that the list call writes; each of
-- these is in the root's tree, and none is there twice; and the visits of bsp_contents and bsp_find_leaf are no more than the height that bsp_tree_check wrote.
--
--   every hull          every nine words or more whose table and root are those that were checked: as bsp_hull or bsp_box wrote them, or made by hand
--   every point         every list of three floats or more
--   every segment       every list of six f32 or more
--   the root's tree     `InTree` of walk/specs/Tree.antt, over the nodes of the table in the file
use Rattle.std.specs.Prelude.{ℕ, zero, suc, ◌≤◌, ◌≡◌, Float, length, take}
use mathlib.Core.List.{List, Memᴰ}
use Rattle.walk.specs.Table.{Nodes}
use Rattle.walk.specs.Tree.{NoTwice, InTree}
use Rattle.nodes.specs.Tables.{End, nodes_of}
use Rattle.nodes.specs.declared.table.HullTable.{HullTable}
use Rattle.nodes.specs.declared.table.HullTable.TheVariants.{Render, Clip, Box}
use Rattle.tree.specs.Readable.{Floats}
use Rattle.words.specs.Words.{Written, Left, map_of}
use Rattle.served.specs.Cited.{bsp_load, bsp_tree_check, bsp_contents, bsp_find_leaf, bsp_trace, bsp_contents_nodes, bsp_find_leaf_nodes, bsp_trace_nodes, point_at}
use Rattle.served.specs.NamedWords.{hull_asked, contents_length, leaf_length, trace_length, hull_table, hull_root, contents_visits, leaf_visits, trace_visits, node_count, tree_height, render_table}

-- enum bsp_table: 0, 1 and 2. (From a table above 2 no check passes.)
abbrev pub table_of_number : ℕ → HullTable
table_of_number zero = Render
table_of_number (suc zero) = Clip
table_of_number (suc (suc n)) = Box

-- the nodes of a table in the file s, with the map words of bsp_load
abbrev pub nodes_in : List ℕ → List ℕ → ℕ → Nodes End
nodes_in s map table = nodes_of s (map_of map) (table_of_number table)

module _ (s map : List ℕ) (table root : ℕ) where
  -- what a list call leaves, beside the visits of the call whose nodes it lists
  pub record Lists (visits : ℕ) (left : Left) : Type 0 where
    -- it answers 0
    pub answers : left.status ≡ 0
    -- the number of nodes that it writes is the visits
    pub counted : node_count left.out ≡ visits
    -- these nodes, at the front of `list`, are in the root's tree
    pub in_tree : (n : ℕ) → Memᴰ n (take visits left.list) → InTree (nodes_in s map table) root n
    -- and none of them is there twice
    pub once : NoTwice (take visits left.list)

  -- a call with the visits that it writes, and the call that lists its nodes into the lists `list` and `out` that it is lent
  pub record Served (call : Written) (visits most : ℕ) (nodes : List ℕ → List ℕ → Left) : Type 0 where
    -- it answers 0
    pub answers : call.status ≡ 0
    -- there are no more visits than this
    pub within : visits ≤ most
    -- and the list call does as it should, if `list` has an entry for each visit and `out` one word
    pub lists : (list out : List ℕ) → visits ≤ length list → 1 ≤ length out → Lists visits (nodes list out)

  -- the calls, from a root whose tree has this height
  pub record Calls (height : ℕ) : Type 0 where
    pub contents : (hull : List ℕ) → hull_asked ≤ length hull → hull_table hull ≡ table → hull_root hull ≡ root
        → (point : List Float) → 3 ≤ length point → (out : List ℕ) → contents_length ≤ length out
        → Served (bsp_contents s map hull point out) (contents_visits (bsp_contents s map hull point out).list) height (bsp_contents_nodes s map hull point)
    pub find_leaf : table ≡ render_table
        → (point : List Float) → 3 ≤ length point → (out : List ℕ) → leaf_length ≤ length out
        → Served (bsp_find_leaf s map root point out) (leaf_visits (bsp_find_leaf s map root point out).list) height (bsp_find_leaf_nodes s map root point)
    pub trace : (hull : List ℕ) → hull_asked ≤ length hull → hull_table hull ≡ table → hull_root hull ≡ root
        → (segment : List Float) → 6 ≤ length segment → Floats (point_at segment 0) → Floats (point_at segment 3) → (out : List ℕ) → trace_length ≤ length out
        → Served (bsp_trace s map hull segment out) (trace_visits (bsp_trace s map hull segment out).list) (nodes_in s map table).count (bsp_trace_nodes s map hull segment)

-- the map words that bsp_load wrote
abbrev pub map_written : List ℕ → List ℕ → List ℕ
map_written s lent = (bsp_load s lent).list

abbrev pub EveryCall : Type 0
EveryCall =
    (s lent : List ℕ) → (bsp_load s lent).status ≡ 0
    → (table root : ℕ) (marks out : List ℕ) → (bsp_tree_check s (map_written s lent) table root marks out).status ≡ 0
    → Calls s (map_written s lent) table root (tree_height (bsp_tree_check s (map_written s lent) table root marks out).out)
