-- Note 8: the number of nodes in a root's tree, said without the tree check. proofs/Size.antt shows that there is at most one such number,
-- and proves `TrueSize`: where the check passes, `tree_size` answers that number and the tree's height.
use Rattle.std.specs.Prelude.{ℕ, ◌↔◌, ◌≡◌, length}
use mathlib.Core.List.{List, Memᴰ}
use Rattle.format.specs.Answer.{answer}
use Rattle.format.specs.declared.section.BspData.{BspData}
use Rattle.walk.specs.Table.{Nodes}
use Rattle.walk.specs.Tree.{NoTwice, InTree, Height}
use Rattle.walk.specs.Order.{sized_check}
use Rattle.nodes.specs.Tables.{nodes_of}
use Rattle.nodes.specs.declared.table.HullTable.{HullTable}

-- the root's tree has n nodes, the root counted: as many as a list has on which each of them stands once and nothing else stands
pub record NodeCount {E : Type 0} (N : Nodes E) (root n : ℕ) : Type 0 where
  pub list : List ℕ
  pub none_twice : NoTwice list
  pub exactly : (i : ℕ) → Memᴰ i list ↔ InTree N root i
  pub as_many : length list ≡ n

-- what `tree_size` answers, for every file, map record, table, root and marks
abbrev pub TrueSize : Type 0
TrueSize =
    (s : List ℕ) (m : BspData) (table : HullTable) (marks : List ℕ) (root n h : ℕ) → (sized_check (nodes_of s m table) marks root).answer ≡ answer (n, h)
    → NodeCount (nodes_of s m table) root n × Height (nodes_of s m table) root h
