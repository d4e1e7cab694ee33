-- Whole-line traces for every file that loads: loading makes its planes and leaves readable (load/proofs/Loads.antt), the check makes the
-- root's tree one (walk/proofs/Check.antt), and line/proofs/Answered.antt asks nothing else. Assumes nothing.
use Prim.Native.Nat.{ℕ}
use mathlib.Core.List.{List}
use mathlib.Core.Path.{◌≡◌, ap, ◌∙◌}
use Rattle.format.specs.Answer.{answer}
use Rattle.format.specs.declared.section.BspData.{BspData}
use Rattle.math.specs.declared.vector.Vector3.{Vector3}
use Rattle.walk.specs.Table.{Nodes}
use Rattle.walk.specs.Tree.{IsTree}
use Rattle.walk.specs.TreeCheck.{tree_check}
use Rattle.walk.proofs.Check.{passes_only}
use Rattle.nodes.specs.Tables.{End, nodes_of, table_of}
use Rattle.nodes.specs.declared.table.HullTable.{HullTable}
use Rattle.tree.proofs.Readable.{reads}
use Rattle.tree.proofs.Laws.{nodes_of_lem}
use Rattle.hull.specs.Hull.{hull_table}
use Rattle.load.proofs.Loads as Loads
use Rattle.line.proofs.Answered.{line_answered}
use Rattle.line.proofs.Carried.{fraction_within}
use Rattle.line_loaded.specs.EveryLine.{EveryLine}

is_tree : (s : List ℕ) (m : BspData) (table : HullTable) (mins maxs : Vector3) (marks : List ℕ) (root h : ℕ) → (tree_check (nodes_of s m table) marks root).answer ≡ answer h
    → IsTree (table_of s m table mins maxs).nodes root
is_tree s m table mins maxs marks root h passed =
    (passes_only (table_of s m table mins maxs).nodes marks root h (ap (λ (N : Nodes End). (tree_check N marks root).answer) (nodes_of_lem s m table mins maxs) ∙ passed)).0

pub every_line : EveryLine
every_line s m loads hull marks h passed start end =
    let r = reads s m (record { planes = Loads.planes s m loads; leaves = Loads.leaves s m loads }) hull.table hull.mins hull.maxs in
    let a = line_answered (hull_table s m hull) r hull.node_id (is_tree s m hull.table hull.mins hull.maxs marks hull.node_id h passed) start end in
    (a.0, a.1, fraction_within (hull_table s m hull) hull.node_id start end a.0 a.1)
