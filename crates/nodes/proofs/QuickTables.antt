-- What a quick walk and the code of an end say of the tables of a map record.
-- Assumes nothing.
use Rattle.std.specs.Prelude.{Option, Some, None}
use Rattle.std.proofs.Common.{◌≡◌, ℕ, ◌-◌, Bool, true, false, cond, List, length, refl, ap, ◌∙◌}
use Rattle.format.specs.Answer as Ans
use Rattle.format.specs.Code.{contents_of}
use Rattle.format.specs.declared.contents.BspLeafContents.{BspLeafContents}
use Rattle.format.specs.declared.section.BspData.{BspData}
use Rattle.math.specs.declared.vector.Vector3.{Vector3}
use Rattle.walk.specs.Table.{Table}
use Rattle.walk.specs.Walk.{with_visits, meet, point_walk}
use Rattle.nodes.specs.Tables.{End, file_table}
use Rattle.nodes.specs.Fast as Fast
use Rattle.nodes.specs.Fast.{contents_met, plane_of_index, table, tables_of}
use Rattle.nodes.specs.Walks.{are_whole, ends}
use Rattle.nodes.specs.Quick.{code_or, end_code, leaves_by, or_nothing, quick_walk, tables_by}
use Rattle.nodes.specs.declared.table.Tables.{Tables}

module _ (s : List ℕ) (m : BspData) (a b : Vector3) where
  abbrev of_map : Bool → Tables
  of_map k = tables_of m (file_table k) a b

  same_ends : (k : Bool) → ends (table s (tables_by k (of_map k).nodes.at (of_map k).nodes.count (of_map k).planes.at (of_map k).planes.count)) ≡ ends (table s (of_map k))
  unfolding Fast.node_at plane_of_index
  same_ends true = refl
  same_ends false = refl

  same_coded : (x : Option BspLeafContents) → meet (table s (leaves_by false (of_map false).leaves.at (of_map false).leaves.count)) (Fast.coded x) ≡ meet (table s (of_map false)) (Fast.coded x)
  unfolding meet
  same_coded (Some c) = refl
  same_coded None = refl

  same_met : (k : Bool) (w : ℕ) → contents_met s (leaves_by k (of_map k).leaves.at (of_map k).leaves.count) w ≡ contents_met s (of_map k) w
  unfolding contents_met meet
  same_met true w = refl
  same_met false w = same_coded (contents_of (65536 - w))

  same_whole : (k : Bool) (n : ℕ) → are_whole (tables_by k (of_map k).nodes.at (of_map k).nodes.count (of_map k).planes.at (of_map k).planes.count) n ≡ are_whole (of_map k) n
  unfolding are_whole
  same_whole true n = refl
  same_whole false n = refl

  pub walk_said : (k : Bool) (root : ℕ) (p : Vector3)
      → quick_walk s (tables_by k (of_map k).nodes.at (of_map k).nodes.count (of_map k).planes.at (of_map k).planes.count) root p
      ≡ cond (are_whole (of_map k) (length s)) (or_nothing (with_visits (point_walk (ends (table s (of_map k))) root p))) (Ans.refused 0)
  unfolding quick_walk
  walk_said k root p =
      ap (λ (b : Bool). cond b (or_nothing (with_visits (point_walk (ends (table s (tables_by k (of_map k).nodes.at (of_map k).nodes.count (of_map k).planes.at (of_map k).planes.count))) root p))) (Ans.refused 0)) (same_whole k (length s))
      ∙ ap (λ (T : Table End End). cond (are_whole (of_map k) (length s)) (or_nothing (with_visits (point_walk T root p))) (Ans.refused 0)) (same_ends k)

  pub code_said : (k : Bool) (w : ℕ) → end_code s k (of_map k).leaves.at (of_map k).leaves.count w ≡ code_or (contents_met s (of_map k) w)
  unfolding end_code
  code_said k w = ap code_or (same_met k w)
