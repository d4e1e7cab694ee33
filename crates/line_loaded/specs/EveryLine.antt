-- Request 6, from end to end: for every file that loads, every hull whose root passed the tree check and every start and end, whatever the
-- floats, the whole-line trace is answered, and its fraction is a NaN or from 0 to 1.
--
--   every file that loads    `load` answers the map record m for the bytes s: its contract's definition, `load_of`
--   passed the tree check    `tree_check` answers the height h, whatever marks were lent: its contract's definition, `tree_check`
--   the whole-line trace     the definition in the contract of `trace_line`, on the same bytes and map record
use Rattle.std.specs.Prelude.{ℕ, List, ◌⊎◌, ◌≡◌, T, Float}
use Rattle.std.specs.Float.{nan}
use Rattle.std.specs.Float.Ieee.{le}
use Rattle.format.specs.Answer.{answer}
use Rattle.format.specs.declared.section.BspData.{BspData}
use Rattle.math.specs.Vector.{zero32, one32}
use Rattle.math.specs.declared.vector.Vector3.{Vector3}
use Rattle.walk.specs.TreeCheck.{tree_check}
use Rattle.nodes.specs.Tables.{nodes_of}
use Rattle.hull.specs.Hull.{hull_table}
use Rattle.hull.specs.declared.collision.BspCollisionHull.{BspCollisionHull}
use Rattle.line.specs.Line.{whole_line}
use Rattle.line.specs.declared.state.LineTrace.{LineTrace}
use Rattle.load.specs.Load.{load_of}

-- a NaN, or from 0 to 1
abbrev pub IsFraction : Float → Type 0
IsFraction x = (x ≡ nan) ⊎ (T (le zero32 x) × T (le x one32))

abbrev pub EveryLine : Type 0
EveryLine =
    (s : List ℕ) (m : BspData) → load_of s ≡ answer m
    → (hull : BspCollisionHull) (marks : List ℕ) (h : ℕ) → (tree_check (nodes_of s m hull.table) marks hull.node_id).answer ≡ answer h
    → (start end : Vector3) → (l : LineTrace) × (whole_line (hull_table s m hull) hull.node_id start end ≡ answer l) × IsFraction l.fraction
