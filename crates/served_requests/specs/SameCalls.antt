-- Note 11 about the calls for C: where a root's tree was written in walking order, the calls that go by the table answer the same words as
-- those that go by the file with a hull of that table and root, for every point, segment and list, refusals too.
use Rattle.std.specs.Prelude.{ℕ, ◌≤◌, Bool, true, false, List, ◌≡◌, ℤ, Float, length, get_or}
use Rattle.ffi_hull.specs.Layout.{hull_asked}
use Rattle.ffi_walks.specs.Calls.{bsp_contents}
use Rattle.ffi_traces.specs.Calls.{bsp_trace}
use Rattle.ffi_order.specs.Calls.{bsp_order, bsp_order_contents, bsp_order_trace}

-- the number of a table: 0 render nodes, 1 clip nodes
abbrev pub table_number : Bool → ℕ
table_number true = 0
table_number false = 1

-- a hull's words with the given table, 0 or 1, and root
pub record HullOf (render : Bool) (root : ℕ) (hull : List ℕ) : Type 0 where
  pub long : hull_asked ≤ length hull
  pub table : get_or hull 0 0 ≡ table_number render
  pub its_root : get_or hull 1 0 ≡ root

pub record Same (s map : List ℕ) (render : Bool) (root : ℕ) (table : List ℤ) : Type 0 where
  pub contents : (hull : List ℕ) → HullOf render root hull → (point : List Float) (out : List ℕ) → bsp_order_contents s map table 0 point out ≡ bsp_contents s map hull point out
  pub trace : (hull : List ℕ) → HullOf render root hull → (segment : List Float) (out : List ℕ) → bsp_order_trace s map table 0 segment out ≡ bsp_trace s map hull segment out

-- where `bsp_order` answers 0, by the table that it leaves
abbrev pub SameCalls : Type 0
SameCalls =
    (s map : List ℕ) (render : Bool) (root : ℕ) (marks : List ℕ) (list : List ℤ) (out : List ℕ)
    → (bsp_order s map (table_number render) root marks list out).status ≡ 0
    → Same s map render root (bsp_order s map (table_number render) root marks list out).table
