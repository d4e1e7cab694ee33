-- Note 8: 'No other answer or refusal depends on the two.' Two hulls that agree on the fields which the Rust has get the same from every
-- call that takes a hull, lent lists included: from the calls of the core, by the definitions in their contracts, and from the calls for C,
-- where a hull's first nine words hold those fields. proofs/TreeSizes.antt proves `CoreCalls` and `CallsForC`.
use Rattle.std.specs.Prelude.{ℕ, List, ◌≡◌, take, Float}
use Rattle.format.specs.Listed.{into}
use Rattle.format.specs.declared.section.BspData.{BspData}
use Rattle.math.specs.declared.vector.Vector3.{Vector3}
use Rattle.walk.specs.Walk.{with_visits, point_walk}
use Rattle.walk.specs.Tracing as Tracing
use Rattle.hull.specs.Hull.{hull_table, check_hull}
use Rattle.hull.specs.Sizes.{SameOld}
use Rattle.hull.specs.declared.collision.BspCollisionHull.{BspCollisionHull}
use Rattle.entered.specs.Lists.{nodes_entered}
use Rattle.ffi_hull.specs.Layout.{hull_asked}
use Rattle.ffi_walks.specs.Calls.{bsp_contents}
use Rattle.ffi_traces.specs.Calls.{bsp_trace}
use Rattle.ffi_entered.specs.Calls.{bsp_contents_nodes, bsp_trace_nodes}
use Rattle.ffi_checked.specs.Calls.{bsp_hull_check}

-- `contents_at_point`, `trace`, `nodes_to_point`, `nodes_of_trace` and `check_hull`
pub record SameFromCore (s : List ℕ) (m : BspData) (a b : BspCollisionHull) : Type 0 where
  pub contents : (p : Vector3) → with_visits (point_walk (hull_table s m a) a.node_id p) ≡ with_visits (point_walk (hull_table s m b) b.node_id p)
  pub trace : (start end : Vector3) → with_visits (Tracing.trace (hull_table s m a) a.node_id start end) ≡ with_visits (Tracing.trace (hull_table s m b) b.node_id start end)
  pub nodes_to_point : (p : Vector3) (list : List ℕ)
      → into (nodes_entered (point_walk (hull_table s m a) a.node_id p)) list ≡ into (nodes_entered (point_walk (hull_table s m b) b.node_id p)) list
  pub nodes_of_trace : (start end : Vector3) (list : List ℕ)
      → into (nodes_entered (Tracing.trace (hull_table s m a) a.node_id start end)) list ≡ into (nodes_entered (Tracing.trace (hull_table s m b) b.node_id start end)) list
  pub check : (marks : List ℕ) → check_hull s m a marks ≡ check_hull s m b marks

abbrev pub CoreCalls : Type 0
CoreCalls = (s : List ℕ) (m : BspData) (a b : BspCollisionHull) → SameOld a b → SameFromCore s m a b

-- the calls for C: the file s, the map record's words m, the hulls' words h and k
pub record SameFromC (s m h k : List ℕ) : Type 0 where
  pub contents : (point : List Float) (out : List ℕ) → bsp_contents s m h point out ≡ bsp_contents s m k point out
  pub trace : (segment : List Float) (out : List ℕ) → bsp_trace s m h segment out ≡ bsp_trace s m k segment out
  pub contents_nodes : (point : List Float) (list out : List ℕ) → bsp_contents_nodes s m h point list out ≡ bsp_contents_nodes s m k point list out
  pub trace_nodes : (segment : List Float) (list out : List ℕ) → bsp_trace_nodes s m h segment list out ≡ bsp_trace_nodes s m k segment list out
  pub hull_check : (marks out : List ℕ) → bsp_hull_check s m h marks out ≡ bsp_hull_check s m k marks out

abbrev pub CallsForC : Type 0
CallsForC = (s m h k : List ℕ) → take hull_asked h ≡ take hull_asked k → SameFromC s m h k
