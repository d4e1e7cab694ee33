-- The trace of a segment down a node table: `recursive_trace` of bsp/mod.rs, in its order. Each call is one node deeper, and 512 calls are allowed.
-- Refusals come in document 01's order: at each node its index (30), then 32, then its record (23), its plane's number (30) and its plane (23);
-- an end is tested (30) and read (23) when it is met.
use Rattle.std.specs.Prelude.{ℕ, zero, suc, Bool, true, false, cond, not, ◌||◌, List, ◌++◌, ltb}
use Rattle.format.specs.Answer as Ans
use Rattle.format.specs.Answer.{Answer, answer}
use Rattle.format.specs.declared.contents.BspLeafContents.{BspLeafContents}
use Rattle.math.specs.Vector as Vec
use Rattle.math.specs.Plane as Pl
use Rattle.math.specs.declared.vector.Vector3.{Vector3}
use Rattle.math.specs.declared.plane.Hyperplane.{Hyperplane}
use Rattle.math.specs.declared.plane.HyperplaneSide.{HyperplaneSide}
use Rattle.math.specs.declared.plane.PointIntersection.{PointIntersection as Crossing}
use Rattle.math.specs.declared.plane.LinePlaneIntersect.{LinePlaneIntersect}
use Rattle.math.specs.declared.plane.LinePlaneIntersect.TheVariants.{NoIntersection, PointIntersection}
use Rattle.phys.specs.Trace as Tr
use Rattle.phys.specs.declared.Trace.{Trace}
use Rattle.walk.specs.Table.{Node, Table, child_on}
use Rattle.walk.specs.Walk.{Outcome, done, refused, entered, Entered, enter, onto}

-- the joined trace, with the nodes of both parts; or what `join` refuses
abbrev pub joined : List ℕ → Answer Trace → Outcome Trace
joined ns (answer t) = done t ns
joined ns (Ans.refused n) = refused n

-- `near.join(far)`
abbrev pub with_far : Trace → List ℕ → Outcome Trace → Outcome Trace
with_far near ns (done far ms) = joined (ns ++ ms) (Tr.join near far)
with_far near ns (refused n) = refused n

-- `near.is_terminal() || near.end_point() != mid`: the trace ends with its near part
abbrev pub stops : Trace → Crossing → Bool
stops near x = Tr.is_terminal near || not (Vec.same near.end.point x.point)

module _ {E : Type 0} (T : Table E BspLeafContents) where
  -- at a node with the record nd and the plane h, for the segment from s to e; `go n s e` is the call for the node n
  module _ (go : ℕ → Vector3 → Vector3 → Outcome Trace) (nd : Node E) (h : Hyperplane) (s e : Vector3) where
    -- from start to end all falls on one side of the plane
    abbrev pub whole_of : HyperplaneSide → Outcome Trace
    whole_of side = onto T (λ n. go n s e) (λ c. Tr.new_trace (Tr.start s Vec.zero32) (Tr.terminal e) c) (child_on nd side)

    -- the near part, from start to the crossing
    abbrev pub near_of : Crossing → Outcome Trace
    near_of x =
        onto T (λ n. go n s x.point)
        (λ c. Tr.new_trace (Tr.start s Vec.zero32) (Tr.boundary x.point x.ratio (Pl.facing (Pl.point_side h s) h)) c)
        (child_on nd (Pl.point_side h s))

    -- the far part, from the crossing to the end
    abbrev pub far_of : Crossing → Outcome Trace
    far_of x =
        onto T (λ n. go n x.point e)
        (λ c. Tr.new_trace (Tr.start x.point x.ratio) (Tr.terminal e) c)
        (child_on nd (Pl.point_side h e))

    -- the early return, or the far part joined on
    abbrev pub after_near : Crossing → Trace → List ℕ → Bool → Outcome Trace
    after_near x near ns true = done near ns
    after_near x near ns false = with_far near ns (far_of x)

    abbrev pub with_near : Crossing → Outcome Trace → Outcome Trace
    with_near x (done near ns) = after_near x near ns (stops near x)
    with_near x (refused n) = refused n

    -- `match plane.line_segment_intersection(start, end)`
    abbrev pub across : LinePlaneIntersect → Outcome Trace
    across (NoIntersection side) = whole_of side
    across (PointIntersection x) = with_near x (near_of x)

  abbrev pub trace_at : (ℕ → Vector3 → Vector3 → Outcome Trace) → ℕ → Vector3 → Vector3 → Answer (Entered E) → Outcome Trace
  trace_at go i s e (answer m) = entered i (across go m.nd m.plane s e (Pl.line_segment m.plane s e))
  trace_at go i s e (Ans.refused n) = refused n

  -- the trace from the node i, with k calls left
  unfoldable pub recursive_trace : ℕ → ℕ → Vector3 → Vector3 → Outcome Trace
  recursive_trace zero i s e = cond (ltb i T.nodes.count) (refused 32) (refused 30)
  recursive_trace (suc k) i s e = cond (ltb i T.nodes.count) (trace_at (λ n s e. recursive_trace k n s e) i s e (enter T i)) (refused 30)

  -- `trace`
  abbrev pub trace : ℕ → Vector3 → Vector3 → Outcome Trace
  trace root s e = recursive_trace 512 root s e
