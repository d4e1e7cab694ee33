-- For the contracts of functions below the calls; a reader of the calls may leave this file out.
-- The parts of a trace: the child that is met on a side, the traces of a leaf, the near part joined with the far one, and a trace taken up again at
-- a crossing, with the nodes entered before.
use Rattle.std.specs.Prelude.{ℕ, suc, ◌≤◌, ◌≡◌, Bool, true, false, cond, not, ◌||◌, ◌&&◌, List, Float, Result, Ok, Err, Option, Some, None}
use Rattle.format.specs.Answer as Ans
use Rattle.format.specs.Answer.{Answer, answer}
use Rattle.format.specs.Refusal.{number_of}
use Rattle.format.specs.declared.contents.BspLeafContents.{BspLeafContents}
use Rattle.format.specs.declared.refusal.Refusal.{Refusal}
use Rattle.math.specs.Vector as Vec
use Rattle.math.specs.Vector.{zero32}
use Rattle.math.specs.Plane as Pl
use Rattle.math.specs.declared.vector.Vector3.{Vector3}
use Rattle.math.specs.declared.plane.Hyperplane.{Hyperplane}
use Rattle.phys.specs.Trace as Tr
use Rattle.format.specs.Contents as Contents
use Rattle.format.specs.declared.contents.BspLeafContents.TheVariants.{Solid}
use Rattle.phys.specs.declared.Trace.{Trace as TraceT}
use Rattle.phys.specs.declared.TraceStart.{TraceStart}
use Rattle.phys.specs.declared.TraceEnd.{TraceEnd}
use Rattle.walk.specs.Table.{Child, node, end, Node, Table, child_on}
use Rattle.walk.specs.Walk.{Outcome, refused, meet}
use Rattle.walk.specs.Private.{after}
use Rattle.walk.specs.Tracing.{recursive_trace, near_of, with_near}
use Rattle.nodes.specs.Fast as Fast
use Rattle.nodes.specs.Owned.{Owned}
use Rattle.nodes.specs.declared.table.Tables.{Tables}
use Rattle.nodes.specs.declared.read.Words.{Words}
use Rattle.hull.specs.declared.tracing.Went.{Went}
use Rattle.hull.specs.declared.tracing.MetChild.{MetChild}
use Rattle.hull.specs.declared.tracing.MetChild.TheVariants as M
use Rattle.hull.specs.declared.tracing.Descent.{Descent}
use Rattle.hull.specs.declared.tracing.Descent.TheVariants as D

-- ---- a trace by numbers alone: where it comes to, with its plane by number

-- a start of the whole
abbrev pub at_start : Vector3 → TraceStart
at_start s = Tr.start s zero32

-- the plane of an answer; where there is none, any
abbrev pub plane_or : Answer Hyperplane → Hyperplane
plane_or (answer h) = h
plane_or (Ans.refused n) = Pl.axis_x zero32

-- the plane of a number, turned to a side
abbrev pub plane_met : List ℕ → Tables → ℕ → Bool → Hyperplane
plane_met f t i front = Pl.facing (Pl.side_if front) (plane_or (Fast.plane_in f t i))

-- its end, and the trace from a start
abbrev pub end_of : List ℕ → Tables → Went → TraceEnd
end_of f t g = cond g.met (Tr.boundary g.end g.ratio (plane_met f t g.plane g.front)) (Tr.terminal g.end)

abbrev pub went_trace : List ℕ → Tables → TraceStart → Went → TraceT
went_trace f t s g = Tr.trace s (end_of f t g) g.contents g.start_solid

abbrev pub way_answer : List ℕ → Tables → TraceStart → Result Went Refusal → Answer (TraceT × ℕ)
way_answer f t s (Ok g) = answer (went_trace f t s g, g.visits)
way_answer f t s (Err e) = Ans.refused (number_of e)

-- the same where something is said at once
abbrev pub way_once : List ℕ → Tables → TraceStart → Option (Result Went Refusal) → Option (Answer (TraceT × ℕ))
way_once f t s (Some r) = Some (way_answer f t s r)
way_once f t s None = None

-- all in one leaf
abbrev pub ended_in : Vector3 → BspLeafContents → ℕ → Went
ended_in e c v =
    record { end = e; contents = c; start_solid = Contents.equal c Solid; met = false; plane = 0; front = false; ratio = zero32; visits = v }

-- out of a leaf through the plane of the number i, on whose front it lies or not
abbrev pub left_by : Vector3 → Float → ℕ → Bool → BspLeafContents → ℕ → Went
left_by e k i front c v =
    record { end = e; contents = c; start_solid = Contents.equal c Solid; met = true; plane = i; front = front; ratio = k; visits = v }

-- the trace ends with its near part
abbrev pub ends_with : Went → Vector3 → Bool
ends_with g m = cond g.met (not (Vec.same g.end m)) true

-- joined with the far part: its end with the whole's contents and start, or the near part with the nodes of both
abbrev pub carried_to : Went → BspLeafContents → Bool → Went
carried_to g c b =
    record { end = g.end; contents = c; start_solid = b; met = g.met; plane = g.plane; front = g.front; ratio = g.ratio; visits = g.visits }

abbrev pub counted_as : Went → ℕ → Went
counted_as g v =
    record { end = g.end; contents = g.contents; start_solid = g.start_solid; met = g.met; plane = g.plane; front = g.front; ratio = g.ratio; visits = v }

abbrev pub join_parts : Went → Went → Went
join_parts g u =
    cond (Contents.equal g.contents u.contents) (carried_to u g.contents g.start_solid)
    (cond (Contents.equal g.contents Solid && not (Contents.equal u.contents Solid)) (carried_to u u.contents true) (counted_as g u.visits))

-- a child that was met
pub data Met : Type 0 where
  met_node : ℕ → Met
  met_contents : BspLeafContents → Met
  met_refused : ℕ → Met

abbrev pub met_answer : Result MetChild Refusal → Met
met_answer (Ok (M.Node n)) = met_node n
met_answer (Ok (M.Contents c)) = met_contents c
met_answer (Err e) = met_refused (number_of e)

abbrev pub met_end : Answer BspLeafContents → Met
met_end (answer c) = met_contents c
met_end (Ans.refused n) = met_refused n

abbrev pub met_child : {E : Type 0} → Table E BspLeafContents → Child E → Met
met_child T (node n) = met_node n
met_child T (end e) = met_end (meet T e)

unfoldable pub met_on : List ℕ → Tables → Words → Bool → Met
met_on s t w front = met_child (Fast.table s t) (child_on (Fast.node_of t.table w) (Pl.side_if front))

-- the three leaves' traces
abbrev pub within_leaf : Vector3 → Float → Vector3 → BspLeafContents → TraceT
within_leaf s k e c = Tr.new_trace (Tr.start s k) (Tr.terminal e) c

abbrev pub out_of_leaf : Vector3 → Vector3 → Float → Hyperplane → BspLeafContents → TraceT
out_of_leaf s e k h c = Tr.new_trace (Tr.start s zero32) (Tr.boundary e k h) c

abbrev pub stops_at : TraceT → Vector3 → Bool
stops_at near m = Tr.is_terminal near || not (Vec.same near.end.point m)

-- the near part joined with the far one
abbrev pub joined_with : ℕ → Answer TraceT → Answer (TraceT × ℕ)
joined_with v (answer t) = answer (t, v)
joined_with v (Ans.refused n) = Ans.refused n

abbrev pub join_far : TraceT → Answer (TraceT × ℕ) → Answer (TraceT × ℕ)
join_far near (answer f) = joined_with f.1 (Tr.join near f.0)
join_far near (Ans.refused n) = Ans.refused n

-- what an end says, made into a trace by `here`, with the visits
abbrev pub ended_as : (BspLeafContents → TraceT) → ℕ → Answer BspLeafContents → Answer (TraceT × ℕ)
ended_as here v (answer c) = answer (here c, v)
ended_as here v (Ans.refused n) = Ans.refused n

-- the trace at a crossing whose ends are at the distances a and b, with k calls left below it
abbrev pub crossed_at : {E : Type 0} → Table E BspLeafContents → ℕ → Node E → Vector3 → Vector3 → Float → Float → Answer Hyperplane → Outcome TraceT
crossed_at T k nd s e a b (answer h) =
    with_near T (recursive_trace T k) nd h s e (Pl.crossing h s e a b (Pl.from_dist a)) (near_of T (recursive_trace T k) nd h s e (Pl.crossing h s e a b (Pl.from_dist a)))
crossed_at T k nd s e a b (Ans.refused n) = refused n

-- the trace taken up again where a way down came to
abbrev pub resumed : List ℕ → Tables → Vector3 → Vector3 → Result (Descent Words) Refusal → Answer (TraceT × ℕ)
resumed f t s e (Ok (D.Leaf c v)) = answer (within_leaf s zero32 e c, v)
resumed f t s e (Ok (D.Crossing w a b k v)) =
    after v (crossed_at (Fast.table f t) k (Fast.node_of t.table w) s e a b (Fast.plane_in f t w.plane))
resumed f t s e (Err n) = Ans.refused (number_of n)

-- the calls that a crossing has taken are at least one
abbrev pub with_one_more : {W : Type 0} → Result (Descent W) Refusal → ℕ
with_one_more (Ok (D.Leaf c v)) = 0
with_one_more (Ok (D.Crossing w a b k v)) = suc k
with_one_more (Err n) = 0

-- taken up again, it says what the whole trace says
pub record Descends (f : List ℕ) (t : Tables) (s e : Vector3) (left : ℕ) (all : Answer (TraceT × ℕ)) (r : Result (Descent Words) Refusal) : Type 0 where
  pub says : resumed f t s e r ≡ all
  pub falls : with_one_more r ≤ left

-- ---- the same by the bytes of nodes, planes and leaves: for every file and table whose own bytes they are

pub record GoesDown (render : Bool) (n m l : List ℕ) (left i : ℕ) (s e : Vector3) (v : ℕ) (r : Result (Descent Words) Refusal) : Type 0 where
  pub says : (f : List ℕ) (t : Tables) → Owned f t render n m l → resumed f t s e r ≡ after v (recursive_trace (Fast.table f t) left i s e)
  pub falls : with_one_more r ≤ left

abbrev pub GoesOn : Bool → List ℕ → List ℕ → List ℕ → ℕ → ℕ → Vector3 → Vector3 → ℕ → Result Went Refusal → Type 0
GoesOn render n m l left i s e v r =
    (f : List ℕ) (t : Tables) → Owned f t render n m l → way_answer f t (at_start s) r ≡ after v (recursive_trace (Fast.table f t) left i s e)

-- a way down, a far part and a near part that come to an end, which says x
abbrev pub EndsDown : ℕ → Answer BspLeafContents → Result (Descent Words) Refusal → Type 0
EndsDown v x r = ((f : List ℕ) (t : Tables) (s e : Vector3) → resumed f t s e r ≡ ended_as (within_leaf s zero32 e) v x) × (with_one_more r ≤ 0)

abbrev pub EndsFar : Vector3 → ℕ → Answer BspLeafContents → Result Went Refusal → Type 0
EndsFar e v x r = (f : List ℕ) (t : Tables) (s : Vector3) (k : Float) → way_answer f t (Tr.start s k) r ≡ ended_as (within_leaf s k e) v x

abbrev pub EndsNear : Vector3 → Float → ℕ → Bool → ℕ → Answer BspLeafContents → Result Went Refusal → Type 0
EndsNear e k i front v x r =
    (f : List ℕ) (t : Tables) (s : Vector3) (h : Hyperplane) → Fast.plane_in f t i ≡ answer h → Pl.side_if front ≡ Pl.point_side h s
    → way_answer f t (at_start s) r ≡ ended_as (out_of_leaf s e k (Pl.facing (Pl.point_side h s) h)) v x
