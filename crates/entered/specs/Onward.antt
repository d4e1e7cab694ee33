-- For the contracts of functions that no other crate can name; a reader of the calls may leave this file out.
-- For the private contracts of `traced`: the part of a trace that goes on to a child, the two parts of a segment at a crossing, a trace with the list that
-- its nodes are written into, and the way down to a crossing.
use Rattle.std.specs.Prelude.{ℕ, suc, ◌+◌, ◌≤◌, ◌≡◌, cond, List, Float, length, Result, Ok, Err}
use Rattle.std.proofs.lemmas.List.Edits.{sets}
use Rattle.format.specs.Answer as Ans
use Rattle.format.specs.Answer.{Answer, answer, mapped}
use Rattle.format.specs.Answers.{answer_of}
use Rattle.format.specs.Refusal.{number_of}
use Rattle.format.specs.declared.refusal.Refusal.{Refusal}
use Rattle.math.specs.Vector.{zero32}
use Rattle.math.specs.declared.vector.Vector3.{Vector3}
use Rattle.phys.specs.Trace as Tr
use Rattle.phys.specs.declared.Trace.{Trace}
use Rattle.walk.specs.Walk.{Outcome, done, refused, held, ended, onto}
use Rattle.walk.specs.Tracing.{with_far, recursive_trace}
use Rattle.nodes.specs.Fast as Fast
use Rattle.nodes.specs.declared.table.Tables.{Tables}
use Rattle.nodes.specs.declared.read.Onto.{Onto}
use Rattle.nodes.specs.declared.read.Words.{Words}
use Rattle.hull.specs.Traces.{stops_at, crossed_at}
use Rattle.entered.specs.declared.traced.Way.{Way}
use Rattle.entered.specs.declared.traced.Down.{Down}
use Rattle.entered.specs.declared.traced.Down.TheVariants as D
use Rattle.entered.specs.declared.traced.Parts.{Parts}

-- ---- the parts of a trace

-- the near part up to a crossing at m; then, unless the trace ends with it, the far one joined on
abbrev pub both_parts : Vector3 → Outcome Trace → Outcome Trace → Outcome Trace
both_parts m (done near ns) far = cond (stops_at near m) (done near ns) (with_far near ns far)
both_parts m (refused n) far = refused n

-- `go n s e` is the trace from s to e below the node n
module _ (f : List ℕ) (t : Tables) (go : ℕ → Vector3 → Vector3 → Outcome Trace) where
  -- the part of a segment that goes on to a child: in a leaf it is one trace
  abbrev pub part : Way → Onto → Outcome Trace
  part w c = onto (Fast.table f t) (λ n. go n w.from.point w.to.point) (λ x. Tr.new_trace w.from w.to x) (Fast.onto_child t.table c)

  -- the trace of a segment in its two parts
  abbrev pub followed : Result Parts Refusal → Outcome Trace
  followed (Ok p) = both_parts p.to_mid.to.point (part p.to_mid p.near) (part p.from_mid p.far)
  followed (Err x) = refused (number_of x)

-- all of a segment, as a leaf has it
abbrev pub whole_of : Way → Way
whole_of w = record { from = Tr.start w.from.point zero32; to = Tr.terminal w.to.point }

-- the two parts of a segment whose ends are at the distances a and b of a node's plane are what the trace there has
abbrev pub Crosses : List ℕ → Tables → Words → Float → Float → Vector3 → Vector3 → Result Parts Refusal → Type 0
Crosses f t w a b s e r =
    (k : ℕ) → followed f t (λ n s e. recursive_trace (Fast.table f t) k n s e) r ≡ crossed_at (Fast.table f t) k (Fast.node_of t.table w) s e a b (Fast.plane_in f t w.plane)

-- the part with k calls left
abbrev pub part_with : List ℕ → Tables → ℕ → Way → Onto → Outcome Trace
part_with f t k w c = part f t (λ n s e. recursive_trace (Fast.table f t) k n s e) w c

-- ---- a trace and the list

-- where v nodes were entered before: the trace, the visits, and the list with the nodes written from its entry v on, as far as it goes
abbrev pub traced_list : ℕ → List ℕ → Outcome Trace → Answer ((Trace × ℕ) × List ℕ)
traced_list v l (done a ns) = answer ((a, held (v + length ns)), sets l v ns)
traced_list v l (refused n) = Ans.refused n

-- what a call says, and the list after it; of a refusal the number alone
abbrev pub says_with : List ℕ → Result (Trace × ℕ) Refusal → Answer ((Trace × ℕ) × List ℕ)
says_with l r = mapped (λ x. (x, l)) (answer_of r)

-- ---- the way down

-- the trace from s to e taken up again where the way down came to, with the list as it is there
abbrev pub resumed : List ℕ → Tables → Vector3 → Vector3 → List ℕ → Result Down Refusal → Answer ((Trace × ℕ) × List ℕ)
resumed f t s e l (Ok (D.End w v)) = traced_list v l (ended (Fast.table f t) (λ c. Tr.new_trace (Tr.start s zero32) (Tr.terminal e) c) (Fast.contents_met f t w))
resumed f t s e l (Ok (D.Crossing w a b k v)) = traced_list v l (crossed_at (Fast.table f t) k (Fast.node_of t.table w) s e a b (Fast.plane_in f t w.plane))
resumed f t s e l (Err x) = Ans.refused (number_of x)

-- the calls that a crossing has taken are at least one
abbrev pub with_one_more : Result Down Refusal → ℕ
with_one_more (Ok (D.End w v)) = 0
with_one_more (Ok (D.Crossing w a b k v)) = suc k
with_one_more (Err x) = 0

-- taken up again, it says what the whole trace says
pub record Goes (f : List ℕ) (t : Tables) (s e : Vector3) (left : ℕ) (all : Answer ((Trace × ℕ) × List ℕ)) (l : List ℕ) (r : Result Down Refusal) : Type 0 where
  pub says : resumed f t s e l r ≡ all
  pub falls : with_one_more r ≤ left
