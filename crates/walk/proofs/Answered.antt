-- Demand 3: from a root that passed the tree check every walk and every trace is answered, and enters only nodes of the root's tree, none twice.
-- One argument for every table, so for render and clip tables alike.
use Prim.Native.Nat.{ℕ, ◌^◌, ◌<◌, ◌≤◌}
use native.Mathlib.Omega.{arith}
use mathlib.Core.List.{List}
use mathlib.Core.Path.{◌≡◌, ◌∙◌, ap}
use lib.ListN.{length}
use Rattle.format.specs.Answer.{answer}
use Rattle.format.specs.declared.contents.BspLeafContents.{BspLeafContents}
use Rattle.math.specs.Vector as Vec
use Rattle.math.specs.declared.vector.Vector3.{Vector3}
use Rattle.math.proofs.Crossing.{Fits3}
use Rattle.phys.specs.Trace as Tr
use Rattle.phys.specs.declared.Trace.{Trace as TraceT}
use Rattle.walk.specs.Table.{node, Nodes, Table}
use Rattle.walk.specs.Walk.{Outcome, done, held, with_visits, point_walk}
use Rattle.walk.specs.Tracing.{trace}
use Rattle.walk.specs.TreeCheck.{tree_check}
use Rattle.walk.specs.Tree.{Reads, PlanesFit}
use Rattle.walk.specs.Demand3.{Answered, AnsweredWithin}
use Rattle.walk.proofs.Lists.{room}
use Rattle.walk.proofs.Shape.{Shape, top, nodes_of, Drawn, nodes_below_lem}
use Rattle.walk.proofs.Reached.{tree_nodes}
use Rattle.walk.proofs.Grown.{Grown, grown}
use Rattle.walk.proofs.AnsweredIn.{AnsweredIn}
use Rattle.walk.proofs.WalkAlong as W
use Rattle.walk.proofs.TraceAlong as A

visits_of : {A : Type 0} (o : Outcome A) (a : A) (ns : List ℕ) → o ≡ done a ns → length ns < 2 ^ 64 → with_visits o ≡ answer (a, length ns)
visits_of o a ns e h =
    let q : held (length ns) ≡ length ns = omega arith in
    ap with_visits e ∙ ap (λ (n : ℕ). answer (a, n)) q

abbrev answered : {E A : Type 0} (N : Nodes E) (root : ℕ) (s : Shape E) → top s ≡ node root → Drawn N s → (o : Outcome A) → (g : AnsweredIn (nodes_of s) o) → length g.nodes < 2 ^ 64 → Answered N root o
answered N root s t d o g h = record {
  value = g.value;
  nodes = g.nodes;
  answered = g.answered;
  visits = visits_of o g.value g.nodes g.answered h;
  in_tree = λ n m. (tree_nodes N s root t d n).0 (g.within n m);
  once = g.once;
}

module _ {E A : Type 0} (T : Table E A) (R : Reads T) (ms : List ℕ) (root h : ℕ) (passed : (tree_check T.nodes ms root).answer ≡ answer h) where
  -- every point contents and leaf lookup, for all floats
  pub walk_answered : (p : Vector3) → AnsweredWithin T.nodes root h (point_walk T root p)
  walk_answered p =
      let F : Grown T.nodes root h = grown T.nodes ms root h passed in
      let g : W.Short T R p F.shape (W.walk_on T R p T.nodes.count (top F.shape))
      = W.along T R p F.shape F.drawn T.nodes.count T.nodes.count F.within F.within F.hangs F.once in
      let g' : W.Short T R p F.shape (point_walk T root p) = rw F.top_is at g in
      let low : length g'.0.nodes ≤ h = omega (arith, g'.1, F.high) in
      record { all = answered T.nodes root F.shape F.top_is F.drawn (point_walk T root p) g'.0 (omega (arith, F.low, F.high, low)); within = low }

module _ {E : Type 0} (T : Table E BspLeafContents) (R : Reads T) (D : PlanesFit T) (ms : List ℕ) (root h : ℕ) (passed : (tree_check T.nodes ms root).answer ≡ answer h) where
  -- every trace, for all points of f32 numbers; the table holds fewer than 2^64 nodes, as every table in a program does
  pub trace_answered : T.nodes.count < 2 ^ 64 → (s e : Vector3) → Fits3 s → Fits3 e → Answered T.nodes root (trace T root s e)
  trace_answered few s e S F' =
      let F : Grown T.nodes root h = grown T.nodes ms root h passed in
      let here : BspLeafContents → TraceT = λ c. Tr.new_trace (Tr.start s Vec.zero32) (Tr.terminal e) c in
      let g : AnsweredIn (nodes_of F.shape) (A.trace_on T R D 512 s e here (top F.shape))
      = A.along T R D F.shape F.drawn 512 512 F.low F.low F.hangs F.once s e S F' here in
      let g' : AnsweredIn (nodes_of F.shape) (trace T root s e) = rw F.top_is at g in
      let k : length g'.nodes ≤ T.nodes.count = room T.nodes.count g'.nodes g'.once (λ n m. nodes_below_lem T.nodes F.shape F.drawn n (g'.within n m)) in
      answered T.nodes root F.shape F.top_is F.drawn (trace T root s e) g' (omega arith)
