-- The walk of a point down a node table: `contents_at_point_node` and `find_leaf` of bsp/mod.rs, which differ only in what an end says.
-- Refusals come in document 01's order: at each node its index (30), then 31, then its record (23), its plane's number (30) and its plane (23);
-- an end is tested (30) and read (23) when it is met. The looks of a whole-line trace (`line`) are the same descent, by another side test and limit.
use Rattle.std.specs.Prelude.{ℕ, zero, suc, ◌-◌, ◌^◌, min, cond, List, [], ◌∷◌, ltb, length}
use Rattle.format.specs.Answer as Ans
use Rattle.format.specs.Answer.{Answer, answer, mapped}
use Rattle.math.specs.Plane as Pl
use Rattle.math.specs.declared.vector.Vector3.{Vector3}
use Rattle.math.specs.declared.plane.Hyperplane.{Hyperplane}
use Rattle.math.specs.declared.plane.HyperplaneSide.{HyperplaneSide}
use Rattle.walk.specs.Table.{Child, Node, Table, child_on, on_child}

-- how a walk or a trace ends: with its answer and the nodes entered, in order, or refused
pub data Outcome (A : Type 0) : Type 0 where
  done : A → List ℕ → Outcome A
  refused : ℕ → Outcome A

-- the node i was entered before the others
abbrev pub entered : {A : Type 0} → ℕ → Outcome A → Outcome A
entered i (done a ns) = done a (i ∷ ns)
entered i (refused n) = refused n

-- a count of visits, held at 2^64 - 1
abbrev pub held : ℕ → ℕ
held n = min n (2 ^ 64 - 1)

-- what a call answers: the answer and the visits, one for each node entered
abbrev pub with_visits : {A : Type 0} → Outcome A → Answer (A × ℕ)
with_visits (done a ns) = answer (a, held (length ns))
with_visits (refused n) = Ans.refused n

-- a node as it is entered: its record and its plane
pub record Entered (E : Type 0) : Type 0 where
  pub nd : Node E
  pub plane : Hyperplane

module _ {E A : Type 0} (T : Table E A) where
  -- the node's plane, once it is read
  abbrev pub with_plane : Node E → Answer Hyperplane → Answer (Entered E)
  with_plane nd h = mapped (λ h. record { nd = nd; plane = h }) h

  -- the plane's number, then the plane
  abbrev pub with_node : Answer (Node E) → Answer (Entered E)
  with_node (answer nd) = cond (ltb nd.plane T.nodes.planes) (with_plane nd (T.plane_at nd.plane)) (Ans.refused 30)
  with_node (Ans.refused n) = Ans.refused n

  -- `let node = &self.nodes[i]; let plane = &self.planes[node.plane_id];`
  unfoldable pub enter : ℕ → Answer (Entered E)
  enter i = with_node (T.nodes.node_at i)

  -- an end, when it is met
  unfoldable pub meet : E → Answer A
  meet e = cond (T.nodes.leaf_in e) (T.leaf_at e) (Ans.refused 30)

  -- what an end says, made into an answer by `here`; it adds no node
  abbrev pub ended : {W : Type 0} → (A → W) → Answer A → Outcome W
  ended here (answer a) = done (here a) []
  ended here (Ans.refused n) = refused n

  -- on to a child: to the node by `go`, or to the end
  abbrev pub onto : {W : Type 0} → (ℕ → Outcome W) → (A → W) → Child E → Outcome W
  onto go here c = on_child go (λ e. ended here (meet e)) c

  -- A descent: at each node on to the child on the side that the test says. `refuse` is what a refusal is, `here` what an end says.
  module _ {W : Type 0} (refuse : ℕ → W) (here : E → W) (side : Hyperplane → HyperplaneSide) where
    abbrev pub descend_at : (ℕ → W) → Answer (Entered E) → W
    descend_at go (answer m) = on_child go here (child_on m.nd (side m.plane))
    descend_at go (Ans.refused n) = refuse n

    -- from the node i, and k nodes more may be entered, each of which adds what `through` says; past them it is refused with `spent`
    abbrev pub descend : (ℕ → W → W) → ℕ → ℕ → ℕ → W
    descend through spent zero i = cond (ltb i T.nodes.count) (refuse spent) (refuse 30)
    descend through spent (suc k) i =
        cond (ltb i T.nodes.count) (through i (descend_at (λ n. descend through spent k n) (enter i))) (refuse 30)

  -- at the node i: on to the child on the point's side of the plane
  abbrev pub walk_at : (ℕ → Outcome A) → ℕ → Vector3 → Answer (Entered E) → Outcome A
  walk_at go i p m = entered i (descend_at refused (λ e. ended (λ a. a) (meet e)) (λ h. Pl.point_side h p) go m)

  -- the walk from the node i, which may enter k nodes more
  unfoldable pub walk : ℕ → ℕ → Vector3 → Outcome A
  walk k i p = descend refused (λ e. ended (λ a. a) (meet e)) (λ h. Pl.point_side h p) entered 31 k i

  -- `contents_at_point` and `find_leaf`: the walk from the root enters as many nodes as the table holds, at most
  abbrev pub point_walk : ℕ → Vector3 → Outcome A
  point_walk root p = walk T.nodes.count root p
