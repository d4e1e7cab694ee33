-- The two panics of `join` are unreachable from a trace: no trace is refused with 19, whatever the points and the planes are, NaNs and infinities among them,
-- for every table whose own refusals are not 19. A trace that is answered starts at the segment's start, so the far part starts where the near part has
-- been seen to end. The same argument shows which numbers a trace is refused with, and so for walks: 30, 31 or 32, and what the table refuses of records
-- that are in range, since every number is tested before its record is read.
use Prim.Native.Nat.{ℕ, zero, suc, ◌<◌}
use native.Mathlib.Omega.{arith}
use mathlib.Core.Bool.{Bool, true, false, not, cond, ◌&&◌, ◌||◌}
use mathlib.Core.List.{List, ◌++◌}
use mathlib.Core.Path.{◌≡◌, refl, sym, ap, ◌∙◌, subst}
use borrow.Author.Tests.{ltb-true}
use lib.Dec.{ltb}
use Rattle.format.specs.Answer as Ans
use Rattle.format.specs.Answer.{Answer, answer}
use Rattle.format.specs.Contents.{equal}
use Rattle.format.specs.declared.contents.BspLeafContents.{BspLeafContents}
use Rattle.format.specs.declared.contents.BspLeafContents.TheVariants.{Solid}
use Rattle.math.specs.Vector as Vec
use Rattle.math.specs.Plane as Pl
use Rattle.math.specs.declared.vector.Vector3.{Vector3}
use Rattle.math.specs.declared.plane.Hyperplane.{Hyperplane}
use Rattle.math.specs.declared.plane.PointIntersection.{PointIntersection as Crossing}
use Rattle.math.specs.declared.plane.LinePlaneIntersect.{LinePlaneIntersect}
use Rattle.math.specs.declared.plane.LinePlaneIntersect.TheVariants.{NoIntersection, PointIntersection}
use Rattle.phys.specs.Trace as Tr
use Rattle.phys.specs.declared.Trace.{Trace as TraceT}
use Rattle.walk.specs.Table.{Child, node, end, Node, Table, child_on}
use Rattle.walk.specs.Walk.{Outcome, done, refused, entered, Entered, with_plane, with_node, enter, meet, ended, onto, walk_at, walk}
use Rattle.walk.specs.Tracing.{joined, with_far, stops, near_of, far_of, after_near, with_near, across, trace_at, recursive_trace}

-- each refusal of the table's own records, where they are in range, is one of those of P
pub record Own (P : ℕ → Type 0) {E A : Type 0} (T : Table E A) : Type 0 where
  pub nodes_refuse : (i n : ℕ) → i < T.nodes.count → T.nodes.node_at i ≡ Ans.refused n → P n
  pub planes_refuse : (i n : ℕ) → i < T.nodes.planes → T.plane_at i ≡ Ans.refused n → P n
  pub leaves_refuse : (e : E) (n : ℕ) → T.nodes.leaf_in e ≡ true → T.leaf_at e ≡ Ans.refused n → P n

-- ---- a join of t with what starts where t ends

join_keeps : (t u : TraceT) → (Tr.join_met t u).start.point ≡ t.start.point
join_keeps t u = go (equal t.contents u.contents) (equal t.contents Solid && not (equal u.contents Solid))
  where
    go : (a b : Bool) → (cond a (Tr.trace t.start u.end t.contents t.start_solid) (cond b (Tr.trace t.start u.end u.contents true) t)).start.point ≡ t.start.point
    go true b = refl
    go false true = refl
    go false false = refl

-- the tests before the join
neither : (a b : Bool) → (a || not b) ≡ false → (a ≡ false) × (b ≡ true)
neither true b e = let z : ◌≡◌ {A = ℕ} 0 1 = cc in absurd (omega arith)
neither false true e = (refl, refl)
neither false false e = let z : ◌≡◌ {A = ℕ} 0 1 = cc in absurd (omega arith)

pub joins : (t u : TraceT) (x : Crossing) → stops t x ≡ false → u.start.point ≡ x.point → Tr.join t u ≡ answer (Tr.join_met t u)
unfolding Tr.join
joins t u x e f =
    let p = neither (Tr.is_terminal t) (Vec.same t.end.point x.point) e in
    let q : Vec.same t.end.point u.start.point ≡ true = ap (Vec.same t.end.point) f ∙ p.1 in
    simp (p.0, q)

module _ (P : ℕ → Type 0) where
  abbrev Refuses : {A : Type 0} → Answer A → Type 0
  Refuses (answer a) = Unit {0}
  Refuses (Ans.refused n) = P n

  -- an outcome that keeps Q where it is answered, and is refused with one of P
  abbrev Keeps : {A : Type 0} → (A → Type 0) → Outcome A → Type 0
  Keeps Q (done a ns) = Q a
  Keeps Q (refused n) = P n

  entered_keeps : {A : Type 0} (Q : A → Type 0) (i : ℕ) (o : Outcome A) → Keeps Q o → Keeps Q (entered i o)
  entered_keeps Q i (done t ns) a = a
  entered_keeps Q i (refused n) a = a

  test_keeps : {A : Type 0} (Q : A → Type 0) (b : Bool) (n : ℕ) (o : Outcome A) → (b ≡ true → Keeps Q o) → P n → Keeps Q (cond b o (refused n))
  test_keeps Q true n o p q = p refl
  test_keeps Q false n o p q = q

  module _ {E A : Type 0} (T : Table E A) (own : Own P T) (p30 : P 30) where
    -- ---- a node is entered, an end is met

    at_plane : (nd : Node E) (r : Answer Hyperplane) → ((n : ℕ) → r ≡ Ans.refused n → P n) → Refuses (with_plane T nd r)
    at_plane nd (answer h) k = tt
    at_plane nd (Ans.refused n) k = k n refl

    at_test : (b : Bool) {B : Type 0} (r : Answer B) → (b ≡ true → Refuses r) → Refuses (cond b r (Ans.refused 30))
    at_test true r a = a refl
    at_test false r a = p30

    at_node_lem : (r : Answer (Node E)) → ((n : ℕ) → r ≡ Ans.refused n → P n) → Refuses (with_node T r)
    at_node_lem (answer nd) k = at_test (ltb nd.plane T.nodes.planes) (with_plane T nd (T.plane_at nd.plane))
        (λ t. at_plane nd (T.plane_at nd.plane) (λ n. own.planes_refuse nd.plane n (ltb-true _ _ t)))
    at_node_lem (Ans.refused n) k = k n refl

    enter_refuses : (i : ℕ) → ltb i T.nodes.count ≡ true → Refuses (enter T i)
    unfolding enter
    enter_refuses i t = at_node_lem (T.nodes.node_at i) (λ n. own.nodes_refuse i n (ltb-true _ _ t))

    at_leaf : (r : Answer A) → ((n : ℕ) → r ≡ Ans.refused n → P n) → Refuses r
    at_leaf (answer a) k = tt
    at_leaf (Ans.refused n) k = k n refl

    meet_refuses : (e : E) → Refuses (meet T e)
    unfolding meet
    meet_refuses e = at_test (T.nodes.leaf_in e) (T.leaf_at e) (λ t. at_leaf (T.leaf_at e) (λ n. own.leaves_refuse e n t))

    module _ {W : Type 0} (Q : W → Type 0) (go : ℕ → Outcome W) (ih : (n : ℕ) → Keeps Q (go n)) (here : A → W) (h : (a : A) → Q (here a)) where
      ended_keeps : (r : Answer A) → Refuses r → Keeps Q (ended T here r)
      ended_keeps (answer a) k = h a
      ended_keeps (Ans.refused n) k = k

      onto_keeps : (c : Child E) → Keeps Q (onto T go here c)
      onto_keeps (node n) = ih n
      onto_keeps (end e) = ended_keeps (meet T e) (meet_refuses e)

    -- ---- walks

    module _ (p31 : P 31) (p : Vector3) where
      abbrev Any : A → Type 0
      Any a = Unit {0}

      walk_at_lem : (go : ℕ → Outcome A) → ((n : ℕ) → Keeps Any (go n)) → (i : ℕ) (r : Answer (Entered E)) → Refuses r → Keeps Any (walk_at T go i p r)
      walk_at_lem go ih i (answer m) k =
          entered_keeps Any i (onto T go (λ a. a) (child_on m.nd (Pl.point_side m.plane p))) (onto_keeps Any go ih (λ a. a) (λ a. tt) (child_on m.nd (Pl.point_side m.plane p)))
      walk_at_lem go ih i (Ans.refused n) k = k

      walk_keeps : (k i : ℕ) → Keeps Any (walk T k i p)
      unfolding walk
      walk_keeps zero i = test_keeps Any (ltb i T.nodes.count) 30 (refused 31) (λ t. p31) p30
      walk_keeps (suc k) i =
          test_keeps Any (ltb i T.nodes.count) 30 (walk_at T (λ n. walk T k n p) i p (enter T i)) (λ t. walk_at_lem (λ n. walk T k n p) (walk_keeps k) i (enter T i) (enter_refuses i t)) p30

      -- a walk is refused with 30, 31 or what the table's own records refuse
      pub walk_refuses : (k i n : ℕ) → walk T k i p ≡ refused n → P n
      walk_refuses k i n q = subst (Keeps Any) q (walk_keeps k i)

  -- ---- traces

  module _ {E : Type 0} (T : Table E BspLeafContents) (own : Own P T) (p30 : P 30) where
    abbrev From : Vector3 → TraceT → Type 0
    From s t = t.start.point ≡ s

    -- one call
    module _ (go : ℕ → Vector3 → Vector3 → Outcome TraceT) (ih : (n : ℕ) (s e : Vector3) → Keeps (From s) (go n s e)) (nd : Node E) (h : Hyperplane) (s e : Vector3) where
      with_far_lem : (x : Crossing) (t : TraceT) (ns : List ℕ) → From s t → stops t x ≡ false → (o : Outcome TraceT) → Keeps (From x.point) o → Keeps (From s) (with_far t ns o)
      with_far_lem x t ns a z (refused n) b = b
      with_far_lem x t ns a z (done u ms) b = subst (λ (j : Answer TraceT). Keeps (From s) (joined (ns ++ ms) j)) (sym (joins t u x z b)) (join_keeps t u ∙ a)

      after_near_lem : (x : Crossing) (t : TraceT) (ns : List ℕ) → From s t → (z : Bool) → stops t x ≡ z → Keeps (From s) (after_near T go nd h s e x t ns z)
      after_near_lem x t ns a true q = a
      after_near_lem x t ns a false q =
          with_far_lem x t ns a q (far_of T go nd h s e x) (onto_keeps T own p30 (From x.point) (λ n. go n x.point e) (λ n. ih n x.point e) _ (λ c. refl) (child_on nd (Pl.point_side h e)))

      with_near_lem : (x : Crossing) (o : Outcome TraceT) → Keeps (From s) o → Keeps (From s) (with_near T go nd h s e x o)
      with_near_lem x (refused n) a = a
      with_near_lem x (done t ns) a = after_near_lem x t ns a (stops t x) refl

      across_keeps : (l : LinePlaneIntersect) → Keeps (From s) (across T go nd h s e l)
      across_keeps (NoIntersection side) = onto_keeps T own p30 (From s) (λ n. go n s e) (λ n. ih n s e) _ (λ c. refl) (child_on nd side)
      across_keeps (PointIntersection x) =
          with_near_lem x (near_of T go nd h s e x) (onto_keeps T own p30 (From s) (λ n. go n s x.point) (λ n. ih n s x.point) _ (λ c. refl) (child_on nd (Pl.point_side h s)))

    trace_at_lem : (go : ℕ → Vector3 → Vector3 → Outcome TraceT) → ((n : ℕ) (s e : Vector3) → Keeps (From s) (go n s e)) → (i : ℕ) (s e : Vector3) (r : Answer (Entered E)) → Refuses r → Keeps (From s) (trace_at T go i s e r)
    trace_at_lem go ih i s e (answer m) k =
        entered_keeps (From s) i (across T go m.nd m.plane s e (Pl.line_segment m.plane s e)) (across_keeps go ih m.nd m.plane s e (Pl.line_segment m.plane s e))
    trace_at_lem go ih i s e (Ans.refused n) k = k

    module _ (p32 : P 32) where
      trace_keeps : (k i : ℕ) (s e : Vector3) → Keeps (From s) (recursive_trace T k i s e)
      unfolding recursive_trace
      trace_keeps zero i s e = test_keeps (From s) (ltb i T.nodes.count) 30 (refused 32) (λ t. p32) p30
      trace_keeps (suc k) i s e =
          test_keeps (From s) (ltb i T.nodes.count) 30 (trace_at T (λ n s e. recursive_trace T k n s e) i s e (enter T i))
          (λ t. trace_at_lem (λ n s e. recursive_trace T k n s e) (trace_keeps k) i s e (enter T i) (enter_refuses T own p30 i t)) p30

      -- a trace is refused with 30, 32 or what the table's own records refuse
      pub trace_refuses : (k i : ℕ) (s e : Vector3) (n : ℕ) → recursive_trace T k i s e ≡ refused n → P n
      trace_refuses k i s e n q = subst (Keeps (From s)) q (trace_keeps k i s e)

module _ {E : Type 0} (T : Table E BspLeafContents) where
  -- no trace is refused with 19
  pub never_19 : Own (λ n. n ≡ 19 → ⊥) T → (k i : ℕ) (s e : Vector3) → recursive_trace T k i s e ≡ refused 19 → ⊥
  never_19 own k i s e q = trace_refuses (λ n. n ≡ 19 → ⊥) T own (λ q. omega arith) (λ q. omega arith) k i s e 19 q refl

  abbrev Every : ℕ → Type 0
  Every n = Unit {0}

  any : Own Every T
  any = record { nodes_refuse = λ i n h q. tt; planes_refuse = λ i n h q. tt; leaves_refuse = λ e n h q. tt }

  -- what a trace answers starts at the segment's start, for every table
  pub starts_there : (k i : ℕ) (s e : Vector3) (t : TraceT) (ns : List ℕ) → recursive_trace T k i s e ≡ done t ns → t.start.point ≡ s
  starts_there k i s e t ns q = subst (Keeps Every (From Every T any tt s)) q (trace_keeps Every T any tt tt k i s e)

  -- and so at a child, if the trace in a leaf does
  pub starts_at_child : (k : ℕ) (s e : Vector3) (here : BspLeafContents → TraceT) → ((c : BspLeafContents) → (here c).start.point ≡ s)
      → (c : Child E) (t : TraceT) (ns : List ℕ) → onto T (λ n. recursive_trace T k n s e) here c ≡ done t ns → t.start.point ≡ s
  starts_at_child k s e here h c t ns q =
      subst (Keeps Every (From Every T any tt s)) q
      (onto_keeps Every T any tt (From Every T any tt s) (λ n. recursive_trace T k n s e) (λ n. trace_keeps Every T any tt tt k n s e) here h c)
