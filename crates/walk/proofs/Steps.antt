-- Each way through a step of a walk or a trace, over plain values, with the visits so far passed in: what the code's returns and calls are compared with.
use Prim.Native.Nat.{ℕ, zero, suc, ◌+◌, ◌<◌, ◌≤◌}
use native.Mathlib.Omega.{arith}
use mathlib.Core.List.{List}
use mathlib.Core.Path.{◌≡◌, refl, ◌∙◌, ap}
use lib.ListN.{length}
use borrow.Author.Tests.{lt-ltb, le-ltb}
use Rattle.format.specs.Answer as Ans
use Rattle.format.specs.Answer.{Answer, answer}
use Rattle.format.specs.declared.contents.BspLeafContents.{BspLeafContents}
use Rattle.math.specs.Plane as Pl
use Rattle.math.specs.declared.plane.Hyperplane.{Hyperplane}
use Rattle.math.specs.declared.vector.Vector3.{Vector3}
use Rattle.phys.specs.declared.Trace.{Trace as TraceT}
use Rattle.walk.specs.Table.{Child, node, end, Node, Table, child_on}
use Rattle.walk.specs.Walk.{Outcome, done, refused, entered, held, with_visits, enter, meet, ended, onto, walk_at, walk}
use Rattle.walk.specs.Private.{after}
use Rattle.walk.specs.Tracing.{trace_at, recursive_trace}

-- ---- visits

pub after_none : {A : Type 0} (o : Outcome A) → with_visits o ≡ after 0 o
after_none (done a ns) = ap (λ (n : ℕ). answer (a, held n)) {x = length ns} {y = 0 + length ns} (omega arith)
after_none (refused n) = refl

pub after_one : {A : Type 0} (v i : ℕ) (o : Outcome A) → after v (entered i o) ≡ after (v + 1) o
after_one v i (done a ns) = ap (λ (n : ℕ). answer (a, held n)) {x = v + suc (length ns)} {y = v + 1 + length ns} (omega arith)
after_one v i (refused n) = refl

-- a count that is held may be passed in its place
pub after_held : {A : Type 0} (v : ℕ) (o : Outcome A) → after (held v) o ≡ after v o
after_held v (done a ns) = ap (λ (n : ℕ). answer (a, n)) {x = held (held v + length ns)} {y = held (v + length ns)} (omega arith)
after_held v (refused n) = refl

pub after_done : {A : Type 0} (v : ℕ) (o : Outcome A) (a : A) (w : ℕ) → after v o ≡ answer (a, w) → (ns : List ℕ) × (o ≡ done a ns) × (held (v + length ns) ≡ w)
after_done {A} v (done b ns) a w e =
    let q : ◌≡◌ {A = A × ℕ} (b, held (v + length ns)) (a, w) = cc in
    (ns, ap (λ (x : A × ℕ). done x.0 ns) q, ap (λ (x : A × ℕ). x.1) q)
after_done v (refused n) a w e = let z : ◌≡◌ {A = ℕ} 0 1 = cc in absurd (omega arith)

pub after_refused : {A : Type 0} (v : ℕ) (o : Outcome A) (n : ℕ) → after v o ≡ Ans.refused n → o ≡ refused n
after_refused v (done b ns) n e = let z : ◌≡◌ {A = ℕ} 0 1 = cc in absurd (omega arith)
after_refused v (refused m) n e = cc

-- ---- a node is entered, an end is met

module _ {E A : Type 0} (T : Table E A) where
  pub enter_unread : (i n : ℕ) → T.nodes.node_at i ≡ Ans.refused n → enter T i ≡ Ans.refused n
  unfolding enter
  enter_unread i n r = rw r

  module _ (i : ℕ) (nd : Node E) (r : T.nodes.node_at i ≡ answer nd) where
    pub enter_is : (h : Hyperplane) → nd.plane < T.nodes.planes → T.plane_at nd.plane ≡ answer h → enter T i ≡ answer (record { nd = nd; plane = h })
    unfolding enter
    enter_is pl h q = rw (r, lt-ltb _ _ h, q)

-- ---- walks

module _ {E A : Type 0} (T : Table E A) (p : Vector3) where
  pub walk_outside : (k i : ℕ) → T.nodes.count ≤ i → walk T k i p ≡ refused 30
  unfolding walk
  walk_outside zero i h = simp (le-ltb _ _ h)
  walk_outside (suc k) i h = simp (le-ltb _ _ h)

  pub walk_spent : (k i : ℕ) → k ≡ 0 → i < T.nodes.count → walk T k i p ≡ refused 31
  unfolding walk
  walk_spent k i z h = rw z (simp (lt-ltb _ _ h))

  module _ (k j i : ℕ) (more : k ≡ suc j) (h : i < T.nodes.count) where
    walk_step : walk T k i p ≡ walk_at T (λ n. walk T j n p) i p (enter T i)
    unfolding walk
    walk_step = rw more (simp (lt-ltb _ _ h))

    pub walk_unread : (n : ℕ) → enter T i ≡ Ans.refused n → walk T k i p ≡ refused n
    walk_unread n m = walk_step ∙ ap (walk_at T (λ n. walk T j n p) i p) m

    module _ (nd : Node E) (pl : Hyperplane) (m : enter T i ≡ answer (record { nd = nd; plane = pl })) (v : ℕ) where
      walk_on_lem : after v (walk T k i p) ≡ after (v + 1) (onto T (λ n. walk T j n p) (λ a. a) (child_on nd (Pl.point_side pl p)))
      walk_on_lem = ap (after v) (walk_step ∙ ap (walk_at T (λ n. walk T j n p) i p) m) ∙ after_one v i (onto T (λ n. walk T j n p) (λ a. a) (child_on nd (Pl.point_side pl p)))

      pub walk_node : (n : ℕ) → child_on nd (Pl.point_side pl p) ≡ node n → after v (walk T k i p) ≡ after (v + 1) (walk T j n p)
      walk_node n c = walk_on_lem ∙ ap (λ (x : Child E). after (v + 1) (onto T (λ n. walk T j n p) (λ a. a) x)) c

      module _ (e : E) (c : child_on nd (Pl.point_side pl p) ≡ end e) where
        walk_met : after v (walk T k i p) ≡ after (v + 1) (ended T (λ a. a) (meet T e))
        walk_met = walk_on_lem ∙ ap (λ (x : Child E). after (v + 1) (onto T (λ n. walk T j n p) (λ a. a) x)) c

        pub walk_end : (a : A) → meet T e ≡ answer a → after v (walk T k i p) ≡ answer (a, held (v + 1))
        walk_end a q = walk_met ∙ ap (λ (r : Answer A). after (v + 1) (ended T (λ a. a) r)) q ∙ ap (λ (n : ℕ). answer (a, held n)) {x = v + 1 + 0} {y = v + 1} (omega arith)

-- ---- traces

module _ {E : Type 0} (T : Table E BspLeafContents) where
  module _ (s e : Vector3) where
    pub trace_outside : (k i : ℕ) → T.nodes.count ≤ i → recursive_trace T k i s e ≡ refused 30
    unfolding recursive_trace
    trace_outside zero i h = simp (le-ltb _ _ h)
    trace_outside (suc k) i h = simp (le-ltb _ _ h)

    pub trace_spent : (k i : ℕ) → k ≡ 0 → i < T.nodes.count → recursive_trace T k i s e ≡ refused 32
    unfolding recursive_trace
    trace_spent k i z h = rw z (simp (lt-ltb _ _ h))

    module _ (k j i : ℕ) (more : k ≡ suc j) (h : i < T.nodes.count) where
      abbrev call : ℕ → Vector3 → Vector3 → Outcome TraceT
      call n s e = recursive_trace T j n s e

      trace_step : recursive_trace T k i s e ≡ trace_at T call i s e (enter T i)
      unfolding recursive_trace
      trace_step = rw more (simp (lt-ltb _ _ h))

      pub trace_unread : (n : ℕ) → enter T i ≡ Ans.refused n → recursive_trace T k i s e ≡ refused n
      trace_unread n m = trace_step ∙ ap (trace_at T call i s e) m
