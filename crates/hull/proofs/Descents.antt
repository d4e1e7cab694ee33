-- Each way through a step of a segment's way down, over any table, by what is seen of the node and of the child that is met.
-- Assumes nothing.
use Prim.Native.Nat.{ℕ, suc, ◌+◌, ◌-◌, ◌<◌, ◌≤◌}
use mathlib.Core.Path.{◌≡◌, refl, sym, ap, ◌∙◌}
use mathlib.Core.Bool.{Bool, true, false, not, cond, beq}
use mathlib.Core.List.{[]}
use native.Mathlib.Omega.{arith}
use borrow.Author.Tests.{lt-ltb}
use lib.Dec.{ltb}
use lib.Ieee as Ieee
use lib.Ieee.{Float}
use Rattle.format.proofs.Answers.{mapped_answer, mapped_refused}
use Rattle.format.specs.Answer as Ans
use Rattle.format.specs.Answer.{Answer, answer, mapped}
use Rattle.format.specs.declared.contents.BspLeafContents.{BspLeafContents}
use Rattle.math.specs.Plane as Pl
use Rattle.math.specs.Vector.{zero32}
use Rattle.math.specs.declared.vector.Vector3.{Vector3}
use Rattle.math.specs.declared.plane.Hyperplane.{Hyperplane}
use Rattle.math.specs.declared.plane.LinePlaneIntersect.{LinePlaneIntersect}
use Rattle.math.specs.declared.plane.LinePlaneIntersect.TheVariants.{NoIntersection, PointIntersection}
use Rattle.phys.specs.declared.Trace.{Trace as TraceT}
use Rattle.walk.specs.Table.{Child, node, end, Node, Table, child_on}
use Rattle.walk.specs.Walk.{Outcome, done, refused, held, Entered, with_node, with_plane, enter, meet, ended, onto}
use Rattle.walk.specs.Private.{after}
use Rattle.walk.specs.Tracing.{across, trace_at, recursive_trace}
use Rattle.walk.proofs.Steps.{after_one, after_held, trace_unread}
use Rattle.nodes.specs.Fast.{two_dists}
use Rattle.hull.specs.Traces.{Met, met_node, met_contents, met_refused, met_end, met_child, within_leaf, ended_as, crossed_at}

-- ---- a child that is met

abbrev pub on_met : {W : Type 0} → (ℕ → Outcome W) → (BspLeafContents → W) → Met → Outcome W
on_met go here (met_node n) = go n
on_met go here (met_contents c) = done (here c) []
on_met go here (met_refused n) = refused n

module _ {E W : Type 0} (T : Table E BspLeafContents) (go : ℕ → Outcome W) (here : BspLeafContents → W) where
  at_end : (a : Answer BspLeafContents) → ended T here a ≡ on_met go here (met_end a)
  at_end (answer c) = refl
  at_end (Ans.refused n) = refl

  pub onto_met : (c : Child E) → onto T go here c ≡ on_met go here (met_child T c)
  onto_met (node n) = refl
  onto_met (end e) = at_end (meet T e)

-- what a child that is met says, where v nodes were entered before
abbrev pub says_met : (ℕ → Outcome TraceT) → (BspLeafContents → TraceT) → ℕ → Met → Answer (TraceT × ℕ)
says_met go here v (met_node n) = after v (go n)
says_met go here v (met_contents c) = answer (here c, v)
says_met go here v (met_refused n) = Ans.refused n

module _ (go : ℕ → Outcome TraceT) (here : BspLeafContents → TraceT) (v : ℕ) where
  pub met_says : held v ≡ v → (d : Met) → says_met go here v d ≡ after v (on_met go here d)
  met_says e (met_node n) = refl
  met_says e (met_contents c) = ap (λ (n : ℕ). answer (here c, n)) {x = v} {y = held (v + 0)} (omega (arith, e))
  met_says e (met_refused n) = refl

  pub end_says : (a : Answer BspLeafContents) → ended_as here v a ≡ says_met go here v (met_end a)
  end_says (answer c) = refl
  end_says (Ans.refused n) = refl

-- ---- the two sides by the distances

pub differ : (x y : Bool) → not (beq x y) ≡ true → Pl.same_side (Pl.side_if x) (Pl.side_if y) ≡ false
differ true true e = let z : ◌≡◌ {A = ℕ} 0 1 = cc in absurd (omega arith)
differ true false e = refl
differ false true e = refl
differ false false e = let z : ◌≡◌ {A = ℕ} 0 1 = cc in absurd (omega arith)

pub agree : (x y : Bool) → not (beq x y) ≡ false → Pl.same_side (Pl.side_if x) (Pl.side_if y) ≡ true
agree true true e = refl
agree true false e = let z : ◌≡◌ {A = ℕ} 0 1 = cc in absurd (omega arith)
agree false true e = let z : ◌≡◌ {A = ℕ} 0 1 = cc in absurd (omega arith)
agree false false e = refl

pub sides : (x y a b : Bool) → x ≡ a → y ≡ b → not (beq x y) ≡ not (beq a b)
sides x y a b e f = rw (e, f) refl

-- the visits where v nodes were entered before and k calls of l are left, and one is taken
pub one_more : {A : Type 0} (v l k : ℕ) → (k ≡ 0 → ⊥) → k ≤ l → (o : Outcome A) → after (v + (l - (k - 1))) o ≡ after (held (v + (l - k) + 1)) o
one_more v l k h f o = ap (λ (n : ℕ). after n o) {x = v + (l - (k - 1))} {y = v + (l - k) + 1} (omega (arith, h, f)) ∙ sym (after_held (v + (l - k) + 1) o)

-- ---- a node that was entered: its record and the distances of the segment's ends, and the plane of its number

abbrev pub seen_of : {E : Type 0} → Vector3 → Vector3 → Entered E → Node E × (Float × Float)
seen_of s e m = (m.nd, two_dists s e m.plane)

abbrev pub plane_of : {E : Type 0} → Table E BspLeafContents → ℕ → Answer Hyperplane
plane_of T i = cond (ltb i T.nodes.planes) (T.plane_at i) (Ans.refused 30)

module _ {E : Type 0} (T : Table E BspLeafContents) where
  planed_by : (nd : Node E) (b : Bool) (a : Answer Hyperplane) (m : Entered E) → cond b (with_plane T nd a) (Ans.refused 30) ≡ answer m → (nd ≡ m.nd) × (cond b a (Ans.refused 30) ≡ answer m.plane)
  planed_by nd true (answer h) m e =
      let z : record { nd = nd; plane = h } ≡ m = cc in
      (ap (λ (x : Entered E). x.nd) z, ap (λ (x : Entered E). answer x.plane) z)
  planed_by nd true (Ans.refused n) m e = let z : ◌≡◌ {A = ℕ} 0 1 = cc in absurd (omega arith)
  planed_by nd false a m e = let z : ◌≡◌ {A = ℕ} 0 1 = cc in absurd (omega arith)

  by_node : (x : Answer (Node E)) (m : Entered E) → with_node T x ≡ answer m → plane_of T m.nd.plane ≡ answer m.plane
  by_node (answer nd) m e =
      let q = planed_by nd (ltb nd.plane T.nodes.planes) (T.plane_at nd.plane) m e in
      sym (ap (λ (x : Node E). plane_of T x.plane) q.0) ∙ q.1
  by_node (Ans.refused n) m e = let z : ◌≡◌ {A = ℕ} 0 1 = cc in absurd (omega arith)

  planed : (i : ℕ) (m : Entered E) → enter T i ≡ answer m → plane_of T m.nd.plane ≡ answer m.plane
  unfolding enter
  planed i m e = by_node (T.nodes.node_at i) m e

-- ---- at a node of the table

module _ {E : Type 0} (T : Table E BspLeafContents) (s e : Vector3) (v k i : ℕ) (left : k ≡ 0 → ⊥) (h : i < T.nodes.count) where
  abbrev go : ℕ → Vector3 → Vector3 → Outcome TraceT
  go n a b = recursive_trace T (k - 1) n a b

  more : k ≡ suc (k - 1)
  more = omega arith

  pub unread : (n : ℕ) → Ans.refused n ≡ mapped (seen_of s e) (enter T i) → Ans.refused n ≡ after v (recursive_trace T k i s e)
  unread n q = sym (ap (after v) (trace_unread T s e k (k - 1) i more h n (mapped_refused (seen_of s e) (enter T i) n (sym q))))

  module _ (nd : Node E) (a b : Float) (is-r : answer (nd, (a, b)) ≡ mapped (seen_of s e) (enter T i)) (u : ℕ) (is-u : u ≡ held (v + 1)) where
    seen : (m : Entered E) × (enter T i ≡ answer m) × (◌≡◌ {A = Node E × (Float × Float)} (seen_of s e m) (nd, (a, b)))
    seen = mapped_answer (seen_of s e) (enter T i) (nd, (a, b)) (sym is-r)

    abbrev pl : Hyperplane
    pl = seen.0.plane

    its_node : seen.0.nd ≡ nd
    its_node = ap (λ (z : Node E × (Float × Float)). z.0) seen.2

    its_dists : ◌≡◌ {A = Float × Float} (two_dists s e pl) (a, b)
    its_dists = ap (λ (z : Node E × (Float × Float)). z.1) seen.2

    its_plane : plane_of T nd.plane ≡ answer pl
    its_plane = sym (ap (λ (z : Node E). plane_of T z.plane) its_node) ∙ planed T i seen.0 seen.1

    met : enter T i ≡ answer (record { nd = nd; plane = pl })
    met = seen.1 ∙ ap (λ (z : Node E). answer (record { nd = z; plane = pl })) its_node

    segment : Pl.line_segment pl s e ≡ Pl.segment_at pl s e a b
    unfolding Pl.line_segment
    segment = rw (ap (λ (z : Float × Float). z.0) its_dists, ap (λ (z : Float × Float). z.1) its_dists)

    on_one_side : Pl.same_side (Pl.from_dist a) (Pl.from_dist b) ≡ true → Pl.line_segment pl s e ≡ NoIntersection (Pl.from_dist a)
    on_one_side z = segment ∙ simp z

    crossing : Pl.same_side (Pl.from_dist a) (Pl.from_dist b) ≡ false → Pl.line_segment pl s e ≡ PointIntersection (Pl.crossing pl s e a b (Pl.from_dist a))
    crossing z = segment ∙ simp z

    -- ---- a crossing

    step : recursive_trace T k i s e ≡ trace_at T go i s e (enter T i)
    unfolding recursive_trace
    step = by_left (k - 1) more
      where
        by_left : (j : ℕ) → k ≡ suc j → recursive_trace T k i s e ≡ trace_at T (λ n x y. recursive_trace T j n x y) i s e (enter T i)
        by_left j p = rw p (simp (lt-ltb i T.nodes.count h))

    passes : after v (recursive_trace T k i s e) ≡ after u (across T go nd pl s e (Pl.line_segment pl s e))
    passes =
        ap (after v) (step ∙ ap (trace_at T go i s e) met) ∙ after_one v i (across T go nd pl s e (Pl.line_segment pl s e))
        ∙ sym (after_held (v + 1) (across T go nd pl s e (Pl.line_segment pl s e)))
        ∙ ap (λ (n : ℕ). after n (across T go nd pl s e (Pl.line_segment pl s e))) (sym is-u)

    pub crosses : not (beq (Ieee.le zero32 a) (Ieee.le zero32 b)) ≡ true → (p : Answer Hyperplane) → p ≡ plane_of T nd.plane
        → after u (crossed_at T (k - 1) nd s e a b p) ≡ after v (recursive_trace T k i s e)
    crosses z p is-p =
        rw (is-p, its_plane) (sym (passes ∙ ap (λ (l : LinePlaneIntersect). after u (across T go nd pl s e l)) (crossing (differ (Ieee.le zero32 a) (Ieee.le zero32 b) z))))

    -- ---- all on one side

    module _ (z : not (beq (Ieee.le zero32 a) (Ieee.le zero32 b)) ≡ false) where
      whole : (d : Met) → met_child T (child_on nd (Pl.side_if (Ieee.le zero32 a))) ≡ d → after v (recursive_trace T k i s e) ≡ after u (on_met (λ n. go n s e) (λ c. within_leaf s zero32 e c) d)
      whole d q =
          passes ∙ ap (λ (l : LinePlaneIntersect). after u (across T go nd pl s e l)) (on_one_side (agree (Ieee.le zero32 a) (Ieee.le zero32 b) z))
          ∙ ap (after u) (onto_met T (λ n. go n s e) (λ c. within_leaf s zero32 e c) (child_on nd (Pl.side_if (Ieee.le zero32 a))) ∙ ap (on_met (λ n. go n s e) (λ c. within_leaf s zero32 e c)) q)

      pub to_node : (n : ℕ) → met_child T (child_on nd (Pl.side_if (Ieee.le zero32 a))) ≡ met_node n → after v (recursive_trace T k i s e) ≡ after u (recursive_trace T (k - 1) n s e)
      to_node n q = whole (met_node n) q

      pub to_end : (x : Answer BspLeafContents) → met_child T (child_on nd (Pl.side_if (Ieee.le zero32 a))) ≡ met_end x → ended_as (within_leaf s zero32 e) u x ≡ after v (recursive_trace T k i s e)
      to_end x q =
          end_says (λ n. go n s e) (within_leaf s zero32 e) u x ∙ met_says (λ n. go n s e) (within_leaf s zero32 e) u (omega (arith, is-u)) (met_end x)
          ∙ sym (whole (met_end x) q)
