-- Each way through a step of a segment's way down, by what the reader answers.
-- Assumes nothing.
use Prim.Native.Nat.{ℕ, suc, ◌+◌, ◌-◌, ◌^◌, ◌<◌, ◌≤◌}
use mathlib.Core.Path.{◌≡◌, refl, sym, ap, ap₂, ◌∙◌}
use mathlib.Core.Bool.{Bool, true, false, not, beq}
use mathlib.Core.List.{List}
use native.Mathlib.Omega.{arith}
use borrow.Author.Tests.{lt-ltb}
use lib.Ieee as Ieee
use lib.Ieee.{Float}
use lib.ListN.{length, set, length-set}
use Rattle.format.proofs.Answers.{mapped_answer, mapped_refused}
use Rattle.std.specs.Prelude.{Result}
use Rattle.std.proofs.Common.{Ok, Err}
use Rattle.format.specs.Answer as Ans
use Rattle.format.specs.Answer.{Answer, answer}
use Rattle.format.specs.Refusal.{number_of}
use Rattle.format.specs.declared.refusal.Refusal.{Refusal}
use Rattle.format.specs.declared.contents.BspLeafContents.{BspLeafContents}
use Rattle.math.specs.Plane as Pl
use Rattle.math.specs.Vector.{zero32}
use Rattle.math.specs.declared.vector.Vector3.{Vector3}
use Rattle.math.specs.declared.plane.Hyperplane.{Hyperplane}
use Rattle.math.specs.declared.plane.LinePlaneIntersect.{LinePlaneIntersect}
use Rattle.math.specs.declared.plane.LinePlaneIntersect.TheVariants.{NoIntersection, PointIntersection}
use Rattle.phys.specs.Trace as Tr
use Rattle.phys.specs.declared.Trace.{Trace as TraceT}
use Rattle.walk.specs.Table.{Child, Node, Table}
use Rattle.walk.specs.Walk.{Outcome, entered, held, Entered, enter, ended, onto}
use Rattle.walk.specs.Tracing.{across, trace_at, recursive_trace}
use Rattle.walk.proofs.Steps.{trace_outside, trace_spent, trace_unread}
use Rattle.nodes.specs.Tables.{End}
use Rattle.nodes.specs.Fast.{node_of, onto_word, onto_child, plane_in, two_dists, contents_met, word_on}
use Rattle.nodes.specs.Fast as Fast
use Rattle.nodes.specs.declared.table.Tables.{Tables}
use Rattle.nodes.specs.declared.read.Onto.{Onto}
use Rattle.nodes.specs.declared.read.Onto.TheVariants as O
use Rattle.nodes.specs.declared.read.Words.{Words as WordsT}
use Rattle.nodes.specs.Walks.{made_from, node_and_dists, segment_answer}
use Rattle.nodes.proofs.Entering.{planed}
use Rattle.hull.specs.Traces.{crossed_at}
use Rattle.hull.proofs.Descents.{differ, agree}
use Rattle.entered.specs.Onward.{traced_list}
use Rattle.entered.proofs.Steps.{child_goes}
use Rattle.entered.proofs.Parts.{written_entered, written_held}

-- ---- at a node

module _ (f : List ℕ) (t : Tables) (s e : Vector3) (v k i : ℕ) (l : List ℕ) where
  abbrev T : Table End BspLeafContents
  T = Fast.table f t

  abbrev all : Answer ((TraceT × ℕ) × List ℕ)
  all = traced_list v l (recursive_trace T k i s e)

  pub outside : t.nodes.count ≤ i → Ans.refused 30 ≡ all
  outside h = sym (ap (traced_list v l) (trace_outside T s e k i h))

  module _ (h : i < t.nodes.count) where
    pub spent : k ≡ 0 → Ans.refused 32 ≡ all
    spent z = sym (ap (traced_list v l) (trace_spent T s e k i z h))

    module _ (left : k ≡ 0 → ⊥) (r : Result (WordsT × Float × Float) Refusal) (is-r : segment_answer t.table r ≡ made_from (node_and_dists s e) f t i) where
      abbrev go : ℕ → Vector3 → Vector3 → Outcome TraceT
      go n a b = recursive_trace T (k - 1) n a b

      more : k ≡ suc (k - 1)
      more = omega arith

      pub unread : (x : Refusal) → r ≡ Err x → Ans.refused (number_of x) ≡ all
      unread x q =
          sym (ap (traced_list v l) (trace_unread T s e k (k - 1) i more h (number_of x) (mapped_refused (node_and_dists s e) (enter T i) (number_of x) (sym is-r ∙ ap (segment_answer t.table) q))))

      module _ (w : WordsT) (a b : Float) (q2 : r ≡ Ok (w, a, b)) (short : length l < 2 ^ 63) (l1 : List ℕ) (is-l1 : l1 ≡ set l v i) (u : ℕ) (is-u : u ≡ held (v + 1)) where
        abbrev nd : Node End
        nd = node_of t.table w

        seen : (m : Entered End) × (enter T i ≡ answer m) × (◌≡◌ {A = Node End × (Float × Float)} (node_and_dists s e m) (nd, (a, b)))
        seen = mapped_answer (node_and_dists s e) (enter T i) (nd, (a, b)) (sym is-r ∙ ap (segment_answer t.table) q2)

        abbrev pl : Hyperplane
        pl = seen.0.plane

        its_node : seen.0.nd ≡ nd
        its_node = ap (λ (z : Node End × (Float × Float)). z.0) seen.2

        its_dists : ◌≡◌ {A = Float × Float} (two_dists s e pl) (a, b)
        its_dists = ap (λ (z : Node End × (Float × Float)). z.1) seen.2

        its_plane : plane_in f t w.plane ≡ answer pl
        its_plane = sym (ap (λ (z : Node End). plane_in f t z.plane) its_node) ∙ planed f t i seen.0 seen.1

        met : enter T i ≡ answer (record { nd = nd; plane = pl })
        met = seen.1 ∙ ap (λ (z : Node End). answer (record { nd = z; plane = pl })) its_node

        segment : Pl.line_segment pl s e ≡ Pl.segment_at pl s e a b
        unfolding Pl.line_segment
        segment = rw (ap (λ (z : Float × Float). z.0) its_dists, ap (λ (z : Float × Float). z.1) its_dists)

        on_one_side : Pl.same_side (Pl.from_dist a) (Pl.from_dist b) ≡ true → Pl.line_segment pl s e ≡ NoIntersection (Pl.from_dist a)
        on_one_side z = segment ∙ simp z

        crossing : Pl.same_side (Pl.from_dist a) (Pl.from_dist b) ≡ false → Pl.line_segment pl s e ≡ PointIntersection (Pl.crossing pl s e a b (Pl.from_dist a))
        crossing z = segment ∙ simp z

        step : recursive_trace T k i s e ≡ trace_at T go i s e (enter T i)
        unfolding recursive_trace
        step = by_left (k - 1) more
          where
            by_left : (j : ℕ) → k ≡ suc j → recursive_trace T k i s e ≡ trace_at T (λ n x y. recursive_trace T j n x y) i s e (enter T i)
            by_left j p = rw p (simp (lt-ltb i t.nodes.count h))

        -- the node is written and counted
        passes : (y : LinePlaneIntersect) → Pl.line_segment pl s e ≡ y → traced_list u l1 (across T go nd pl s e y) ≡ all
        passes y q =
            ap₂ (λ (n : ℕ) (m : List ℕ). traced_list n m (across T go nd pl s e y)) is-u is-l1
            ∙ written_held (v + 1) (set l v i) (omega (arith, length-set l v i)) (across T go nd pl s e y)
            ∙ sym (written_entered v i l (across T go nd pl s e y))
            ∙ sym (ap (traced_list v l) (step ∙ ap (trace_at T go i s e) met ∙ ap (λ (z : LinePlaneIntersect). entered i (across T go nd pl s e z)) q))

        pub crosses : not (beq (Ieee.le zero32 a) (Ieee.le zero32 b)) ≡ true → traced_list u l1 (crossed_at T (k - 1) nd s e a b (plane_in f t w.plane)) ≡ all
        crosses z = rw its_plane (passes (PointIntersection (Pl.crossing pl s e a b (Pl.from_dist a))) (crossing (differ (Ieee.le zero32 a) (Ieee.le zero32 b) z)))

        module _ (z : not (beq (Ieee.le zero32 a) (Ieee.le zero32 b)) ≡ false) (c : Onto) (is_c : c ≡ onto_word (word_on w (Ieee.le zero32 a))) where
          abbrev on_to : Child End → Outcome TraceT
          on_to y = onto T (λ n. go n s e) (λ x. Tr.new_trace (Tr.start s zero32) (Tr.terminal e) x) y

          whole : (y : Onto) → c ≡ y → traced_list u l1 (on_to (onto_child t.table y)) ≡ all
          whole y q =
              ap (λ (x : Child End). traced_list u l1 (on_to x)) (ap (onto_child t.table) (sym q) ∙ child_goes t.table w (Pl.from_dist a) (Ieee.le zero32 a) refl c is_c)
              ∙ passes (NoIntersection (Pl.from_dist a)) (on_one_side (agree (Ieee.le zero32 a) (Ieee.le zero32 b) z))

          pub to_node : (n : ℕ) → c ≡ O.Node n → traced_list u l1 (recursive_trace T (k - 1) n s e) ≡ all
          to_node n q = whole (O.Node n) q

          pub to_end : (x : ℕ) → c ≡ O.End x → traced_list u l1 (ended T (λ y. Tr.new_trace (Tr.start s zero32) (Tr.terminal e) y) (contents_met f t x)) ≡ all
          unfolding contents_met
          to_end x q = whole (O.End x) q
