-- A trace along a drawn shape is answered. Where it goes on to the far part of a segment it goes on to the other child, so it enters no node twice.
use Prim.Native.Nat.{ℕ, suc, ◌≤◌}
use mathlib.Core.Bool.{Bool, true, false, not, ◌||◌, true≢false}
use mathlib.Core.List.Memᴰ
use mathlib.Core.List.{List, ◌++◌, Memᴰ}
use mathlib.Core.Logic.{◌⊎◌, inl, inr}
use mathlib.Core.Path.{◌≡◌, refl, sym, ◌∙◌, ap, subst, subst⁻¹}
use lib.Dec.{T as Holds}
use lib.Ieee.{binary32, fits}
use borrow.Author.Tests.{lt-ltb}
use Rattle.format.specs.Answer.{answer}
use Rattle.format.specs.declared.contents.BspLeafContents.{BspLeafContents}
use Rattle.math.specs.Plane as Pl
use Rattle.math.specs.declared.plane.Hyperplane.{Hyperplane}
use Rattle.math.specs.declared.plane.HyperplaneSide.{HyperplaneSide}
use Rattle.math.specs.declared.vector.Vector3.{Vector3}
use Rattle.math.specs.declared.plane.PointIntersection.{PointIntersection as Crossing}
use Rattle.math.specs.declared.plane.LinePlaneIntersect.{LinePlaneIntersect}
use Rattle.math.specs.declared.plane.LinePlaneIntersect.TheVariants.{NoIntersection, PointIntersection}
use Rattle.math.proofs.Crossing.{Fits3, between_fits, crossing_is, one_side_nowhere}
use Rattle.phys.specs.Trace as Tr
use Rattle.phys.specs.declared.Trace.{Trace as TraceT}
use Rattle.walk.specs.Table.{Child, Table, child_on}
use Rattle.walk.specs.Walk.{Outcome, done, enter, onto}
use Rattle.walk.specs.Tracing.{joined, with_far, stops, near_of, far_of, after_near, with_near, across, recursive_trace}
use Rattle.walk.specs.Tree.{NoTwice, Reads, PlanesFit}
use Rattle.walk.proofs.Lists.{append_once, once_left, once_right}
use Rattle.walk.proofs.Shape.{Shape, fork, top, height, nodes_of, record_of, Drawn, Hangs, front_hangs, back_hangs, part, on_part, on_sides, part_within, parts_apart, by_shape}
use Rattle.walk.proofs.AnsweredIn.{AnsweredIn, wider, entered_in, enters, end_in}
use Rattle.walk.proofs.NoPanic.{joins, starts_at_child}

or_not : (a : Bool) → (a || not false) ≡ true
or_not true = refl
or_not false = refl

-- a trace that goes on to the far part goes on to the other child
pub other_child : (h : Hyperplane) (s e : Vector3) (t : TraceT) (x : Crossing) → Holds (fits binary32 h.dist) → Fits3 s → Fits3 e
    → Pl.line_segment h s e ≡ PointIntersection x → stops t x ≡ false → Pl.point_side h s ≡ Pl.point_side h e → ⊥
other_child h s e t x D S F q z one =
    let w : stops t x ≡ true = ap (λ (b : Bool). Tr.is_terminal t || not b) (one_side_nowhere h s e x D S F q one t.end.point) ∙ or_not (Tr.is_terminal t) in
    true≢false (sym w ∙ z)

-- a crossing is a point of f32 numbers
crossing_point_fits : (h : Hyperplane) (s e : Vector3) (x : Crossing) → Pl.line_segment h s e ≡ PointIntersection x → Fits3 x.point
crossing_point_fits h s e x q =
    subst Fits3 (ap (λ (m : Crossing). m.point) (crossing_is h s e x q).1) (between_fits s e (Pl.ratio_of (Pl.point_dist h s) (Pl.point_dist h e)))

module _ {E : Type 0} (T : Table E BspLeafContents) (R : Reads T) (D : PlanesFit T) where
  abbrev call : ℕ → ℕ → Vector3 → Vector3 → Outcome TraceT
  call k n s e = recursive_trace T k n s e

  abbrev pub trace_on : ℕ → Vector3 → Vector3 → (BspLeafContents → TraceT) → Child E → Outcome TraceT
  trace_on k s e here c = onto T (λ n. recursive_trace T k n s e) here c

  abbrev In : ℕ → Shape E → Type 0
  In k t = (s e : Vector3) → Fits3 s → Fits3 e → (here : BspLeafContents → TraceT) → AnsweredIn (nodes_of t) (trace_on k s e here (top t))

  abbrev Sides : ℕ → Shape E → Shape E → Type 0
  Sides k f b = (sd : HyperplaneSide) → In k (part sd f b)

  module _ (k p : ℕ) (f b : Shape E) (o : NoTwice (nodes_of f ++ nodes_of b)) (h : Hyperplane) (dist : Holds (fits binary32 h.dist)) (s e : Vector3) (S : Fits3 s) (F : Fits3 e) where
    abbrev all : List ℕ
    all = nodes_of f ++ nodes_of b

    near_far : (x : Crossing) → Pl.line_segment h s e ≡ PointIntersection x
        → AnsweredIn (nodes_of (part (Pl.point_side h s) f b)) (near_of T (call k) (record_of p f b) h s e x)
        → AnsweredIn (nodes_of (part (Pl.point_side h e) f b)) (far_of T (call k) (record_of p f b) h s e x)
        → AnsweredIn all (with_near T (call k) (record_of p f b) h s e x (near_of T (call k) (record_of p f b) h s e x))
    near_far x q gn gf =
        subst⁻¹ (λ (r : Outcome TraceT). AnsweredIn all (with_near T (call k) (record_of p f b) h s e x r)) gn.answered (step (stops gn.value x) refl)
      where
        inside : (n : ℕ) → Memᴰ n gn.nodes ⊎ Memᴰ n gf.nodes → Memᴰ n all
        inside n (inl m) = part_within (Pl.point_side h s) f b n (gn.within n m)
        inside n (inr m) = part_within (Pl.point_side h e) f b n (gf.within n m)

        starts : gf.value.start.point ≡ x.point
        starts = starts_at_child T k x.point e _ (λ c. refl) (child_on (record_of p f b) (Pl.point_side h e)) gf.value gf.nodes gf.answered

        both : stops gn.value x ≡ false → AnsweredIn all (with_far gn.value gn.nodes (done gf.value gf.nodes))
        both z = record {
          value = Tr.join_met gn.value gf.value;
          nodes = gn.nodes ++ gf.nodes;
          answered = ap (joined (gn.nodes ++ gf.nodes)) (joins gn.value gf.value x z starts);
          once = append_once gn.nodes gf.nodes gn.once gf.once
              (λ n m m'. parts_apart (Pl.point_side h s) (Pl.point_side h e) f b (other_child h s e gn.value x dist S F q z) o n (gn.within n m) (gf.within n m'));
          within = λ n m. inside n (Memᴰ.append_cases gn.nodes m);
        }

        step : (z : Bool) → stops gn.value x ≡ z → AnsweredIn all (after_near T (call k) (record_of p f b) h s e x gn.value gn.nodes z)
        step true z = record { value = gn.value; nodes = gn.nodes; answered = refl; once = gn.once; within = λ n m. inside n (inl m) }
        step false z = subst⁻¹ (λ (r : Outcome TraceT). AnsweredIn all (with_far gn.value gn.nodes r)) gf.answered (both z)

    across_in : Sides k f b → (l : LinePlaneIntersect) → Pl.line_segment h s e ≡ l → AnsweredIn all (across T (call k) (record_of p f b) h s e l)
    across_in ih (NoIntersection sd) q = rw (on_part sd p f b) (wider all (part_within sd f b) (ih sd s e S F _))
    across_in ih (PointIntersection x) q =
        let M : Fits3 x.point = crossing_point_fits h s e x q in
        near_far x q (rw (on_part (Pl.point_side h s) p f b) (ih (Pl.point_side h s) s x.point S M _)) (rw (on_part (Pl.point_side h e) p f b) (ih (Pl.point_side h e) x.point e M F _))

  fork_in : (k i p : ℕ) (f b : Shape E) → Drawn T.nodes (fork i p f b) → NoTwice (nodes_of (fork i p f b)) → Sides k f b
      → (s e : Vector3) → Fits3 s → Fits3 e → AnsweredIn (nodes_of (fork i p f b)) (recursive_trace T (suc k) i s e)
  unfolding recursive_trace
  fork_in k i p f b d o ih s e S F =
      let w : (h : Hyperplane) × (T.plane_at p ≡ answer h) × (enter T i ≡ answer (record { nd = record_of p f b; plane = h })) = enters T R i p f b d in
      rw (lt-ltb i T.nodes.count d.0, w.2)
      (entered_in i (nodes_of f ++ nodes_of b) _ o (across_in k p f b o.1 w.0 (D p w.0 w.1) s e S F ih (Pl.line_segment w.0 s e) refl))

  pub along : (t : Shape E) → Drawn T.nodes t → (k j : ℕ) → height t ≤ k → height t ≤ j → Hangs T.nodes t → NoTwice (nodes_of t) → In k t
  along =
      by_shape T.nodes (λ k j t. Hangs T.nodes t → NoTwice (nodes_of t) → In k t) (λ k j x d i o s e S F here. end_in T R (λ n. recursive_trace T k n s e) here x d i)
      (λ k j i p f b d x y u o s e S F here. fork_in k i p f b d o (on_sides (In k) f b
      (x (front_hangs T.nodes i p f b d.1) (once_left (nodes_of f) (nodes_of b) o.1)) (y (back_hangs T.nodes i p f b d.1) (once_right (nodes_of f) (nodes_of b) o.1))) s e S F)
