-- A trace by numbers alone beside the trace that it stands for: whether it ends with its near part, and its two parts joined.
-- Assumes nothing.
use Rattle.std.proofs.Common.{Ok, Err}
use Rattle.std.specs.Prelude.{Result}
use Prim.Native.Nat.{ℕ, ◌^◌, ◌<◌}
use mathlib.Core.Path.{◌≡◌, refl, sym, ap, ◌∙◌}
use mathlib.Core.Bool.{Bool, true, false, cond, not, ◌||◌, ◌&&◌}
use mathlib.Core.List.{List}
use native.Mathlib.Omega.{arith}
use lib.Ieee.{Float}
use Rattle.format.specs.Answer as Ans
use Rattle.format.specs.Answer.{Answer, answer}
use Rattle.format.specs.declared.refusal.Refusal.{Refusal}
use Rattle.format.specs.Contents as Contents
use Rattle.format.specs.declared.contents.BspLeafContents.TheVariants.{Solid}
use Rattle.format.specs.declared.contents.BspLeafContents.{BspLeafContents}
use Rattle.math.specs.Plane as Pl
use Rattle.math.specs.Vector as Vec
use Rattle.math.specs.declared.vector.Vector3.{Vector3}
use Rattle.math.specs.declared.plane.Hyperplane.{Hyperplane}
use Rattle.phys.specs.Trace as Tr
use Rattle.phys.specs.declared.Trace.{Trace as TraceT}
use Rattle.phys.specs.declared.TraceStart.{TraceStart}
use Rattle.walk.specs.Table.{Node, Table, child_on}
use Rattle.walk.specs.Walk.{Outcome}
use Rattle.walk.specs.Private.{after}
use Rattle.walk.specs.Tracing.{recursive_trace}
use Rattle.nodes.specs.declared.table.Tables.{Tables}
use Rattle.nodes.specs.Tables.{End}
use Rattle.nodes.specs.Fast as Fast
use Rattle.nodes.specs.Fast.{node_of, plane_in}
use Rattle.nodes.specs.declared.read.Words.{Words as WordsT}
use Rattle.hull.proofs.Descents.{says_met, end_says}
use Rattle.hull.proofs.Crossings.{visits_small, near_part, far_part, near_on, far_on, near_declined, near_stops, both}
use Rattle.hull.specs.Traces.{Met, met_contents, met_end, met_child, at_start, within_leaf, out_of_leaf, ended_as, left_by, plane_met, went_trace, way_answer, ends_with, carried_to, counted_as, join_parts, stops_at, joined_with, join_far, crossed_at, resumed}
use Rattle.hull.specs.declared.tracing.Went.{Went}
use Rattle.hull.specs.declared.tracing.Descent.{Descent}
use Rattle.hull.specs.declared.tracing.Descent.TheVariants as D

by_end : (b : Bool) (e m : Vector3) (k : Float) (h : Hyperplane)
    → cond b (not (Vec.same e m)) true
    ≡ (Tr.is_terminal_kind (cond b (Tr.boundary e k h) (Tr.terminal e)).kind || not (Vec.same (cond b (Tr.boundary e k h) (Tr.terminal e)).point m))
by_end true e m k h = refl
by_end false e m k h = refl

neither : (a b : Bool) → (a || not b) ≡ false → (a ≡ false) × (b ≡ true)
neither false true e = (refl, refl)
neither false false e = let z : ◌≡◌ {A = ℕ} 0 1 = cc in absurd (omega arith)
neither true b e = let z : ◌≡◌ {A = ℕ} 0 1 = cc in absurd (omega arith)

-- the near part joined with the far one, which is refused where that is
abbrev pub join_way : Went → Result Went Refusal → Result Went Refusal
join_way g (Ok u) = Ok (join_parts g u)
join_way g (Err e) = Err e

module _ (f : List ℕ) (t : Tables) (st : TraceStart) (g : Went) (m : Vector3) where
  abbrev near : TraceT
  near = went_trace f t st g

  pub ends_stops : ends_with g m ≡ stops_at near m
  ends_stops = by_end g.met g.end m g.ratio (plane_met f t g.plane g.front)

  module _ (goes : ends_with g m ≡ false) (k : Float) where
    open_end : (Tr.is_terminal near ≡ false) × (Vec.same near.end.point m ≡ true)
    open_end = neither (Tr.is_terminal near) (Vec.same near.end.point m) (sym ends_stops ∙ goes)

    module _ (u : Went) where
      abbrev far : TraceT
      far = went_trace f t (Tr.start m k) u

      chosen : (a b : Bool)
          → ◌≡◌ {A = TraceT × ℕ}
          (went_trace f t st (cond a (carried_to u g.contents g.start_solid) (cond b (carried_to u u.contents true) (counted_as g u.visits))), (cond a (carried_to u g.contents g.start_solid) (cond b (carried_to u u.contents true) (counted_as g u.visits))).visits)
          (cond a (Tr.join_same near far) (cond b (Tr.trace near.start far.end far.contents true) near), u.visits)
      chosen true b = refl
      chosen false true = refl
      chosen false false = refl

      met : Tr.join near far ≡ answer (Tr.join_met near far)
      unfolding Tr.join
      met = simp (open_end.0, open_end.1)

    pub joins_way : (w : Result Went Refusal) → way_answer f t st (join_way g w) ≡ join_far near (way_answer f t (Tr.start m k) w)
    joins_way (Ok u) =
        ap answer (chosen u (Contents.equal g.contents u.contents) (Contents.equal g.contents Solid && not (Contents.equal u.contents Solid)))
        ∙ sym (ap (joined_with u.visits) (met u))
    joins_way (Err e) = refl

-- ---- a crossing that was come to, and its two parts, each a trace by numbers alone

-- the words w of a node whose plane h the segment from s to e crosses at mid, with the distances a and b of its ends, k calls left below it and n
-- nodes entered before: what the whole says from there is all
pub record Here (f : List ℕ) (t : Tables) (w : WordsT) (s e mid : Vector3) (a b : Float) (k n : ℕ) (h : Hyperplane) (all : Answer (TraceT × ℕ)) : Type 0 where
  pub plane : plane_in f t w.plane ≡ answer h
  pub point : mid ≡ (Pl.crossing h s e a b (Pl.from_dist a)).point
  pub says : after n (crossed_at (Fast.table f t) k (node_of t.table w) s e a b (plane_in f t w.plane)) ≡ all
  pub small : n < 2 ^ 64

pub came : (f : List ℕ) (t : Tables) {w : WordsT} {s e mid : Vector3} {a b : Float} {k n : ℕ} {h : Hyperplane} {all : Answer (TraceT × ℕ)} {r : Result (Descent WordsT) Refusal}
    → resumed f t s e r ≡ all → r ≡ Ok (D.Crossing w a b k n) → n < 2 ^ 64 → plane_in f t w.plane ≡ answer h → mid ≡ (Pl.crossing h s e a b (Pl.from_dist a)).point
    → Here f t w s e mid a b k n h all
came f t {w} {s} {e} says q small plane point = record { plane = plane; point = point; says = sym (ap (resumed f t s e) q) ∙ says; small = small }

module _ {f : List ℕ} {t : Tables} {w : WordsT} {s e mid : Vector3} {a b : Float} {k n : ℕ} {h : Hyperplane} {all : Answer (TraceT × ℕ)} (c : Here f t w s e mid a b k n h all) where
  abbrev table : Table End BspLeafContents
  table = Fast.table f t

  abbrev nd : Node End
  nd = node_of t.table w

  abbrev pub near_in : Outcome TraceT
  near_in = near_part table nd s e a b k h

  abbrev pub far_in : Outcome TraceT
  far_in = far_part table nd s e a b k h

  -- the child on a side, and what each part says by its child
  abbrev pub on_side : Bool → Met
  on_side front = met_child table (child_on nd (Pl.side_if front))

  abbrev pub out : BspLeafContents → TraceT
  out = out_of_leaf s mid (Pl.ratio_of a b) (Pl.facing (Pl.point_side h s) h)

  abbrev pub near_says : Met → Answer (TraceT × ℕ)
  near_says = says_met (λ i. recursive_trace table k i s mid) out n

  abbrev pub within : BspLeafContents → TraceT
  within = within_leaf mid (Pl.ratio_of a b) e

  abbrev pub far_says : ℕ → Met → Answer (TraceT × ℕ)
  far_says v = says_met (λ i. recursive_trace table k i mid e) within v

  pub near_ended : (y : Answer BspLeafContents) → ended_as out n y ≡ near_says (met_end y)
  near_ended = end_says (λ i. recursive_trace table k i s mid) out n

  pub far_ended : (v : ℕ) (y : Answer BspLeafContents) → ended_as within v y ≡ far_says v (met_end y)
  far_ended = end_says (λ i. recursive_trace table k i mid e) within

  module _ (front : Bool) (side : Pl.side_if front ≡ Pl.point_side h s) where
    pub near_by : (d : Met) → on_side front ≡ d → (r : Answer (TraceT × ℕ)) → r ≡ near_says d → r ≡ after n near_in
    near_by = near_on table nd s e a b k h mid c.point n c.small front side

    pub near_refused : (d : Met) → on_side front ≡ d → (z : ℕ) → Ans.refused z ≡ near_says d → Ans.refused z ≡ all
    near_refused d q z r = near_declined table nd s e a b k h n all (plane_in f t w.plane) c.says c.plane (Ans.refused z) (near_by d q (Ans.refused z) r) z refl

    -- out of a leaf through the plane
    pub left_is : (x : BspLeafContents) → way_answer f t (at_start s) (Ok (left_by mid (Pl.ratio_of a b) w.plane front x n)) ≡ near_says (met_contents x)
    left_is x = rw (c.plane, side)

  module _ (g : Went) (near : way_answer f t (at_start s) (Ok g) ≡ after n near_in) where
    module _ (front : Bool) (side : Pl.side_if front ≡ Pl.point_side h e) where
      pub far_by : (d : Met) → on_side front ≡ d → (r : Answer (TraceT × ℕ)) → r ≡ far_says g.visits d → r ≡ after g.visits far_in
      far_by = far_on table nd s e a b k h mid c.point g.visits (visits_small n near_in (went_trace f t (at_start s) g) g.visits (sym near)) front side

    module _ (st : Bool) (is-st : st ≡ ends_with g mid) where
      pub near_ends : st ≡ true → way_answer f t (at_start s) (Ok g) ≡ all
      near_ends z =
          near_stops table nd s e a b k h n all (plane_in f t w.plane) c.says c.plane (way_answer f t (at_start s) (Ok g)) near (went_trace f t (at_start s) g) g.visits refl mid c.point st (is-st ∙ ends_stops f t (at_start s) g mid) z

      module _ (z : st ≡ false) where
        goes_on : (far : Answer (TraceT × ℕ)) → far ≡ after g.visits far_in → (r : Answer (TraceT × ℕ)) → r ≡ join_far (went_trace f t (at_start s) g) far → r ≡ all
        goes_on = both table nd s e a b k h n all (plane_in f t w.plane) c.says c.plane (way_answer f t (at_start s) (Ok g)) near (went_trace f t (at_start s) g) g.visits refl mid c.point st (is-st ∙ ends_stops f t (at_start s) g mid) z

        pub far_refused : (front : Bool) → Pl.side_if front ≡ Pl.point_side h e → (d : Met) → on_side front ≡ d → (y : ℕ) → Ans.refused y ≡ far_says g.visits d → Ans.refused y ≡ all
        far_refused front side d q y r = goes_on (Ans.refused y) (far_by front side d q (Ans.refused y) r) (Ans.refused y) refl

        pub both_ways : (u : Went) → (r : Float) × (way_answer f t (Tr.start mid r) (Ok u) ≡ after g.visits far_in) → way_answer f t (at_start s) (Ok (join_parts g u)) ≡ all
        both_ways u far = goes_on (way_answer f t (Tr.start mid far.0) (Ok u)) far.1 _ (joins_way f t (at_start s) g mid (sym is-st ∙ z) far.0 (Ok u))

-- the same where the sides of both ends are told
pub record Crosses (f : List ℕ) (t : Tables) (w : WordsT) (s e mid : Vector3) (a b : Float) (k n : ℕ) (front there : Bool) (all : Answer (TraceT × ℕ)) : Type 0 where
  pub h : Hyperplane
  pub here : Here f t w s e mid a b k n h all
  pub near_side : Pl.side_if front ≡ Pl.point_side h s
  pub far_side : Pl.side_if there ≡ Pl.point_side h e
