-- Each way through a trace at a crossing, over any table, from what the calls for its two parts answered.
-- Assumes nothing.
use Prim.Native.Nat.{ℕ, ◌+◌, ◌^◌, ◌<◌}
use mathlib.Core.Path.{◌≡◌, refl, sym, ap, ◌∙◌}
use mathlib.Core.Bool.{Bool, true, false}
use mathlib.Core.List.{List, ◌++◌}
use native.Mathlib.Omega.{arith}
use lib.Ieee.{Float}
use lib.ListN.{length, length-append}
use Rattle.format.specs.Answer as Ans
use Rattle.format.specs.Answer.{Answer, answer}
use Rattle.format.specs.declared.contents.BspLeafContents.{BspLeafContents}
use Rattle.math.specs.Plane as Pl
use Rattle.math.specs.declared.vector.Vector3.{Vector3}
use Rattle.math.specs.declared.plane.Hyperplane.{Hyperplane}
use Rattle.math.specs.declared.plane.HyperplaneSide.{HyperplaneSide}
use Rattle.math.specs.declared.plane.PointIntersection.{PointIntersection as Crossing}
use Rattle.phys.specs.Trace as Tr
use Rattle.phys.specs.declared.Trace.{Trace as TraceT}
use Rattle.walk.specs.Table.{Node, Table, child_on}
use Rattle.walk.specs.Walk.{Outcome, done, refused, held}
use Rattle.walk.specs.Private.{after}
use Rattle.walk.specs.Tracing.{joined, with_far, stops, near_of, far_of, after_near, with_near, recursive_trace}
use Rattle.walk.proofs.Steps.{after_done, after_refused}
use Rattle.hull.specs.Traces.{Met, met_child, within_leaf, out_of_leaf, stops_at, joined_with, join_far, crossed_at}
use Rattle.hull.proofs.Descents.{on_met, onto_met, says_met, met_says}

-- visits that are answered are below 2^64
pub visits_small : (n : ℕ) (o : Outcome TraceT) (y : TraceT) (v : ℕ) → after n o ≡ answer (y, v) → v < 2 ^ 64
visits_small n o y v e = let d = after_done n o y v e in omega (arith, d.2)

-- the far part joined on, with the visits of both
module _ (near : TraceT) (n v : ℕ) (ns : List ℕ) (is-v : held (n + length ns) ≡ v) where
  join_both : (ms : List ℕ) (j : Answer TraceT) → joined_with (held (v + length ms)) j ≡ after n (joined (ns ++ ms) j)
  join_both ms (answer y) = ap (λ (z : ℕ). answer (y, z)) {x = held (v + length ms)} {y = held (n + length (ns ++ ms))} (omega (arith, length-append ns ms))
  join_both ms (Ans.refused m) = refl

  joins : (far : Outcome TraceT) → join_far near (after v far) ≡ after n (with_far near ns far)
  joins (done u ms) = join_both ms (Tr.join near u)
  joins (refused m) = refl

-- at a node nd with the plane h, between s and e at the distances a and b from it, with k calls left
module _ {E : Type 0} (T : Table E BspLeafContents) (nd : Node E) (s e : Vector3) (a b : Float) (k : ℕ) (h : Hyperplane) where
  abbrev go : ℕ → Vector3 → Vector3 → Outcome TraceT
  go = recursive_trace T k

  abbrev x : Crossing
  x = Pl.crossing h s e a b (Pl.from_dist a)

  -- the plane as the near part ends at it
  abbrev turned : Hyperplane
  turned = Pl.facing (Pl.point_side h s) h

  abbrev pub near_part : Outcome TraceT
  near_part = near_of T go nd h s e x

  abbrev pub far_part : Outcome TraceT
  far_part = far_of T go nd h s e x

  -- ---- the two parts, each by the child that is met

  module _ (mid : Vector3) (is-mid : mid ≡ x.point) (v : ℕ) (small : v < 2 ^ 64) (fr : Bool) where
    abbrev child : Met
    child = met_child T (child_on nd (Pl.side_if fr))

    module _ (is_side : Pl.side_if fr ≡ Pl.point_side h s) where
      near_met : (d : Met) → child ≡ d → near_part ≡ on_met (λ i. go i s mid) (λ c. out_of_leaf s mid x.ratio turned c) d
      near_met d q =
          onto_met T (λ i. go i s x.point) (λ c. out_of_leaf s x.point x.ratio turned c) (child_on nd (Pl.point_side h s))
          ∙ ap (on_met (λ i. go i s x.point) (λ c. out_of_leaf s x.point x.ratio turned c)) (sym (ap (λ (z : HyperplaneSide). met_child T (child_on nd z)) is_side) ∙ q)
          ∙ sym (ap (λ (z : Vector3). on_met (λ i. go i s z) (λ c. out_of_leaf s z x.ratio turned c) d) is-mid)

      pub near_on : (d : Met) → child ≡ d → (r : Answer (TraceT × ℕ)) → r ≡ says_met (λ i. go i s mid) (out_of_leaf s mid x.ratio turned) v d → r ≡ after v near_part
      near_on d q r is-r = is-r ∙ met_says (λ i. go i s mid) (out_of_leaf s mid x.ratio turned) v (omega arith) d ∙ sym (ap (after v) (near_met d q))

    module _ (is_side : Pl.side_if fr ≡ Pl.point_side h e) where
      far_met : (d : Met) → child ≡ d → far_part ≡ on_met (λ i. go i mid e) (λ c. within_leaf mid x.ratio e c) d
      far_met d q =
          onto_met T (λ i. go i x.point e) (λ c. within_leaf x.point x.ratio e c) (child_on nd (Pl.point_side h e))
          ∙ ap (on_met (λ i. go i x.point e) (λ c. within_leaf x.point x.ratio e c)) (sym (ap (λ (z : HyperplaneSide). met_child T (child_on nd z)) is_side) ∙ q)
          ∙ sym (ap (λ (z : Vector3). on_met (λ i. go i z e) (λ c. within_leaf z x.ratio e c) d) is-mid)

      pub far_on : (d : Met) → child ≡ d → (r : Answer (TraceT × ℕ)) → r ≡ says_met (λ i. go i mid e) (within_leaf mid x.ratio e) v d → r ≡ after v far_part
      far_on d q r is-r = is-r ∙ met_says (λ i. go i mid e) (within_leaf mid x.ratio e) v (omega arith) d ∙ sym (ap (after v) (far_met d q))

  -- ---- the whole, taken up again at the crossing, where the node's plane is p

  module _ (n : ℕ) (all : Answer (TraceT × ℕ)) (p : Answer Hyperplane) (says : after n (crossed_at T k nd s e a b p) ≡ all) where
    pub no_plane : (z : ℕ) → p ≡ Ans.refused z → Ans.refused z ≡ all
    no_plane z q = sym (ap (λ (y : Answer Hyperplane). after n (crossed_at T k nd s e a b y)) q) ∙ says

    module _ (q : p ≡ answer h) (near : Answer (TraceT × ℕ)) (near_is : near ≡ after n near_part) where
      whole : after n (with_near T go nd h s e x near_part) ≡ all
      whole = sym (ap (λ (y : Answer Hyperplane). after n (crossed_at T k nd s e a b y)) q) ∙ says

      pub near_declined : (z : ℕ) → near ≡ Ans.refused z → Ans.refused z ≡ all
      near_declined z is-z =
          sym (ap (λ (o : Outcome TraceT). after n (with_near T go nd h s e x o)) (after_refused n near_part z (sym near_is ∙ is-z))) ∙ whole

      module _ (y : TraceT) (v : ℕ) (is_y : near ≡ answer (y, v)) (mid : Vector3) (is-mid : mid ≡ x.point) (st : Bool) (is-st : st ≡ stops_at y mid) where
        near_done : (ns : List ℕ) × (near_part ≡ done y ns) × (held (n + length ns) ≡ v)
        near_done = after_done n near_part y v (sym near_is ∙ is_y)

        stops_is : stops y x ≡ st
        stops_is = sym (is-st ∙ ap (stops_at y) is-mid)

        passed : after n (after_near T go nd h s e x y near_done.0 st) ≡ all
        passed =
            ap (λ (z : Bool). after n (after_near T go nd h s e x y near_done.0 z)) (sym stops_is)
            ∙ sym (ap (λ (o : Outcome TraceT). after n (with_near T go nd h s e x o)) near_done.1) ∙ whole

        pub near_stops : st ≡ true → answer (y, v) ≡ all
        near_stops z =
            ap (λ (i : ℕ). answer (y, i)) (sym near_done.2)
            ∙ sym (ap (λ (c : Bool). after n (after_near T go nd h s e x y near_done.0 c)) z) ∙ passed

        pub both : st ≡ false → (far : Answer (TraceT × ℕ)) → far ≡ after v far_part → (res : Answer (TraceT × ℕ)) → res ≡ join_far y far → res ≡ all
        both z far far_is res is-res =
            is-res ∙ ap (join_far y) far_is ∙ joins y n v near_done.0 near_done.2 far_part
            ∙ sym (ap (λ (c : Bool). after n (after_near T go nd h s e x y near_done.0 c)) z) ∙ passed
