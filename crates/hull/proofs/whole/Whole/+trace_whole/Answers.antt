-- `trace_whole` meets its contract: what the way down says is taken up at the crossing with the answers of the two parts, for every file and
-- table whose own bytes these are.
-- Assumes nothing.
use Prim.Native.Nat.{ℕ}
use native.Mathlib.Omega.{arith}
use mathlib.Core.Path.{◌≡◌, sym, ap, ◌∙◌}
use mathlib.Core.List.{List}
use lib.Ieee.{Float}
use Rattle.std.proofs.Common.{Ok}
use Rattle.math.specs.Plane as Pl
use Rattle.math.specs.Plane.{axis_x}
use Rattle.math.specs.Vector.{zero32}
use Rattle.phys.specs.Trace as Tr
use Rattle.walk.specs.Private.{after}
use Rattle.walk.specs.Tracing.{recursive_trace}
use Rattle.nodes.specs.Fast as Fast
use Rattle.nodes.specs.Fast.{node_of, plane_in, point_of}
use Rattle.nodes.specs.Owned.{end_among, Owned}
use Rattle.nodes.specs.declared.table.Tables.{Tables}
use Rattle.nodes.proofs.Owning.{own_end}
use Rattle.hull.specs.Traces.{at_start, way_answer, resumed}
use Rattle.hull.specs.declared.tracing.Went.{Went}
use Rattle.hull.proofs.Crossings.{no_plane}
use Rattle.hull.proofs.Meets.{meets_node, meets_end, no_sides, two_sides_lem}
use Rattle.hull.proofs.Ways.{Crosses, came, near_in, far_in, near_ended, far_ended, near_by, near_refused, far_by, near_ends, far_refused, both_ways}
use Rattle.hull.proofs.whole.Whole.+trace_whole.Goals.{After-on-i, Joined-i-lt32768, then-i-lt32768+in_ok-near-in-Crossing, else-i-lt32768+in_ok-near-in-Crossing-2, then-j-lt32768+in_ok-far-in-Crossing, else-j-lt32768+in_ok-far-in-Crossing-2}
use Rattle.hull.proofs.whole.Whole.+trace_whole.Goals as goal
use Rattle.format.proofs.Answers.{handed_on}

pub returns-in_err-here-in-Crossing : goal.returns-in_err-here-in-Crossing
returns-in_err-here-in-Crossing t c f u own =
    let x = c.in-Crossing in
    let s = point_of c.args.p.now in
    let e = point_of c.args.q.now in
    let says = c.go_down.ensures.says f u own in
    let sides = rw (c.point_of-from.ensures, c.point_of-to.ensures) at c.sides_in.ensures in
    rw (handed_on c.from_residual-in_err-here-in-Crossing.ensures.1)
    (no_plane (Fast.table f u) (node_of u.table x.w) s e x.a x.b x.below (axis_x x.a) x.n _ (plane_in f u x.w.plane)
    (sym (ap (resumed f u s e) (c.in_ok-c.was ∙ ap Ok c.in-Crossing.is)) ∙ says) _ (no_sides f u _ _ _ _ own _ s e c.sides_in.result sides _ c.in_err-here-in-Crossing.was))

-- ---- the near part, by its word

here : (t : ℕ) (c : After-on-i t) (f : List ℕ) (u : Tables) → (let y = c.args.self.now in Owned f u y.sections.render y.sections.nodes.now y.sections.planes.now y.leaves.now) → let x = c.in-Crossing in let z = c.args in
    Crosses f u x.w (point_of z.p.now) (point_of z.q.now) c.add-mid.result x.a x.b x.below x.n c.in_ok-here-in-Crossing.here c.in_ok-here-in-Crossing.there (after z.visits (recursive_trace (Fast.table f u) z.left z.node (point_of z.p.now) (point_of z.q.now)))
here t c f u own =
    let z = c.args in
    let g = two_sides_lem f u _ _ _ _ own _ (point_of z.p.now) (point_of z.q.now) c.sides_in.result (rw (c.point_of-from.ensures, c.point_of-to.ensures) at c.sides_in.ensures) _ _ c.in_ok-here-in-Crossing.was in
    record {
      h = g.0;
      here = came f u (c.go_down.ensures.says f u own) (c.in_ok-c.was ∙ ap Ok c.in-Crossing.is) (omega arith) g.1
          (c.add-mid.ensures ∙ simp (c.scale.ensures, c.sub.ensures, c.point_of-from.ensures, c.point_of-to.ensures));
      near_side = g.2;
      far_side = g.3;
    }

pub returns-in_err-near-in-Crossing : goal.returns-in_err-near-in-Crossing
returns-in_err-near-in-Crossing t c f u own =
    let k = here t (goal.at.returns-in_err-near-in-Crossing t c).After-on-i f u own in
    let fr = c.in_ok-here-in-Crossing.here in
    rw (handed_on c.from_residual-in_err-near-in-Crossing.ensures.1)
    (near_refused k.here fr k.near_side _ (meets_node f u c.in-Crossing.w fr _ c.on-i.ensures c.if-i-lt32768.true) _ (c.in_err-near-in-Crossing.ensures f u own))

pub returns-in_err-near-in-Crossing-2 : goal.returns-in_err-near-in-Crossing-2
returns-in_err-near-in-Crossing-2 t c f u own =
    let k = here t (goal.at.returns-in_err-near-in-Crossing-2 t c).After-on-i f u own in
    let fr = c.in_ok-here-in-Crossing.here in
    let last = end_among c.args.self.now.sections.render c.args.self.now.leaves.now c.on-i.result in
    rw (handed_on c.from_residual-in_err-near-in-Crossing-2.ensures.1)
    (near_refused k.here fr k.near_side _ (meets_end f u c.in-Crossing.w fr _ c.on-i.ensures c.if-i-lt32768.false last (own_end f u _ _ _ _ own _)) _
    (c.in_err-near-in-Crossing-2.ensures f u (point_of c.args.p.now) k.h k.here.plane k.near_side ∙ near_ended k.here last))

-- ---- the near part's answer

there : (t : ℕ) (c : Joined-i-lt32768 t) (f : List ℕ) (u : Tables) → (let y = c.args.self.now in Owned f u y.sections.render y.sections.nodes.now y.sections.planes.now y.leaves.now) → let x = c.in-Crossing in let z = c.args in
    Crosses f u x.w (point_of z.p.now) (point_of z.q.now) c.add-mid.result x.a x.b x.below x.n c.in_ok-here-in-Crossing.here c.in_ok-here-in-Crossing.there (after z.visits (recursive_trace (Fast.table f u) z.left z.node (point_of z.p.now) (point_of z.q.now)))
there t c f u own =
    let z = c.args in
    let g = two_sides_lem f u _ _ _ _ own _ (point_of z.p.now) (point_of z.q.now) c.sides_in.result (rw (c.point_of-from.ensures, c.point_of-to.ensures) at c.sides_in.ensures) _ _ c.in_ok-here-in-Crossing.was in
    record {
      h = g.0;
      here = came f u (c.go_down.ensures.says f u own) (c.in_ok-c.was ∙ ap Ok c.in-Crossing.is) (omega arith) g.1
          (c.add-mid.ensures ∙ simp (c.scale.ensures, c.sub.ensures, c.point_of-from.ensures, c.point_of-to.ensures));
      near_side = g.2;
      far_side = g.3;
    }

near_is : (t : ℕ) (c : Joined-i-lt32768 t) (f : List ℕ) (u : Tables) (own : let y = c.args.self.now in Owned f u y.sections.render y.sections.nodes.now y.sections.planes.now y.leaves.now) →
    way_answer f u (at_start (point_of c.args.p.now)) (Ok c.if-i-lt32768.near) ≡ after c.in-Crossing.n (near_in (there t c f u own).here)
near_is t c f u own =
    let k = there t c f u own in
    let fr = c.in_ok-here-in-Crossing.here in
    let last = end_among c.args.self.now.sections.render c.args.self.now.leaves.now c.on-i.result in
    let way = λ (g : Went). way_answer f u (at_start (point_of c.args.p.now)) (Ok g) in
    elim c.if-i-lt32768.branch [
      | then-i-lt32768+in_ok-near-in-Crossing z ↦ ap way z.near-is ∙ near_by k.here fr k.near_side _ (meets_node f u c.in-Crossing.w fr _ c.on-i.ensures z.if-i-lt32768.true) _ (z.in_ok-near-in-Crossing.ensures f u own)
      | else-i-lt32768+in_ok-near-in-Crossing-2 z ↦ ap way z.near-is
          ∙ near_by k.here fr k.near_side _ (meets_end f u c.in-Crossing.w fr _ c.on-i.ensures z.if-i-lt32768.false last (own_end f u _ _ _ _ own _)) _
          (z.in_ok-near-in-Crossing-2.ensures f u (point_of c.args.p.now) k.h k.here.plane k.near_side ∙ near_ended k.here last)
    ]

pub returns-then-ends_with : goal.returns-then-ends_with
returns-then-ends_with t c f u own =
    let at = (goal.at.returns-then-ends_with t c).Joined-i-lt32768 in
    near_ends (there t at f u own).here c.if-i-lt32768.near (near_is t at f u own) _ c.ends_with.ensures c.if-ends_with.true

-- ---- the far part, by its word; its start is dropped where it is joined

pub returns-in_err-far-in-Crossing : goal.returns-in_err-far-in-Crossing
returns-in_err-far-in-Crossing t c f u own =
    let at = (goal.at.returns-in_err-far-in-Crossing t c).Joined-i-lt32768 in
    let k = there t at f u own in
    let fr = c.in_ok-here-in-Crossing.there in
    rw (handed_on c.from_residual-in_err-far-in-Crossing.ensures.1)
    (far_refused k.here c.if-i-lt32768.near (near_is t at f u own) _ c.ends_with.ensures c.if-ends_with.false fr k.far_side
    _ (meets_node f u c.in-Crossing.w fr _ c.on-j.ensures c.if-j-lt32768.true) _ (c.in_err-far-in-Crossing.ensures f u own))

pub returns-in_err-far-in-Crossing-2 : goal.returns-in_err-far-in-Crossing-2
returns-in_err-far-in-Crossing-2 t c f u own =
    let at = (goal.at.returns-in_err-far-in-Crossing-2 t c).Joined-i-lt32768 in
    let k = there t at f u own in
    let fr = c.in_ok-here-in-Crossing.there in
    let last = end_among c.args.self.now.sections.render c.args.self.now.leaves.now c.on-j.result in
    rw (handed_on c.from_residual-in_err-far-in-Crossing-2.ensures.1)
    (far_refused k.here c.if-i-lt32768.near (near_is t at f u own) _ c.ends_with.ensures c.if-ends_with.false fr k.far_side
    _ (meets_end f u c.in-Crossing.w fr _ c.on-j.ensures c.if-j-lt32768.false last (own_end f u _ _ _ _ own _)) _
    (c.in_err-far-in-Crossing-2.ensures f u c.add-mid.result (Pl.ratio_of c.in-Crossing.a c.in-Crossing.b) ∙ far_ended k.here c.if-i-lt32768.near.visits last))

pub returns-after-j-lt32768 : goal.returns-after-j-lt32768
returns-after-j-lt32768 t c f u own =
    let at = (goal.at.returns-after-j-lt32768 t c).Joined-i-lt32768 in
    let k = there t at f u own in
    let x = c.in-Crossing in
    let g = c.if-i-lt32768.near in
    let near = near_is t at f u own in
    let fr = c.in_ok-here-in-Crossing.there in
    let o = Pl.ratio_of x.a x.b in
    let last = end_among c.args.self.now.sections.render c.args.self.now.leaves.now c.on-j.result in
    let way = λ (r : Float) (v : Went). way_answer f u (Tr.start c.add-mid.result r) (Ok v) in
    let far : (r : Float) × (way r c.if-j-lt32768.far ≡ after g.visits (far_in k.here)) = elim c.if-j-lt32768.branch [
      | then-j-lt32768+in_ok-far-in-Crossing z ↦ (
        zero32,
        ap (way zero32) z.far-is ∙ far_by k.here g near fr k.far_side _ (meets_node f u x.w fr _ c.on-j.ensures z.if-j-lt32768.true) _ (z.in_ok-far-in-Crossing.ensures f u own),
      )
      | else-j-lt32768+in_ok-far-in-Crossing-2 z ↦ (
        o,
        ap (way o) z.far-is ∙ far_by k.here g near fr k.far_side _ (meets_end f u x.w fr _ c.on-j.ensures z.if-j-lt32768.false last (own_end f u _ _ _ _ own _)) _
            (z.in_ok-far-in-Crossing-2.ensures f u c.add-mid.result o ∙ far_ended k.here g.visits last),
      )
    ] in
    ap (λ (v : Went). way_answer f u (at_start (point_of c.args.p.now)) (Ok v)) c.join_parts.ensures ∙ both_ways k.here g near _ c.ends_with.ensures c.if-ends_with.false c.if-j-lt32768.far far
