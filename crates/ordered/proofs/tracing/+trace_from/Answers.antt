-- `trace_from` meets its contract: what the way down says is taken up at the crossing with the answers of the two parts. Assumes nothing.
use Prim.Native.Nat.{ℕ}
use native.Mathlib.Omega.{arith}
use mathlib.Core.Path.{◌≡◌, refl, sym, ap, ◌∙◌}
use Rattle.std.proofs.Common.{Ok}
use Rattle.format.specs.Answer.{answer}
use Rattle.format.specs.Answers.{answer_of}
use Rattle.math.specs.Plane as Pl
use Rattle.phys.specs.declared.Trace.{Trace}
use Rattle.walk.specs.Private.{after}
use Rattle.walk.specs.Tracing.{recursive_trace}
use Rattle.nodes.specs.Numbered.{plane_numbered}
use Rattle.hull.specs.Traces.{met_node, met_contents, crossed_at}
use Rattle.hull.proofs.Crossings.{visits_small, near_part, near_on, far_on, near_stops, both}
use Rattle.ordered.specs.Rows.{row_of, rows, resumed}
use Rattle.ordered.proofs.Descents.{meets_place, meets_contents}
use Rattle.ordered.proofs.tracing.+trace_from.Goals.{Joined-child_on, in-Node+in_ok-trace_from-in-Node, in-Contents, in-Node-child_on, in-Contents-child_on}
use Rattle.ordered.proofs.tracing.+trace_from.Goals as goal

-- ---- once the near part is told

says : (t : ℕ) (c : Joined-child_on t) →
    let x = c.in-Crossing in
    let a = c.args in
    let T = rows a.planes.now a.count a.table.now in
    after x.n (crossed_at T x.below (row_of x.w) a.start a.end x.a x.b (plane_numbered a.planes.now a.count x.w.plane)) ≡ after a.visits (recursive_trace T a.left a.place a.start a.end)
says t c = sym (ap (resumed (record { planes = c.args.planes; count = c.args.count; words = c.args.table }) _ _) (c.in_ok-c.was ∙ ap Ok c.in-Crossing.is)) ∙ c.descend.ensures.says

plane_here : (t : ℕ) (c : Joined-child_on t) → plane_numbered c.args.planes.now c.args.count c.in-Crossing.w.plane ≡ answer c.in_ok-plane-in-Crossing.plane
plane_here t c = sym c.plane_by_number.ensures ∙ ap answer_of c.in_ok-plane-in-Crossing.was

mid_is : (t : ℕ) (c : Joined-child_on t) →
    let x = c.in-Crossing in
    c.add-mid.result ≡ (Pl.crossing c.in_ok-plane-in-Crossing.plane c.args.start c.args.end x.a x.b (Pl.from_dist x.a)).point
mid_is t c = c.add-mid.ensures ∙ simp (c.scale.ensures, c.sub.ensures)

near_is : (t : ℕ) (c : Joined-child_on t) →
    let x = c.in-Crossing in
    let a = c.args in
    answer c.match-child_on.seen ≡ after x.n (near_part (rows a.planes.now a.count a.table.now) (row_of x.w) a.start a.end x.a x.b x.below c.in_ok-plane-in-Crossing.plane)
near_is t c =
    let x = c.in-Crossing in
    let a = c.args in
    let fr = c.is_front.result in
    let near = near_on (rows a.planes.now a.count a.table.now) (row_of x.w) a.start a.end x.a x.b x.below c.in_ok-plane-in-Crossing.plane _ (mid_is t c) x.n (omega arith) fr (c.is_front.ensures ∙ c.point_side.ensures) in
    elim c.match-child_on.branch [
      | in-Node+in_ok-trace_from-in-Node z ↦ ap answer z.seen-is
          ∙ near (met_node z.in-Node.i) (meets_place a.planes.now a.count a.table.now x.w fr c.child_on.result c.child_on.ensures _ z.in-Node.is) _ z.in_ok-trace_from-in-Node.ensures
      | in-Contents z ↦ ap answer z.seen-is
          ∙ near (met_contents z.in-Contents.c) (meets_contents a.planes.now a.count a.table.now x.w fr c.child_on.result c.child_on.ensures _ z.in-Contents.is) _ (ap (λ (y : Trace). answer (y, x.n)) z.out_of_leaf.ensures)
    ]

pub returns-then-stops : goal.returns-then-stops
returns-then-stops t c =
    let at = (goal.at.returns-then-stops t c).Joined-child_on in
    let x = c.in-Crossing in
    let a = c.args in
    near_stops (rows a.planes.now a.count a.table.now) (row_of x.w) a.start a.end x.a x.b x.below c.in_ok-plane-in-Crossing.plane x.n _ _ (says t at) (plane_here t at)
    _ (near_is t at) c.match-child_on.seen.0 c.match-child_on.seen.1 refl _ (mid_is t at) _ c.stops.ensures c.if-stops.true

pub returns-after-child_on-2 : goal.returns-after-child_on-2
returns-after-child_on-2 t c =
    let at = (goal.at.returns-after-child_on-2 t c).Joined-child_on in
    let x = c.in-Crossing in
    let a = c.args in
    let T = rows a.planes.now a.count a.table.now in
    let h = c.in_ok-plane-in-Crossing.plane in
    let v = c.match-child_on.seen.1 in
    let fr = c.is_front-in-Crossing.result in
    let far = far_on T (row_of x.w) a.start a.end x.a x.b x.below h _ (mid_is t at) v (visits_small x.n (near_part T (row_of x.w) a.start a.end x.a x.b x.below h) c.match-child_on.seen.0 v (sym (near_is t at))) fr (c.is_front-in-Crossing.ensures ∙ c.point_side-in-Crossing.ensures) in
    both T (row_of x.w) a.start a.end x.a x.b x.below h x.n _ _ (says t at) (plane_here t at)
    _ (near_is t at) c.match-child_on.seen.0 v refl _ (mid_is t at) _ c.stops.ensures c.if-stops.false (answer_of c.match-child_on-2.far)
    (elim c.match-child_on-2.branch [
      | in-Node-child_on z ↦ ap answer_of z.far-is
          ∙ far (met_node z.in-Node-child_on.i) (meets_place a.planes.now a.count a.table.now x.w fr c.child_on-in-Crossing.result c.child_on-in-Crossing.ensures _ z.in-Node-child_on.is) _ z.trace_from-far.ensures
      | in-Contents-child_on z ↦ ap answer_of z.far-is
          ∙ far (met_contents z.in-Contents-child_on.c) (meets_contents a.planes.now a.count a.table.now x.w fr c.child_on-in-Crossing.result c.child_on-in-Crossing.ensures _ z.in-Contents-child_on.is) _
          (ap (λ (y : Trace). answer (y, v)) z.within_leaf-in-Contents-child_on.ensures)
    ])
    (answer_of c.join_far.result) c.join_far.ensures
