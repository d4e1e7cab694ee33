-- `recursive_trace` meets its contract: what the way down says is taken up at the crossing with the answers of the two parts.
-- Assumes nothing.
use Prim.Native.Nat.{ℕ}
use native.Mathlib.Omega.{arith}
use mathlib.Core.Path.{◌≡◌, refl, sym, ap, ◌∙◌}
use lib.Ieee.{Float}
use Rattle.std.specs.Prelude.{Result}
use Rattle.std.proofs.Common.{Ok}
use Rattle.format.specs.declared.refusal.Refusal.{Refusal}
use Rattle.math.specs.Plane as Pl
use Rattle.math.specs.Vector.{zero32}
use Rattle.phys.specs.Trace as Tr
use Rattle.walk.specs.Private.{after}
use Rattle.walk.specs.Tracing.{recursive_trace}
use Rattle.nodes.specs.Fast as Fast
use Rattle.hull.specs.Traces.{at_start, way_answer}
use Rattle.hull.specs.declared.tracing.MetChild.{MetChild}
use Rattle.hull.specs.declared.tracing.MetChild.TheVariants as M
use Rattle.hull.specs.declared.tracing.Went.{Went}
use Rattle.hull.proofs.Meets.{meets}
use Rattle.hull.proofs.Ways.{Here, came, near_in, far_in, near_by, near_refused, left_is, far_by, near_ends, far_refused, both_ways}
use Rattle.hull.proofs.tracing.+recursive_trace.Goals.{After-meet_on, Joined-branch-5, in-Node+in_ok-near-in-Node, in-Contents, in-Node-2+in_ok-far-in-Node-2, in-Contents-2}
use Rattle.hull.proofs.tracing.+recursive_trace.Goals as goal
use Rattle.format.proofs.Answers.{handed_on}

-- ---- the near part, by the child that is met

here : (t : ℕ) (c : After-meet_on t) → let x = c.in-Crossing in let z = c.args in
    Here z.s.now z.t x.w z.p z.q c.add-mid.result x.a x.b x.below x.v c.in_ok-plane-in-Crossing.plane (after z.n (recursive_trace (Fast.table z.s.now z.t) z.left z.i z.p z.q))
here t c = came c.args.s.now c.args.t c.descend.ensures.says (c.in_ok-c.was ∙ ap Ok c.in-Crossing.is) (omega arith) (sym c.in_ok-plane-in-Crossing.ensures) (c.add-mid.ensures ∙ simp (c.scale.ensures, c.sub.ensures))

pub returns-in_err-j-in-Crossing : goal.returns-in_err-j-in-Crossing
returns-in_err-j-in-Crossing t c =
    let k = here t (goal.at.returns-in_err-j-in-Crossing t c).After-meet_on in
    let fr = c.is_front-front.result in
    rw (handed_on c.from_residual-in_err-j-in-Crossing.ensures.1)
    (near_refused k fr (c.is_front-front.ensures ∙ c.point_side.ensures) _ (meets c.args.s.now c.args.t c.in-Crossing.w fr c.meet_on.result _ c.meet_on.ensures c.in_err-j-in-Crossing.was) _ refl)

pub returns-in_err-near-in-Node : goal.returns-in_err-near-in-Node
returns-in_err-near-in-Node t c =
    let k = here t (goal.at.returns-in_err-near-in-Node t c).After-meet_on in
    let fr = c.is_front-front.result in
    rw (handed_on c.from_residual-in_err-near-in-Node.ensures.1)
    (near_refused k fr (c.is_front-front.ensures ∙ c.point_side.ensures) _ (meets c.args.s.now c.args.t c.in-Crossing.w fr c.meet_on.result _ c.meet_on.ensures (c.in_ok-j-in-Crossing.was ∙ ap Ok c.in-Node.is)) _ c.in_err-near-in-Node.ensures)

-- ---- the near part's answer

there : (t : ℕ) (c : Joined-branch-5 t) → let x = c.in-Crossing in let z = c.args in
    Here z.s.now z.t x.w z.p z.q c.add-mid.result x.a x.b x.below x.v c.in_ok-plane-in-Crossing.plane (after z.n (recursive_trace (Fast.table z.s.now z.t) z.left z.i z.p z.q))
there t c = came c.args.s.now c.args.t c.descend.ensures.says (c.in_ok-c.was ∙ ap Ok c.in-Crossing.is) (omega arith) (sym c.in_ok-plane-in-Crossing.ensures) (c.add-mid.ensures ∙ simp (c.scale.ensures, c.sub.ensures))

near_is : (t : ℕ) (c : Joined-branch-5 t) → way_answer c.args.s.now c.args.t (at_start c.args.p) (Ok c.match-branch-5.near) ≡ after c.in-Crossing.v (near_in (there t c))
near_is t c =
    let k = there t c in
    let fr = c.is_front-front.result in
    let side = c.is_front-front.ensures ∙ c.point_side.ensures in
    let way = λ (g : Went). way_answer c.args.s.now c.args.t (at_start c.args.p) (Ok g) in
    let m = λ (y : Result MetChild Refusal). meets c.args.s.now c.args.t c.in-Crossing.w fr c.meet_on.result y c.meet_on.ensures in
    elim c.match-branch-5.branch [
      | in-Node+in_ok-near-in-Node z ↦ ap way z.near-is ∙ near_by k fr side _ (m (Ok (M.Node z.in-Node.j)) (c.in_ok-j-in-Crossing.was ∙ ap Ok z.in-Node.is)) _ z.in_ok-near-in-Node.ensures
      | in-Contents z ↦ ap way (z.near-is ∙ z.met_on-near.ensures)
          ∙ near_by k fr side _ (m (Ok (M.Contents z.in-Contents.c)) (c.in_ok-j-in-Crossing.was ∙ ap Ok z.in-Contents.is)) _ (left_is k fr side z.in-Contents.c)
    ]

pub returns-then-ends_with : goal.returns-then-ends_with
returns-then-ends_with t c =
    let at = (goal.at.returns-then-ends_with t c).Joined-branch-5 in
    near_ends (there t at) c.match-branch-5.near (near_is t at) _ c.ends_with.ensures c.if-ends_with.true

-- ---- the far part, by the child that is met; its start is dropped where it is joined

pub returns-in_err-j-in-Crossing-2 : goal.returns-in_err-j-in-Crossing-2
returns-in_err-j-in-Crossing-2 t c =
    let at = (goal.at.returns-in_err-j-in-Crossing-2 t c).Joined-branch-5 in
    let fr = c.is_front.result in
    rw (handed_on c.from_residual-in_err-j-in-Crossing-2.ensures.1)
    (far_refused (there t at) c.match-branch-5.near (near_is t at) _ c.ends_with.ensures c.if-ends_with.false fr (c.is_front.ensures ∙ c.point_side-in-Crossing.ensures)
    _ (meets c.args.s.now c.args.t c.in-Crossing.w fr c.meet_on-in-Crossing.result _ c.meet_on-in-Crossing.ensures c.in_err-j-in-Crossing-2.was) _ refl)

pub returns-in_err-far-in-Node-2 : goal.returns-in_err-far-in-Node-2
returns-in_err-far-in-Node-2 t c =
    let at = (goal.at.returns-in_err-far-in-Node-2 t c).Joined-branch-5 in
    let fr = c.is_front.result in
    rw (handed_on c.from_residual-in_err-far-in-Node-2.ensures.1)
    (far_refused (there t at) c.match-branch-5.near (near_is t at) _ c.ends_with.ensures c.if-ends_with.false fr (c.is_front.ensures ∙ c.point_side-in-Crossing.ensures)
    _ (meets c.args.s.now c.args.t c.in-Crossing.w fr c.meet_on-in-Crossing.result _ c.meet_on-in-Crossing.ensures (c.in_ok-j-in-Crossing-2.was ∙ ap Ok c.in-Node-2.is)) _ c.in_err-far-in-Node-2.ensures)

pub returns-after-branch-8 : goal.returns-after-branch-8
returns-after-branch-8 t c =
    let at = (goal.at.returns-after-branch-8 t c).Joined-branch-5 in
    let k = there t at in
    let x = c.in-Crossing in
    let g = c.match-branch-5.near in
    let fr = c.is_front.result in
    let way = λ (r : Float) (u : Went). way_answer c.args.s.now c.args.t (Tr.start c.add-mid.result r) (Ok u) in
    let m = λ (y : Result MetChild Refusal). meets c.args.s.now c.args.t x.w fr c.meet_on-in-Crossing.result y c.meet_on-in-Crossing.ensures in
    let side = c.is_front.ensures ∙ c.point_side-in-Crossing.ensures in
    let far : (r : Float) × (way r c.match-branch-8.far ≡ after g.visits (far_in k)) = elim c.match-branch-8.branch [
      | in-Node-2+in_ok-far-in-Node-2 z ↦ (
        zero32,
        ap (way zero32) z.far-is ∙ far_by k g (near_is t at) fr side _ (m (Ok (M.Node z.in-Node-2.j)) (c.in_ok-j-in-Crossing-2.was ∙ ap Ok z.in-Node-2.is)) _ z.in_ok-far-in-Node-2.ensures,
      )
      | in-Contents-2 z ↦ (
        Pl.ratio_of x.a x.b,
        ap (way (Pl.ratio_of x.a x.b)) (z.far-is ∙ z.ended-far.ensures) ∙ far_by k g (near_is t at) fr side _ (m (Ok (M.Contents z.in-Contents-2.c)) (c.in_ok-j-in-Crossing-2.was ∙ ap Ok z.in-Contents-2.is)) _ refl,
      )
    ] in
    ap (way_answer c.args.s.now c.args.t (at_start c.args.p)) (ap Ok c.join_parts.ensures) ∙ both_ways k g (near_is t at) _ c.ends_with.ensures c.if-ends_with.false c.match-branch-8.far far
