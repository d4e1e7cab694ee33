-- `descend` meets its contract. The loop's invariant: the trace from the present place, with the calls left and the visits so far, says
-- what the trace from the first one says. Assumes nothing.
use native.Mathlib.Omega.{arith}
use mathlib.Core.Path.{sym, ap, ◌∙◌}
use lib.Ieee.{le}
use Rattle.format.specs.Answer.{answer}
use Rattle.math.specs.Vector.{zero32}
use Rattle.walk.specs.Private.{after}
use Rattle.walk.proofs.Steps.{trace_outside, trace_spent}
use Rattle.ordered.specs.Rows.{rows_in}
use Rattle.hull.proofs.Descents.{unread, crosses, to_node, to_end}
use Rattle.ordered.proofs.Descents.{plane_same, not_seen, seen, meets_node, meets_end}
use borrow.Author.Rules.{rules}
use Rattle.ordered.proofs.tracing.descend.Goals as goal
use Rattle.format.proofs.Answers.{handed_on}

pub returns-then-limit-place : goal.returns-then-limit-place
returns-then-limit-place c = record { says = sym (ap (after _) (trace_outside _ _ _ _ _ (omega (arith, c.loop-place.invariant.0, c.if-limit-place.true)))) ∙ c.loop-place.invariant.2; falls = search rules }

pub returns-then-left-eq0 : goal.returns-then-left-eq0
returns-then-left-eq0 c = record { says = sym (ap (after _) (trace_spent _ _ _ _ _ c.if-left-eq0.true (omega (arith, c.loop-place.invariant.0, c.if-limit-place.false)))) ∙ c.loop-place.invariant.2; falls = search rules }

pub returns-in_err-w : goal.returns-in_err-w
returns-in_err-w c = rw (handed_on c.from_residual.ensures.1) (record { says = unread (rows_in c.args.t) _ _ _ _ c.loop-place.place c.if-left-eq0.false (omega (arith, c.loop-place.invariant.0, c.if-limit-place.false)) _ (not_seen c.args.t.planes.now c.args.t.count c.args.t.words.now _ _ _ c.row_dists.result c.row_dists.ensures _ c.in_err-w.was) ∙ c.loop-place.invariant.2; falls = search rules })

pub returns-then-front-b : goal.returns-then-front-b
returns-then-front-b c = record { says = crosses (rows_in c.args.t) _ _ _ _ c.loop-place.place c.if-left-eq0.false (omega (arith, c.loop-place.invariant.0, c.if-limit-place.false)) _ _ _ (seen c.args.t.planes.now c.args.t.count c.args.t.words.now _ _ _ c.row_dists.result c.row_dists.ensures c.in_ok-w.w _ _ c.in_ok-w.was) _ c.saturating_add-visits.ensures c.if-front-b.true _ (plane_same c.args.t.planes.now c.args.t.count c.args.t.words.now _) ∙ c.loop-place.invariant.2; falls = omega (arith, c.if-left-eq0.false, c.loop-place.invariant.1) }

pub returns-then-word-ge2147483648 : goal.returns-then-word-ge2147483648
returns-then-word-ge2147483648 c = record { says = to_end (rows_in c.args.t) _ _ _ _ c.loop-place.place c.if-left-eq0.false (omega (arith, c.loop-place.invariant.0, c.if-limit-place.false)) _ _ _ (seen c.args.t.planes.now c.args.t.count c.args.t.words.now _ _ _ c.row_dists.result c.row_dists.ensures c.in_ok-w.w _ _ c.in_ok-w.was) _ c.saturating_add-visits.ensures c.if-front-b.false (answer c.contents_of_word.result) (meets_end c.args.t.planes.now c.args.t.count c.args.t.words.now c.in_ok-w.w (le zero32 c.in_ok-w.a) _ c.on-word.ensures c.if-word-ge2147483648.true _ c.contents_of_word.ensures) ∙ c.loop-place.invariant.2; falls = search rules }

pub loop-place-preserved : goal.loop-place-preserved
loop-place-preserved c = (c.loop-place.invariant.0, omega (arith, c.loop-place.invariant.1), sym (to_node (rows_in c.args.t) _ _ _ _ c.loop-place.place c.if-left-eq0.false (omega (arith, c.loop-place.invariant.0, c.if-limit-place.false)) _ _ _ (seen c.args.t.planes.now c.args.t.count c.args.t.words.now _ _ _ c.row_dists.result c.row_dists.ensures c.in_ok-w.w _ _ c.in_ok-w.was) _ c.saturating_add-visits.ensures c.if-front-b.false _ (meets_node c.args.t.planes.now c.args.t.count c.args.t.words.now c.in_ok-w.w (le zero32 c.in_ok-w.a) _ c.on-word.ensures c.if-word-ge2147483648.false)) ∙ c.loop-place.invariant.2)
