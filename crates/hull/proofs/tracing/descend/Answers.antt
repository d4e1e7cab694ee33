-- `descend` meets its contract. The loop's invariant: the trace from the present node, with the calls left and the visits so far, says what
-- the trace from the first one says.
-- Assumes nothing.
use native.Mathlib.Omega.{arith}
use mathlib.Core.Path.{sym, ap, ◌∙◌}
use Rattle.format.specs.Answer.{answer, refused}
use Rattle.format.specs.Refusal.{number_of}
use Rattle.walk.specs.Private.{after}
use Rattle.walk.proofs.Steps.{trace_outside, trace_spent}
use lib.Ieee.{le}
use Rattle.math.specs.Vector.{zero32}
use Rattle.hull.proofs.Descents.{unread, crosses, to_node, to_end}
use Rattle.hull.proofs.Meets.{plane_same, not_seen, seen, meets_node, meets_end}
use borrow.Author.Rules.{rules}
use Rattle.hull.proofs.tracing.descend.Goals as goal
use Rattle.format.proofs.Answers.{handed_on}

pub returns-then-t-node : goal.returns-then-t-node
returns-then-t-node c = record { says = sym (ap (after _) (trace_outside _ _ _ _ _ c.if-t-node.true)) ∙ c.loop-node.invariant.1; falls = search rules }

pub returns-then-left-eq0 : goal.returns-then-left-eq0
returns-then-left-eq0 c = record { says = sym (ap (after _) (trace_spent _ _ _ _ _ c.if-left-eq0.true c.if-t-node.false)) ∙ c.loop-node.invariant.1; falls = search rules }

pub returns-in_err-w : goal.returns-in_err-w
returns-in_err-w c = rw (handed_on c.from_residual.ensures.1) (record { says = unread _ _ _ _ _ _ c.if-left-eq0.false c.if-t-node.false _ (not_seen _ _ _ _ _ _ c.segment_any.ensures _ c.in_err-w.was) ∙ c.loop-node.invariant.1; falls = search rules })

pub returns-then-front-b : goal.returns-then-front-b
returns-then-front-b c = record { says = crosses _ _ _ _ _ _ c.if-left-eq0.false c.if-t-node.false _ _ _ (seen _ _ _ _ _ _ c.segment_any.ensures _ _ _ c.in_ok-w.was) _ c.saturating_add-visits.ensures c.if-front-b.true _ (plane_same _ _ _) ∙ c.loop-node.invariant.1; falls = omega (arith, c.if-left-eq0.false, c.loop-node.invariant.0) }

pub returns-in_err-contents : goal.returns-in_err-contents
returns-in_err-contents c = rw (handed_on c.from_residual-in_err-contents.ensures.1) (record { says = to_end _ _ _ _ _ _ c.if-left-eq0.false c.if-t-node.false _ _ _ (seen _ _ _ _ _ _ c.segment_any.ensures _ _ _ c.in_ok-w.was) _ c.saturating_add-visits.ensures c.if-front-b.false (refused (number_of c.in_err-contents.field-0.0)) (meets_end c.args.s.now c.args.t c.in_ok-w.w (le zero32 c.in_ok-w.a) _ c.on-word.ensures c.if-word-ge32768.true _ c.in_err-contents.ensures) ∙ c.loop-node.invariant.1; falls = search rules })

pub returns-then-word-ge32768 : goal.returns-then-word-ge32768
returns-then-word-ge32768 c = record { says = to_end _ _ _ _ _ _ c.if-left-eq0.false c.if-t-node.false _ _ _ (seen _ _ _ _ _ _ c.segment_any.ensures _ _ _ c.in_ok-w.was) _ c.saturating_add-visits.ensures c.if-front-b.false (answer c.in_ok-contents.contents) (meets_end c.args.s.now c.args.t c.in_ok-w.w (le zero32 c.in_ok-w.a) _ c.on-word.ensures c.if-word-ge32768.true _ c.in_ok-contents.ensures) ∙ c.loop-node.invariant.1; falls = search rules }

pub loop-node-preserved : goal.loop-node-preserved
loop-node-preserved c = (omega (arith, c.loop-node.invariant.0), sym (to_node _ _ _ _ _ _ c.if-left-eq0.false c.if-t-node.false _ _ _ (seen _ _ _ _ _ _ c.segment_any.ensures _ _ _ c.in_ok-w.was) _ c.saturating_add-visits.ensures c.if-front-b.false _ (meets_node c.args.s.now c.args.t c.in_ok-w.w (le zero32 c.in_ok-w.a) _ c.on-word.ensures c.if-word-ge32768.false)) ∙ c.loop-node.invariant.1)
