-- `go_by` meets its contract. The loop's invariant: for every file and table whose own bytes these are, the trace from the present node,
-- with the calls left and the visits so far, says what the trace from the first one says.
-- Assumes nothing.
use native.Mathlib.Omega.{arith}
use mathlib.Core.Path.{refl, sym, ap, ◌∙◌}
use mathlib.Core.Bool.{true, false}
use Rattle.walk.specs.Private.{after}
use Rattle.walk.specs.Walk.{held}
use Rattle.walk.proofs.Steps.{trace_outside, trace_spent}
use lib.Ieee.{le}
use Rattle.math.specs.Vector.{zero32}
use Rattle.nodes.specs.Owned.{end_among}
use Rattle.nodes.proofs.Owning.{own_count, own_end}
use Rattle.hull.proofs.Descents.{one_more, sides, unread, crosses, to_node, to_end}
use Rattle.hull.proofs.Meets.{plane_same, not_seen, seen, meets_node, meets_end}
use borrow.Author.Rules.{rules}
use Rattle.hull.proofs.whole.Whole.go_by.Goals.{then-front+else-not-b, else-front+else-b}
use Rattle.hull.proofs.whole.Whole.go_by.Goals as goal
use Rattle.format.proofs.Answers.{handed_on}

pub returns-then-count-node : goal.returns-then-count-node
returns-then-count-node c = record { says = λ f t own. sym (ap (after _) (trace_outside _ _ _ _ _ (omega (arith, own_count f t _ _ _ _ own, c.node_count-count.ensures, c.if-count-node.true)))) ∙ c.loop-node.invariant.1 f t own; falls = search rules }

pub returns-then-left-eq0 : goal.returns-then-left-eq0
returns-then-left-eq0 c = record { says = λ f t own. sym (ap (after _) (trace_spent _ _ _ _ _ c.if-left-eq0.true (omega (arith, own_count f t _ _ _ _ own, c.node_count-count.ensures, c.if-count-node.false)))) ∙ c.loop-node.invariant.1 f t own; falls = search rules }

pub returns-in_err-w : goal.returns-in_err-w
returns-in_err-w c = rw (handed_on c.from_residual.ensures.1) (record { says = λ f t own. unread _ _ _ _ _ _ c.if-left-eq0.false (omega (arith, own_count f t _ _ _ _ own, c.node_count-count.ensures, c.if-count-node.false)) _ (not_seen f t _ _ _ _ (c.ends_in.ensures.1 f t true own.read refl own.its_table) _ c.in_err-w.was) ∙ c.loop-node.invariant.1 f t own; falls = search rules })

pub returns-then-not-b : goal.returns-then-not-b
returns-then-not-b c = record { says = λ f t own. crosses _ _ _ _ _ _ c.if-left-eq0.false (omega (arith, own_count f t _ _ _ _ own, c.node_count-count.ensures, c.if-count-node.false)) _ _ _ (seen f t _ _ _ _ (c.ends_in.ensures.1 f t true own.read refl own.its_table) _ _ _ c.in_ok-w.was) _ (c.entered.ensures ∙ ap held (omega (arith, c.if-left-eq0.false, c.loop-node.invariant.0))) (sides _ _ true false c.if-front.true c.if-not-b.true) _ (plane_same f t _) ∙ c.loop-node.invariant.1 f t own; falls = omega (arith, c.if-left-eq0.false, c.loop-node.invariant.0) }

pub returns-then-b : goal.returns-then-b
returns-then-b c = record { says = λ f t own. crosses _ _ _ _ _ _ c.if-left-eq0.false (omega (arith, own_count f t _ _ _ _ own, c.node_count-count.ensures, c.if-count-node.false)) _ _ _ (seen f t _ _ _ _ (c.ends_in.ensures.1 f t true own.read refl own.its_table) _ _ _ c.in_ok-w.was) _ (c.entered-then-b.ensures ∙ ap held (omega (arith, c.if-left-eq0.false, c.loop-node.invariant.0))) (sides _ _ false true c.if-front.false c.if-b.true) _ (plane_same f t _) ∙ c.loop-node.invariant.1 f t own; falls = omega (arith, c.if-left-eq0.false, c.loop-node.invariant.0) }

pub returns-then-word-ge32768 : goal.returns-then-word-ge32768
returns-then-word-ge32768 c = record { says = λ f t own. c.leaf_of.ensures.0 f t _ _ ∙ to_end _ _ _ _ _ _ c.if-left-eq0.false (omega (arith, own_count f t _ _ _ _ own, c.node_count-count.ensures, c.if-count-node.false)) _ _ _ (seen f t _ _ _ _ (c.ends_in.ensures.1 f t true own.read refl own.its_table) _ _ _ c.in_ok-w.was) _ (c.entered-then-word-ge32768.ensures ∙ ap held (omega (arith, c.if-left-eq0.false, c.loop-node.invariant.0))) (elim c.if-front.branch [ then-front+else-not-b w ↦ sides _ _ true true w.if-front.true w.if-not-b.false | else-front+else-b w ↦ sides _ _ false false w.if-front.false w.if-b.false ]) (end_among c.args.self.now.sections.render c.args.self.now.leaves.now c.on-word.result) (meets_end f t c.in_ok-w.w (le zero32 c.in_ok-w.a) _ c.on-word.ensures c.if-word-ge32768.true _ (own_end f t _ _ _ _ own _)) ∙ c.loop-node.invariant.1 f t own; falls = omega (arith, c.leaf_of.ensures.1) }

pub loop-node-preserved : goal.loop-node-preserved
loop-node-preserved c = (omega (arith, c.loop-node.invariant.0), λ f t own. one_more c.args.visits c.args.left0 c.loop-node.left c.if-left-eq0.false c.loop-node.invariant.0 _ ∙ sym (to_node _ _ _ _ _ _ c.if-left-eq0.false (omega (arith, own_count f t _ _ _ _ own, c.node_count-count.ensures, c.if-count-node.false)) _ _ _ (seen f t _ _ _ _ (c.ends_in.ensures.1 f t true own.read refl own.its_table) _ _ _ c.in_ok-w.was) _ refl (elim c.if-front.branch [ then-front+else-not-b w ↦ sides _ _ true true w.if-front.true w.if-not-b.false | else-front+else-b w ↦ sides _ _ false false w.if-front.false w.if-b.false ]) _ (meets_node f t c.in_ok-w.w (le zero32 c.in_ok-w.a) _ c.on-word.ensures c.if-word-ge32768.false)) ∙ c.loop-node.invariant.1 f t own)
