-- `walk_by_records` meets its contract. The loop's invariant: the answer is that of the walk from the present node, which may enter as many
-- nodes as are left, with the visits made so far added.
-- Assumes nothing.
use Rattle.std.proofs.Common.{◌≡◌, ℕ, suc, ◌+◌, ◌-◌, ◌<◌, sym, ap, ◌∙◌, arith}
use Rattle.walk.specs.Private.{after}
use Rattle.walk.proofs.Steps.{walk_outside, walk_spent}
use Rattle.nodes.proofs.Stepping.{step_refused, step_node, step_end}
use Rattle.nodes.proofs.walking.walk_by_records.Goals.{At-loop-node}
use Rattle.nodes.proofs.walking.walk_by_records.Goals as goal
use Rattle.format.proofs.Answers.{handed_on}

-- the nodes of the table, and those that may be entered after this one
abbrev n : At-loop-node → ℕ
n c = c.args.t.nodes.count

abbrev j : At-loop-node → ℕ
j c = n c - (c.loop-node.visits + 1)

falls : (c : At-loop-node) → c.loop-node.visits < n c → n c - c.loop-node.visits ≡ suc (j c)
falls c h = omega arith

pub returns-then-part-node : goal.returns-then-part-node
returns-then-part-node c = sym (c.loop-node.invariant.1 ∙ ap (after _) (walk_outside _ _ _ _ c.if-part-node.true))

pub returns-then-limit-visits : goal.returns-then-limit-visits
returns-then-limit-visits c = sym (c.loop-node.invariant.1 ∙ ap (after _) (walk_spent _ _ _ _ (omega arith) c.if-part-node.false))

pub returns-in_err-word : goal.returns-in_err-word
returns-in_err-word c = rw (handed_on c.from_residual.ensures.1) (let a = c.args in sym (c.loop-node.invariant.1 ∙ step_refused a.s.now a.t _ _ _ (j (goal.at.returns-in_err-word c).At-loop-node) _ (falls (goal.at.returns-in_err-word c).At-loop-node c.if-limit-visits.false) c.if-part-node.false c.onward_from.result c.onward_from.ensures _ c.in_err-word.was))

pub returns-then-word-ge32768 : goal.returns-then-word-ge32768
returns-then-word-ge32768 c = let a = c.args in sym (c.loop-node.invariant.1 ∙ step_end a.s.now a.t _ _ _ (j (goal.at.returns-then-word-ge32768 c).At-loop-node) _ (falls (goal.at.returns-then-word-ge32768 c).At-loop-node c.if-limit-visits.false) c.if-part-node.false c.onward_from.result c.onward_from.ensures _ c.in_ok-word.was (n (goal.at.returns-then-word-ge32768 c).At-loop-node) c.if-word-ge32768.true c.if-limit-visits.false (omega arith))

pub loop-node-preserved : goal.loop-node-preserved
loop-node-preserved c = let a = c.args in (omega arith, c.loop-node.invariant.1 ∙ step_node a.s.now a.t _ _ _ (j (goal.at.loop-node-preserved c).At-loop-node) _ (falls (goal.at.loop-node-preserved c).At-loop-node c.if-limit-visits.false) c.if-part-node.false c.onward_from.result c.onward_from.ensures _ c.in_ok-word.was c.if-word-ge32768.false)
