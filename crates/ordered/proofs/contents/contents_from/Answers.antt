-- `contents_from` meets its contract. The loop's invariant: the answer is that of the walk from the present place, which may enter as
-- many nodes as are left, with the visits made so far added. Assumes nothing.
use Prim.Native.Nat.{ℕ, suc, ◌+◌, ◌-◌, ◌/◌, ◌<◌}
use native.Mathlib.Omega.{arith}
use mathlib.Core.Path.{◌≡◌, sym, ap, ◌∙◌}
use lib.ListN.{length}
use Rattle.walk.specs.Private.{after}
use Rattle.walk.proofs.Steps.{walk_outside, walk_spent}
use Rattle.ordered.proofs.Laws.{step_refused, step_node, step_end}
use Rattle.ordered.proofs.contents.contents_from.Goals.{At-loop-place}
use Rattle.ordered.proofs.contents.contents_from.Goals as goal
use Rattle.format.proofs.Answers.{handed_on}

-- the rows of the table, and those that may be entered after this one
abbrev n : At-loop-place → ℕ
n c = length c.args.t.words.now / 3

abbrev j : At-loop-place → ℕ
j c = n c - (c.loop-place.visits + 1)

falls : (c : At-loop-place) → c.loop-place.visits < n c → n c - c.loop-place.visits ≡ suc (j c)
falls c h = omega arith

pub returns-then-limit-place : goal.returns-then-limit-place
returns-then-limit-place c = let l = c.loop-place.invariant in sym (l.2 ∙ ap (after _) (walk_outside _ _ _ _ (omega (arith, l.0, c.if-limit-place.true))))

pub returns-then-limit-visits : goal.returns-then-limit-visits
returns-then-limit-visits c = let l = c.loop-place.invariant in sym (l.2 ∙ ap (after _) (walk_spent _ _ _ _ (omega (arith, l.0, c.if-limit-visits.true)) (omega (arith, l.0, c.if-limit-place.false))))

pub returns-in_err-word : goal.returns-in_err-word
returns-in_err-word c = let l = c.loop-place.invariant in let here = (goal.at.returns-in_err-word c).At-loop-place in
    rw (handed_on c.from_residual.ensures.1) (sym (l.2 ∙ step_refused _ _ c.args.t.words.now _ _ _ (j here) c.loop-place.place (falls here (omega (arith, l.0, c.if-limit-visits.false))) (omega (arith, l.0, c.if-limit-place.false)) c.row_onward.result c.row_onward.ensures _ c.in_err-word.was))

pub returns-then-word-ge2147483648 : goal.returns-then-word-ge2147483648
returns-then-word-ge2147483648 c = let l = c.loop-place.invariant in sym (l.2 ∙ step_end _ _ c.args.t.words.now _ _ _ (j (goal.at.returns-then-word-ge2147483648 c).At-loop-place) c.loop-place.place (falls (goal.at.returns-then-word-ge2147483648 c).At-loop-place (omega (arith, l.0, c.if-limit-visits.false))) (omega (arith, l.0, c.if-limit-place.false)) c.row_onward.result c.row_onward.ensures _ c.in_ok-word.was (n (goal.at.returns-then-word-ge2147483648 c).At-loop-place) c.if-word-ge2147483648.true (omega (arith, l.0, c.if-limit-visits.false)) (omega (arith, l.0)) _ c.contents_of_word.ensures)

pub loop-place-preserved : goal.loop-place-preserved
loop-place-preserved c = let l = c.loop-place.invariant in (l.0, omega (arith, c.if-limit-visits.false), l.2 ∙ step_node _ _ c.args.t.words.now _ _ _ (j (goal.at.loop-place-preserved c).At-loop-place) c.loop-place.place (falls (goal.at.loop-place-preserved c).At-loop-place (omega (arith, l.0, c.if-limit-visits.false))) (omega (arith, l.0, c.if-limit-place.false)) c.row_onward.result c.row_onward.ensures _ c.in_ok-word.was c.if-word-ge2147483648.false)
