-- `go_down` meets its contract. The loop's invariant: the trace from the present node, with the calls left, the visits so far and the list as
-- it is, says what the trace from the first one says.
-- Assumes nothing.
use Prim.Native.Nat.{◌^◌, ◌<◌}
use native.Mathlib.Omega.{arith}
use mathlib.Core.Path.{◌∙◌}
use lib.ListN.{length}
use borrow.Author.Rules.{rules}
use Rattle.entered.proofs.Downs.{outside, spent, unread, crosses, to_node, to_end}
use Rattle.entered.proofs.traced.go_down.Goals.{After-segment_any}
use Rattle.entered.proofs.traced.go_down.Goals as goal
use Rattle.format.proofs.Answers.{handed_on}

-- a slice takes fewer than 2^63 bytes
short : (c : After-segment_any) → length c.loop-i.list < 2 ^ 63
short c = omega (arith, c.loop-i.invariant.1.0)

pub returns-then-t-i : goal.returns-then-t-i
returns-then-t-i c = record { says = outside _ _ _ _ _ _ _ _ c.if-t-i.true ∙ c.loop-i.invariant.1.1; falls = search rules }

pub returns-then-left-eq0 : goal.returns-then-left-eq0
returns-then-left-eq0 c = record { says = spent _ _ _ _ _ _ _ _ c.if-t-i.false c.if-left-eq0.true ∙ c.loop-i.invariant.1.1; falls = search rules }

pub returns-in_err-w : goal.returns-in_err-w
returns-in_err-w c = rw (handed_on c.from_residual.ensures.1) (record { says = unread _ _ _ _ _ _ _ _ c.if-t-i.false c.if-left-eq0.false c.segment_any.result c.segment_any.ensures _ c.in_err-w.was ∙ c.loop-i.invariant.1.1; falls = search rules })

pub returns-then-front-b : goal.returns-then-front-b
returns-then-front-b c = record { says = crosses _ _ _ _ _ _ _ _ c.if-t-i.false c.if-left-eq0.false c.segment_any.result c.segment_any.ensures _ _ _ c.in_ok-w.was (short (goal.at.returns-then-front-b c).After-segment_any) _ c.write_at.ensures _ c.saturating_add-visits.ensures c.if-front-b.true ∙ c.loop-i.invariant.1.1; falls = omega (arith, c.if-left-eq0.false, c.loop-i.invariant.0) }

pub loop-i-preserved : goal.loop-i-preserved
loop-i-preserved c = (omega (arith, c.loop-i.invariant.0), (c.write_at.auto.list ∙ c.loop-i.invariant.1.0, to_node _ _ _ _ _ _ _ _ c.if-t-i.false c.if-left-eq0.false c.segment_any.result c.segment_any.ensures _ _ _ c.in_ok-w.was (short (goal.at.loop-i-preserved c).After-segment_any) _ c.write_at.ensures _ c.saturating_add-visits.ensures c.if-front-b.false _ c.onto.ensures _ c.in-Node.is ∙ c.loop-i.invariant.1.1))

pub returns-in-End : goal.returns-in-End
returns-in-End c = record { says = to_end _ _ _ _ _ _ _ _ c.if-t-i.false c.if-left-eq0.false c.segment_any.result c.segment_any.ensures _ _ _ c.in_ok-w.was (short (goal.at.returns-in-End c).After-segment_any) _ c.write_at.ensures _ c.saturating_add-visits.ensures c.if-front-b.false _ c.onto.ensures _ c.in-End.is ∙ c.loop-i.invariant.1.1; falls = search rules }
