-- `write_onward` meets its contract.
-- Assumes nothing.
use Prim.Native.Nat.{◌*◌, ◌^◌}
use native.Mathlib.Omega.{arith}
use mathlib.Core.Path.{ap, ◌∙◌}
use lib.ListN.{length}
use Rattle.std.proofs.Common.{Ok}
use Rattle.entered.proofs.Parts.{at_end, shorter, no_plane, near_refused, near_stops, both}
use Prim.Native.Nat.{ℕ, ◌<◌}
use Rattle.entered.proofs.traced.+write_onward.Goals.{In-Node}
use Rattle.entered.proofs.traced.+write_onward.Goals as goal
use Rattle.format.proofs.Answers.{handed_on}

-- a slice takes fewer than 2^63 bytes
bytes : (t : ℕ) (c : In-Node t) → length c.args.list.now * 4 < 2 ^ 63
bytes t c = omega arith

pub returns-in-End : goal.returns-in-End
returns-in-End t c = at_end _ _ _ _ _ _ _ _ c.in-End.is c.in_leaf.result c.in_leaf.ensures

pub returns-in_err-parts-in-Crossing : goal.returns-in_err-parts-in-Crossing
returns-in_err-parts-in-Crossing t c = rw (handed_on c.from_residual-in_err-parts-in-Crossing.ensures.1) (no_plane _ _ _ _ _ _ _ _ c.in-Node.is _ c.go_down.result c.go_down.ensures _ _ _ _ _ (c.in_ok-word-in-Node.was ∙ ap Ok c.in-Crossing.is) c.parts_of.result c.parts_of.ensures _ c.in_err-parts-in-Crossing.was)

pub returns-in_err-near-in-Crossing : goal.returns-in_err-near-in-Crossing
returns-in_err-near-in-Crossing t c = rw (handed_on c.from_residual-in_err-near-in-Crossing.ensures.1) (near_refused _ _ _ _ _ _ _ _ c.in-Node.is _ c.go_down.result c.go_down.ensures _ _ _ _ _ (c.in_ok-word-in-Node.was ∙ ap Ok c.in-Crossing.is) c.parts_of.result c.parts_of.ensures _ c.in_ok-parts-in-Crossing.was _ c.write_onward.result c.write_onward.ensures _ c.in_err-near-in-Crossing.was)

pub returns-then-stops : goal.returns-then-stops
returns-then-stops t c = near_stops _ _ _ _ _ _ _ _ c.in-Node.is _ c.go_down.result c.go_down.ensures _ _ _ _ _ (c.in_ok-word-in-Node.was ∙ ap Ok c.in-Crossing.is) c.parts_of.result c.parts_of.ensures _ c.in_ok-parts-in-Crossing.was _ c.write_onward.result c.write_onward.ensures _ _ c.in_ok-near-in-Crossing.was _ c.stops.ensures c.if-stops.true

pub returns-else-stops : goal.returns-else-stops
returns-else-stops t c = both _ _ _ _ _ _ _ _ c.in-Node.is _ c.go_down.result c.go_down.ensures _ _ _ _ _ (c.in_ok-word-in-Node.was ∙ ap Ok c.in-Crossing.is) c.parts_of.result c.parts_of.ensures _ c.in_ok-parts-in-Crossing.was _ c.write_onward.result c.write_onward.ensures _ _ c.in_ok-near-in-Crossing.was _ c.stops.ensures c.if-stops.false _ c.write_onward-rest.result c.write_onward-rest.ensures c.join_far.result c.join_far.ensures (shorter c.go_down.auto.list (bytes t (goal.at.returns-else-stops t c).In-Node))
