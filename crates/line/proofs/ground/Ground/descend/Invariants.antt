-- `line::ground::Ground::descend` meets its contract. The loop's invariant: whatever is set before it, what becomes of the part at the present node,
-- with the calls left, is what becomes of it at the first one. Assumes nothing.
use Prim.Native.Nat.{ℕ, ◌≤◌}
use mathlib.Core.Path.{◌≡◌}
use Rattle.nodes.specs.Fast as Fast
use lib.Ieee.{Float}
use Rattle.line.specs.Line.{stretch, line_from}
use Rattle.line.specs.declared.state.LineTrace.{LineTrace}
use Rattle.line.proofs.ground.Ground.descend.Given as goal

abbrev pub invariant-loop-w : goal.invariant-loop-w
invariant-loop-w l =
    (l.left ≤ l.calls)
    × ((root : ℕ) (o : LineTrace) (x y : Float) → line_from (Fast.table l.self.s.now l.self.t) root l.left l.node (stretch x y l.start l.end) o ≡ line_from (Fast.table l.self.s.now l.self.t) root l.calls l.top (stretch x y l.start l.end) o)

abbrev pub decreases-loop-w : goal.decreases-loop-w
decreases-loop-w l = l.left
