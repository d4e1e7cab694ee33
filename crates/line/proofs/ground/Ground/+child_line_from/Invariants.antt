-- Twice the calls left is the measure of `line_from`, and one more that of `child`. The loop's invariant: what becomes of the present part at
-- the present node, with what is set so far, is what becomes of all of it. Assumes nothing.
use Prim.Native.Nat.{◌+◌, ◌≤◌}
use mathlib.Core.Path.{◌≡◌}
use Rattle.nodes.specs.Fast as Fast
use Rattle.line.specs.Line.{line_from}
use Rattle.line.proofs.ground.Ground.+child_line_from.Given as goal

abbrev pub decreases-child : goal.decreases-child
decreases-child l = l.at.left + l.at.left + 1

abbrev pub decreases-line_from : goal.decreases-line_from
decreases-line_from l = l.calls + l.calls

abbrev pub invariant-line_from-loop-c : goal.invariant-line_from-loop-c
invariant-line_from-loop-c l =
    (l.left ≤ l.calls)
    × (line_from (Fast.table l.self.s.now l.self.t) l.self.root l.left l.node l.part l.line ≡ line_from (Fast.table l.self.s.now l.self.t) l.self.root l.calls l.top l.initial.part l.initial.line)

abbrev pub decreases-line_from-loop-c : goal.decreases-line_from-loop-c
decreases-line_from-loop-c l = l.left
