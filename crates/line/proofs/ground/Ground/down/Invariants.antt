-- `line::ground::Ground::down` meets its contract. The loop's invariant: whatever is set before it, what becomes of the part at the present child, with
-- the calls left, is what becomes of it at the first one; and so is what a look from the part's start finds. Assumes nothing.
use Prim.Native.Nat.{ℕ, ◌≤◌}
use mathlib.Core.Path.{◌≡◌}
use lib.Ieee.{Float}
use Rattle.nodes.specs.Fast.{point_of}
use Rattle.line.specs.Line.{stretch}
use Rattle.line.specs.Private.{word_went, word_look}
use Rattle.line.specs.declared.state.LineTrace.{LineTrace}
use Rattle.line.proofs.ground.Ground.down.Given as goal

abbrev pub invariant-loop-w : goal.invariant-loop-w
invariant-loop-w l =
    (l.left ≤ l.calls)
    × ((root : ℕ) (o : LineTrace) (x y : Float) → word_went l.self.s.now l.self.t root l.left l.word (stretch x y (point_of l.p) (point_of l.q)) o ≡ word_went l.self.s.now l.self.t root l.calls l.top (stretch x y (point_of l.p) (point_of l.q)) o)
    × (word_look l.self.s.now l.self.t l.left l.word (point_of l.p) ≡ word_look l.self.s.now l.self.t l.calls l.top (point_of l.p))

abbrev pub decreases-loop-w : goal.decreases-loop-w
decreases-loop-w l = l.left
