-- `line::ground::Ground::code_from_root` meets its contract. Assumes nothing.
use mathlib.Core.Path.{◌≡◌}
use Rattle.nodes.specs.Fast as Fast
use Rattle.line.specs.Line.{contents_from}
use Rattle.line.specs.Private.{word_look}
use Rattle.line.proofs.ground.Ground.code_from_root.Given as goal

abbrev pub invariant-loop-next : goal.invariant-loop-next
invariant-loop-next l = word_look l.self.s.now l.self.t l.left l.word (Fast.point_of l.point) ≡ contents_from (Fast.table l.self.s.now l.self.t) 512 l.self.root (Fast.point_of l.point)

abbrev pub decreases-loop-next : goal.decreases-loop-next
decreases-loop-next l = l.left
