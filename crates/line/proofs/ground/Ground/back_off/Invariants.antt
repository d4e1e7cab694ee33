-- `line::ground::Ground::back_off` meets its contract. Assumes nothing.
use Prim.Native.Nat.{◌-◌}
use mathlib.Core.Path.{◌≡◌}
use Rattle.nodes.specs.Fast as Fast
use Rattle.line.specs.Line.{back_off}
use Rattle.line.proofs.ground.Ground.back_off.Given as goal

abbrev pub invariant-loop : goal.invariant-loop
invariant-loop l = back_off (Fast.table l.self.s.now l.self.t) (10 - l.counter) l.self.root l.part l.k l.line ≡ back_off (Fast.table l.self.s.now l.self.t) 10 l.self.root l.part l.k0 l.line
