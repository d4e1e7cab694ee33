-- `check_each` meets its contract: the checks left, from i on, say what all of them say. Assumes nothing.
use mathlib.Core.Path.{◌≡◌}
use Prim.Native.Nat.{ℕ, ◌-◌}
use Rattle.accept.specs.Accept.{Check, each}
use Rattle.accept.specs.Fast.{ChecksAs}
use Rattle.accept.proofs.check.check_each.Given as goal

abbrev pub invariant-loop-i : goal.invariant-loop-i
invariant-loop-i g l = (one : ℕ → Check) → ChecksAs (goal.F-post g l.check) one → each one (l.end - l.i) l.i ≡ each one (l.end - l.first) l.first
