-- `settle_all` meets its contract. The loop's invariant: filling in what is left gives what filling in all gives.
-- Assumes nothing.
use Rattle.std.proofs.Common.{◌≡◌}
use Rattle.ways.specs.Groups.{fill}
use Rattle.points.specs.Going.{members}
use Rattle.points.proofs.few.settle_all.Given as goal

abbrev pub invariant-loop-rest : goal.invariant-loop-rest
invariant-loop-rest l = fill (λ q. l.byte) (members l.rest) l.out ≡ fill (λ q. l.byte) (members l.ids) l.initial.out

abbrev pub decreases-loop-rest : goal.decreases-loop-rest
decreases-loop-rest l = l.rest
