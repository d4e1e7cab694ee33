-- `settle` meets its contract. The loop's invariant: filling in what is left gives what filling in all gives.
-- Assumes nothing.
use mathlib.Core.Path.{◌≡◌}
use lib.ListN.{drop}
use Rattle.ways.specs.Groups.{fill}
use Rattle.points.proofs.divide.settle.Given as goal

abbrev pub invariant-loop-id : goal.invariant-loop-id
invariant-loop-id l = fill (λ q. l.byte) (drop l.id-index l.ids) l.out ≡ fill (λ q. l.byte) l.ids l.initial.out
