-- `put_last` meets its contract. The loop's invariant: the leaves of the bits passed stand at the front, and with those of the bits that are
-- left they are the byte's leaves; what lies past the next entry is kept. Assumes nothing.
use Rattle.std.specs.Prelude.{◌≡◌, ◌+◌, ◌-◌, ◌++◌, take, drop}
use Rattle.vis.specs.Row.{bits, visible}
use Rattle.vis.proofs.SetBits.{Putting}
use Rattle.vis.proofs.row.put_last.Given as goal

abbrev pub invariant-loop-shift : goal.invariant-loop-shift
invariant-loop-shift l =
    (drop (l.at + 1) l.list ≡ drop (l.at + 1) l.initial.list)
    × Putting (take l.count l.initial.list ++ visible l.first (bits 8 l.byte)) (8 - l.shift) (l.first + l.shift) l.rest l.at l.list
