-- `texture_list::section::read_list` meets its contract: what is left to read is all that there is to read.
-- Assumes nothing.
use Rattle.std.specs.Prelude.{◌≡◌, ◌+◌, ◌-◌, ◌*◌}
use Rattle.texture_list.specs.List.{listed}
use Rattle.texture_list.proofs.section.read_list.Given as goal

abbrev pub invariant-loop-i : goal.invariant-loop-i
invariant-loop-i l = listed l.s l.base (l.count - l.i) (l.base + 4 + 4 * l.i) l.end ≡ listed l.s l.base l.count (l.base + 4) l.fn.end
