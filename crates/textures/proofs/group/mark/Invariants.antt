-- `textures::group::mark` meets its contract: the nodes with the stems of the textures so far are marked
-- Assumes nothing.
use Rattle.std.specs.Prelude.{length}
use Rattle.texture_list.specs.Kind.{passing, starts, ends}
use Rattle.textures.specs.Table.{Marked}
use Rattle.textures.proofs.group.mark.Given as goal

abbrev pub invariant-loop-i : goal.invariant-loop-i
invariant-loop-i l = Marked (passing l.s l.base l.kind) (starts l.s l.base) (ends l.s l.base) l.t (length l.fn.marks) l.marks l.i
