-- `textures::number::scan` meets its contract: as many as there are so far, and not the one sought.
-- Assumes nothing.
use Rattle.std.specs.Prelude.{◌≡◌, ◌≤◌, length}
use Rattle.textures.specs.Count.{count}
use Rattle.texture_list.specs.Kind.{passing, starts, ends}
use Rattle.textures.specs.Table.{Marked, is_earliest}
use Rattle.texture_list.specs.declared.kind.Kind.TheVariants.{Animated}
use Rattle.textures.proofs.number.scan.Given as goal

abbrev pub invariant-loop-i : goal.invariant-loop-i
invariant-loop-i l = record {
  marked : Marked (passing l.s l.base Animated) (starts l.s l.base) (ends l.s l.base) l.t (length l.initial.marks) l.marks l.i;
  counted : l.seen ≡ count (is_earliest (passing l.s l.base Animated) (starts l.s l.base) (ends l.s l.base)) l.i;
  few : l.seen ≤ l.k;
}
