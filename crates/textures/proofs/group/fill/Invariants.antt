-- `textures::group::fill` meets its contract: the table of the stems so far.
-- Assumes nothing.
use Rattle.std.specs.Prelude.{◌<◌}
use Rattle.texture_list.specs.Kind.{passing, starts, ends}
use Rattle.textures.specs.Table.{Filled}
use Rattle.textures.proofs.group.fill.Given as goal

abbrev pub invariant-loop-i : goal.invariant-loop-i
invariant-loop-i l = record {
  filled : Filled (passing l.s l.base l.kind) (starts l.s l.base) (ends l.s l.base) l.from l.i l.t l.nodes;
  begun : (1 < l.nodes) → l.from < l.i;
}
