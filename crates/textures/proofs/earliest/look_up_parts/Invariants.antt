-- `textures::earliest::look_up_parts` meets its contract: a part at a time.
-- Assumes nothing.
use Rattle.std.specs.Prelude.{◌≤◌, ◌-◌, length}
use Rattle.texture_list.specs.Kind.{passing, starts, ends}
use Rattle.textures.specs.Table.{Known}
use Rattle.texture_list.specs.declared.kind.Kind.TheVariants.{Animated}
use Rattle.textures.proofs.earliest.look_up_parts.Given as goal

abbrev pub invariant-loop-from : goal.invariant-loop-from
invariant-loop-from l = record {
  known : Known (passing l.s l.base Animated) (starts l.s l.base) (ends l.s l.base) (length l.fn.list) l.from l.list;
  inside : l.from ≤ length l.fn.list;
}

abbrev pub decreases-loop-from : goal.decreases-loop-from
decreases-loop-from l = length l.fn.list - l.from
