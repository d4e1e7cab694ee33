-- `textures::number::find_first` meets its contract: a part at a time.
-- Assumes nothing.
use Rattle.std.specs.Prelude.{◌≡◌, ◌≤◌, ◌-◌}
use Rattle.textures.specs.Count.{count}
use Rattle.texture_list.specs.Kind.{passing, starts, ends}
use Rattle.textures.specs.Table.{is_earliest}
use Rattle.texture_list.specs.declared.kind.Kind.TheVariants.{Animated}
use Rattle.textures.proofs.number.find_first.Given as goal

abbrev pub invariant-loop-from : goal.invariant-loop-from
invariant-loop-from l = record {
  counted : l.seen ≡ count (is_earliest (passing l.s l.base Animated) (starts l.s l.base) (ends l.s l.base)) l.from;
  few : l.seen ≤ l.k;
  inside : l.from ≤ l.upto;
}

abbrev pub decreases-loop-from : goal.decreases-loop-from
decreases-loop-from l = l.upto - l.from
