-- `textures::group::has_lone` meets its contract: a part at a time
-- Assumes nothing.
use Rattle.std.specs.Prelude.{◌≡◌, ◌≤◌, ◌-◌, false}
use Rattle.textures.specs.Count.{any}
use Rattle.texture_list.specs.Kind.{passing, starts, ends}
use Rattle.textures.specs.Table.{is_lone}
use Rattle.texture_list.specs.declared.kind.Kind.TheVariants.{Primary, Alternate}
use Rattle.textures.proofs.group.has_lone.Given as goal

abbrev pub invariant-loop-from : goal.invariant-loop-from
invariant-loop-from l = (any (is_lone (passing l.s l.base Alternate) (passing l.s l.base Primary) (starts l.s l.base) (ends l.s l.base) l.count) l.from ≡ false) × (l.from ≤ l.count)

abbrev pub decreases-loop-from : goal.decreases-loop-from
decreases-loop-from l = l.count - l.from
