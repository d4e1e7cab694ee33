-- `textures::table::seek` meets its contract: what is left to search is all that there is to search.
-- Assumes nothing.
use Rattle.std.specs.Prelude.{◌≡◌, ◌≤◌, ◌<◌, ◌+◌, ◌*◌, length}
use Rattle.textures.specs.Table as Tab
use Rattle.textures.proofs.table.seek.Given as goal

abbrev pub invariant-loop-left : goal.invariant-loop-left
invariant-loop-left l = record {
  inside : 4 * l.u + 4 ≤ length l.t;
  two : l.d < 2;
  same : Tab.seek l.t l.stem.start l.stem.end l.left l.u l.d ≡ Tab.seek l.t l.stem.start l.stem.end 145 0 0;
}
