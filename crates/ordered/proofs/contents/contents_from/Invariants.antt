-- `contents_from` meets its contract. The loop's invariant: the answer is that of the walk from the present place, which may enter as
-- many nodes as are left, with the visits made so far added. Assumes nothing.
use Prim.Native.Nat.{◌-◌, ◌/◌, ◌≤◌}
use mathlib.Core.Path.{◌≡◌}
use lib.ListN.{length}
use Rattle.walk.specs.Walk.{with_visits, walk, point_walk}
use Rattle.walk.specs.Private.{after}
use Rattle.ordered.specs.Rows.{rows_in}
use Rattle.ordered.proofs.contents.contents_from.Given as goal

abbrev pub invariant-loop-place : goal.invariant-loop-place
invariant-loop-place l =
    (l.limit ≡ length l.t.words.now / 3) × (l.visits ≤ l.limit)
    × (with_visits (point_walk (rows_in l.t) l.root l.point) ≡ after l.visits (walk (rows_in l.t) (length l.t.words.now / 3 - l.visits) l.place l.point))

abbrev pub decreases-loop-place : goal.decreases-loop-place
decreases-loop-place l = l.limit - l.visits
