-- `groups_from` meets its contract: the groups of the positions passed, and those from `at` on, are all. Assumes nothing.
use Rattle.accept.proofs.Groups.{at_end, at_cut}
use Rattle.accept.proofs.row.groups_from.Goals as goal

pub returns-then-visibility-at : goal.returns-then-visibility-at
returns-then-visibility-at c = at_cut _ _ _ _ c.loop-at.invariant.1 c.loop-at-test.true c.if-byte-ne0.false c.if-visibility-at.true

pub returns : goal.returns
returns c = at_end _ _ _ _ c.loop-at.invariant.1 c.loop-at-test.false
