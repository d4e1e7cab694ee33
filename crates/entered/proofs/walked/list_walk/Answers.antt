-- `list_walk` meets its contract.
-- Assumes nothing.
use Rattle.entered.proofs.Trails.{lacks_room, root_outside, written}
use Rattle.entered.proofs.walked.list_walk.Goals as goal

pub returns-then-nodes-root : goal.returns-then-nodes-root
returns-then-nodes-root c = root_outside _ _ _ _ _ _ c.if-nodes-root.true

pub returns-then-list-visits : goal.returns-then-list-visits
returns-then-list-visits c = lacks_room _ _ _ _ _ _ c.if-nodes-root.false c.if-list-visits.true

pub returns : goal.returns
returns c = written _ _ _ _ _ _ c.if-nodes-root.false c.if-list-visits.false _ c.write_walk.ensures
