-- `divide` meets its contract: the list as it is where all go one way, else in its new order.
-- Assumes nothing.
use Rattle.ways.specs.Groups.{in_front}
use Rattle.points.specs.Going.{point_at}
use Rattle.points.proofs.Lists.{all_behind, all_in_front}
use Rattle.points.proofs.divide.divide.Goals as goal

pub returns-then-front-eq0 : goal.returns-then-front-eq0
returns-then-front-eq0 c = let a = c.args in all_behind (in_front (point_at a.coords.now) a.plane) a.ids.now _ c.count-front.ensures c.if-front-eq0.true

pub returns-then-front-ids : goal.returns-then-front-ids
returns-then-front-ids c = let a = c.args in all_in_front (in_front (point_at a.coords.now) a.plane) a.ids.now _ c.count-front.ensures c.if-front-ids.true
