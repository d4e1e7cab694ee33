-- `answer_some` meets its contract: the tables are those of the hull.
-- Assumes nothing.
use mathlib.Core.Path.{◌∙◌, ap}
use Rattle.points.specs.Points.{answered}
use Rattle.points.proofs.Finished.{same_table}
use Rattle.points.proofs.many.answer_some.Goals as goal

pub returns-then-coords-le192 : goal.returns-then-coords-le192
returns-then-coords-le192 c =
    let a = c.args in
    c.answer_few.ensures ∙ ap (λ T. answered T a.hull.node_id a.coords.now a.list.now) (same_table a.s.now a.map a.hull.table a.hull.mins a.hull.maxs c.tables_of-t.result c.tables_of-t.ensures)

pub returns : goal.returns
returns c =
    let a = c.args in
    c.answer_up_to.ensures ∙ ap (λ T. answered T a.hull.node_id a.coords.now a.list.now) (same_table a.s.now a.map a.hull.table a.hull.mins a.hull.maxs c.tables_of-t.result c.tables_of-t.ensures)
