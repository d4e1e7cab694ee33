-- `answer_one` meets its contract: what the point gets alone.
-- Assumes nothing.
use native.Mathlib.Omega.{arith}
use Rattle.hull.specs.Hull.{hull_table}
use Rattle.points.proofs.Finished.{same_table, count_small, one_point, only_refused, only_answered}
use Rattle.points.proofs.many.answer_one.Goals as goal
use Rattle.format.proofs.Answers.{handed_on}

pub returns-in_err-contents : goal.returns-in_err-contents
returns-in_err-contents c =
    let a = c.args in
    rw (handed_on c.from_residual.ensures.1)
    (only_refused _ _ _ _ (one_point _ _ c.requires).0 (hull_table a.s.now a.map a.hull) (same_table _ _ _ _ _ _ c.tables_of-t.ensures) a.list.now _ c.point_at.ensures _ c.in_err-contents.ensures)

pub returns : goal.returns
returns c =
    let a = c.args in
    let t = c.tables_of-t.ensures in
    only_answered _ _ _ _ (one_point _ _ c.requires).0 (hull_table a.s.now a.map a.hull) (same_table _ _ _ _ _ _ t) a.list.now _ c.point_at.ensures
    (count_small a.map _ _ _ _ t (omega (arith, c.well_formed.1.0)) (omega (arith, c.well_formed.1.0))) _ _ c.in_ok-contents.ensures (one_point _ _ c.requires).1 _ c.code.ensures
