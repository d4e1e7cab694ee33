-- `ffi_points::other_points` meets its contract. Assumes nothing.
use mathlib.Core.Path.{◌∙◌}
use Rattle.format.specs.Answers.{answer_of}
use Rattle.words.specs.Words.{number_words, listed_in}
use Rattle.words.proofs.Giving.{counts, told_given}
use Rattle.hull.specs.Hull.{hull_table}
use Rattle.points.specs.Points.{points_of, codes_and_reads, filled}
use Rattle.points.proofs.Opening.{all_right}
use Rattle.ffi_hull.proofs.Walked.{no_hull, the_hull, room}
use Rattle.ffi_points.proofs.Calling.{opened_at}
use Rattle.ffi_points.proofs.other_points.Goals as goal

pub returns-in-Err : goal.returns-in-Err
returns-in-Err c = let a = c.args in
    no_hull (λ x. listed_in (filled x a.list.now) a.out.now) _ _ _ _ _ _ _ (λ T root. codes_and_reads T root (points_of a.points.now))
    _ c.asked.ensures _ c.in-Err.is _ c.number.ensures
    ∙ opened_at a.file.now a.map.now a.hull.now a.points.now a.list.now a.out.now c.if-points-gt3072.false c.if-points-ne0.false c.if-list-points.false

pub returns-in-Ok : goal.returns-in-Ok
returns-in-Ok c = let a = c.args in
    let m = c.in-Ok.m in
    let h = c.in-Ok.h in
    let met = c.contents_at_points in
    counts (answer_of met.result) met.new.list a.out.now
    (c.give_number.ensures ∙ told_given number_words (answer_of met.result) a.out.now (λ n. room _ _ _ _ _ _ _ c.asked.ensures _ _ c.in-Ok.is))
    (met.ensures ∙ all_right (hull_table a.file.now m h) h.node_id a.points.now a.list.now c.if-points-gt3072.false c.if-points-ne0.false c.if-list-points.false)
    ∙ the_hull (λ x. listed_in (filled x a.list.now) a.out.now) _ _ _ _ _ _ _ (λ T root. codes_and_reads T root (points_of a.points.now))
    _ c.asked.ensures _ _ c.in-Ok.is
    ∙ opened_at a.file.now a.map.now a.hull.now a.points.now a.list.now a.out.now c.if-points-gt3072.false c.if-points-ne0.false c.if-list-points.false
