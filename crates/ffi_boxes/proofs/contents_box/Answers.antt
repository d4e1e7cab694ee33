-- `ffi_boxes::contents_box` meets its contract. Assumes nothing.
use mathlib.Core.Path.{ap, ap₂, ◌∙◌}
use Rattle.format.specs.Answer.{answer}
use Rattle.format.specs.Answers.{answer_of}
use Rattle.math.specs.declared.vector.Vector3.{Vector3}
use Rattle.words.specs.Words.{beside, number_words}
use Rattle.words.proofs.Giving.{told_given}
use Rattle.walk.specs.TreeCheck.{Checked}
use Rattle.walk.specs.BoxWalk.{box_contents}
use Rattle.hull.specs.Hull.{hull_table}
use Rattle.ffi_hull.specs.Layout.{point_at}
use Rattle.ffi_hull.proofs.Walked.{no_hull, the_hull, room}
use Rattle.ffi_boxes.specs.Calls.{checked_on, bsp_contents_box}
use Rattle.ffi_boxes.proofs.contents_box.Goals as goal

pub returns-in-Err : goal.returns-in-Err
unfolding bsp_contents_box
returns-in-Err c = let s = c.args in
    no_hull (λ a. checked_on a s.marks.now s.out.now) _ _ _ _ _ _ _
    (λ T root. answer (box_contents T (point_at s.bounds.now 0) (point_at s.bounds.now 3) s.marks.now root)) _ c.asked.ensures _ c.in-Err.is _ c.number.ensures

pub returns-in-Ok : goal.returns-in-Ok
unfolding bsp_contents_box
returns-in-Ok c = let s = c.args in
    let m = c.in-Ok.m in
    let h = c.in-Ok.h in
    let met = c.contents_in_box in
    ap (beside met.new.marks) (c.give_number.ensures ∙ told_given number_words (answer_of met.result) s.out.now (λ n. room _ _ _ _ _ _ _ c.asked.ensures _ _ c.in-Ok.is))
    ∙ ap (λ (k : Checked). checked_on (answer k) s.marks.now s.out.now)
    (met.ensures ∙ ap₂ (λ (p q : Vector3). box_contents (hull_table s.file.now m h) p q s.marks.now h.node_id) c.first_point-mins.ensures c.second_point-maxs.ensures)
    ∙ the_hull (λ a. checked_on a s.marks.now s.out.now) _ _ _ _ _ _ _
    (λ T root. answer (box_contents T (point_at s.bounds.now 0) (point_at s.bounds.now 3) s.marks.now root)) _ c.asked.ensures _ _ c.in-Ok.is
