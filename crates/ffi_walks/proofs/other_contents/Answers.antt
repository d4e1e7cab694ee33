-- `ffi_walks::other_contents` meets its contract. Assumes nothing.
use native.Mathlib.Omega.{arith}
use mathlib.Core.Path.{◌≡◌, ap, ◌∙◌}
use Rattle.format.specs.Answer.{mapped}
use Rattle.format.specs.Answers.{answer_of}
use Rattle.math.specs.declared.vector.Vector3.{Vector3}
use Rattle.words.specs.Words.{given, told}
use Rattle.words.proofs.Giving.{told_given}
use Rattle.walk.specs.Walk.{with_visits, point_walk}
use Rattle.ffi_hull.specs.Layout.{point_at}
use Rattle.ffi_hull.proofs.Walked.{no_hull, the_hull, room}
use Rattle.ffi_walks.specs.Calls.{contents_words, bsp_contents}
use Rattle.ffi_walks.specs.Quick.{contents_asked}
use Rattle.ffi_walks.proofs.other_contents.Goals as goal

pub returns-in-Err : goal.returns-in-Err
unfolding bsp_contents
returns-in-Err c = let s = c.args in
    no_hull (λ a. given (mapped contents_words a) s.out.now) _ _ _ _ _ _ _ (λ T root. with_visits (point_walk T root (point_at s.point.now 0)))
    _ c.asked.ensures _ c.in-Err.is _ c.number.ensures

pub returns-in-Ok : goal.returns-in-Ok
unfolding bsp_contents
returns-in-Ok c = let s = c.args in
    let m = c.in-Ok.m in
    let h = c.in-Ok.h in
    let words : answer_of c.map.result ≡ mapped contents_words (answer_of c.contents_at_point.result) = grind arith in
    c.give_words.ensures ∙ ap (λ a. told a s.out.now) words
    ∙ told_given contents_words (answer_of c.contents_at_point.result) s.out.now (λ x. room _ _ _ _ _ _ _ c.asked.ensures _ _ c.in-Ok.is)
    ∙ ap (λ a. given (mapped contents_words a) s.out.now) (c.contents_at_point.ensures ∙ ap (λ (p : Vector3). contents_asked s.file.now m h p) c.first_point-p.ensures)
    ∙ the_hull (λ a. given (mapped contents_words a) s.out.now) _ _ _ _ _ _ _ (λ T root. with_visits (point_walk T root (point_at s.point.now 0)))
    _ c.asked.ensures _ _ c.in-Ok.is
