-- `ffi_entered::contents_nodes` meets its contract. Assumes nothing.
use mathlib.Core.Path.{ap, ◌∙◌}
use Rattle.format.specs.Answers.{answer_of}
use Rattle.format.specs.Listed.{into}
use Rattle.math.specs.declared.vector.Vector3.{Vector3}
use Rattle.words.specs.Words.{number_words, listed_in}
use Rattle.words.proofs.Giving.{counts, told_given}
use Rattle.walk.specs.Walk.{point_walk}
use Rattle.hull.specs.Hull.{hull_table}
use Rattle.entered.specs.Lists.{nodes_entered}
use Rattle.ffi_hull.specs.Layout.{point_at}
use Rattle.ffi_hull.proofs.Walked.{no_hull, the_hull, room}
use Rattle.ffi_entered.specs.Calls.{bsp_contents_nodes}
use Rattle.ffi_entered.proofs.contents_nodes.Goals as goal

pub returns-in-Err : goal.returns-in-Err
unfolding bsp_contents_nodes
returns-in-Err c = let s = c.args in
    no_hull (λ a. listed_in (into a s.list.now) s.out.now) _ _ _ _ _ _ _
    (λ T root. nodes_entered (point_walk T root (point_at s.point.now 0))) _ c.asked.ensures _ c.in-Err.is _ c.number.ensures

pub returns-in-Ok : goal.returns-in-Ok
unfolding bsp_contents_nodes
returns-in-Ok c = let s = c.args in
    let m = c.in-Ok.m in
    let h = c.in-Ok.h in
    let found = c.nodes_to_point in
    counts (answer_of found.result) found.new.list s.out.now
    (c.give_number.ensures ∙ told_given number_words (answer_of found.result) s.out.now (λ n. room _ _ _ _ _ _ _ c.asked.ensures _ _ c.in-Ok.is)) found.ensures
    ∙ ap (λ (p : Vector3). listed_in (into (nodes_entered (point_walk (hull_table s.file.now m h) h.node_id p)) s.list.now) s.out.now) c.first_point-p.ensures
    ∙ the_hull (λ a. listed_in (into a s.list.now) s.out.now) _ _ _ _ _ _ _
    (λ T root. nodes_entered (point_walk T root (point_at s.point.now 0))) _ c.asked.ensures _ _ c.in-Ok.is
