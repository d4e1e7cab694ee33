-- `ffi_traces::trace` meets its contract. Assumes nothing.
use mathlib.Core.Path.{refl, sym, ap, ap₂, ◌∙◌}
use Rattle.format.specs.Answer.{mapped}
use Rattle.math.specs.declared.vector.Vector3.{Vector3}
use Rattle.words.specs.Words.{given}
use Rattle.walk.specs.Walk.{with_visits}
use Rattle.walk.specs.Tracing as Tracing
use Rattle.hull.specs.Hull.{hull_table}
use Rattle.hull.specs.Traces.{at_start, way_once}
use Rattle.hull.proofs.Founds.{trace_is}
use Rattle.ffi_hull.specs.Layout.{point_at}
use Rattle.ffi_hull.proofs.Walked.{no_hull, the_hull, room}
use Rattle.ffi_traces.specs.Layout.{trace_words}
use Rattle.ffi_traces.specs.Calls.{bsp_trace}
use Rattle.ffi_traces.proofs.Long.{was_said}
use Rattle.ffi_traces.proofs.trace.Goals as goal

pub give_way-requires : goal.give_way-requires
give_way-requires c = room _ _ _ _ _ _ _ c.asked.ensures _ _ c.in-Ok.is

pub other_trace-requires : goal.other_trace-requires
other_trace-requires c = room _ _ _ _ _ _ _ c.asked.ensures _ _ c.in-Ok.is

pub returns-in-Err : goal.returns-in-Err
unfolding bsp_trace
returns-in-Err c = let s = c.args in
    no_hull (λ a. given (mapped trace_words a) s.out.now) s.file.now s.map.now s.hull.now s.segment.now 6 s.out.now 17
    (λ T root. with_visits (Tracing.trace T root (point_at s.segment.now 0) (point_at s.segment.now 3))) _ c.asked.ensures _ c.in-Err.is _ c.number.ensures

pub returns-in-Some : goal.returns-in-Some
unfolding bsp_trace
returns-in-Some c = let s = c.args in
    let m = c.in-Ok.m in
    let h = c.in-Ok.h in
    c.give_way.ensures
    ∙ ap (λ a. given (mapped trace_words a) s.out.now) (trace_is _ _ _ _ _ _ c.tables_of-t.ensures _ _ _ (was_said _ _ _ (ap (way_once s.file.now c.tables_of-t.result (at_start c.first_point-start.result)) (sym c.in-Some.is) ∙ c.trace_at_once.ensures)))
    ∙ ap₂ (λ (p q : Vector3). given (mapped trace_words (with_visits (Tracing.trace (hull_table s.file.now m h) h.node_id p q))) s.out.now) c.first_point-start.ensures c.second_point-end.ensures
    ∙ the_hull (λ a. given (mapped trace_words a) s.out.now) s.file.now s.map.now s.hull.now s.segment.now 6 s.out.now 17
    (λ T root. with_visits (Tracing.trace T root (point_at s.segment.now 0) (point_at s.segment.now 3))) _ c.asked.ensures m h c.in-Ok.is

pub returns-in-None : goal.returns-in-None
unfolding bsp_trace
returns-in-None c = let s = c.args in
    let m = c.in-Ok.m in
    let h = c.in-Ok.h in
    c.other_trace.ensures
    ∙ ap (λ a. given (mapped trace_words a) s.out.now) (trace_is _ _ _ _ _ _ c.tables_of-t.ensures _ _ _ refl)
    ∙ ap₂ (λ (p q : Vector3). given (mapped trace_words (with_visits (Tracing.trace (hull_table s.file.now m h) h.node_id p q))) s.out.now) c.first_point-start.ensures c.second_point-end.ensures
    ∙ the_hull (λ a. given (mapped trace_words a) s.out.now) s.file.now s.map.now s.hull.now s.segment.now 6 s.out.now 17
    (λ T root. with_visits (Tracing.trace T root (point_at s.segment.now 0) (point_at s.segment.now 3))) _ c.asked.ensures m h c.in-Ok.is
