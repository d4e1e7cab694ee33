-- `ffi_points::contents_points` meets its contract. Assumes nothing.
use native.Mathlib.Omega.{arith}
use mathlib.Core.Bool.{true, false}
use mathlib.Core.Path.{sym}
use Rattle.std.proofs.Common.{length-take-le}
use Rattle.ffi_hull.proofs.Walked.{room, whole_map}
use Rattle.ffi_points.proofs.Single.{of_kind, some_first}
use Rattle.ffi_points.proofs.contents_points.Goals as goal

pub slice_bounds-its-end : goal.slice_bounds-its-end
slice_bounds-its-end c = sym (length-take-le 31 _ (whole_map _ _ _ _ _ _ _ c.asked.ensures _ _ c.in-Ok.is))

pub slice_bounds-word-end : goal.slice_bounds-word-end
slice_bounds-word-end c = room _ _ _ _ _ _ _ c.asked.ensures _ _ c.in-Ok.is

pub slice_bounds-word-end-in-Ok : goal.slice_bounds-word-end-in-Ok
slice_bounds-word-end-in-Ok c = sym (length-take-le 1 _ (room _ _ _ _ _ _ _ c.asked.ensures _ _ c.in-Ok.is))

pub one_drawn-requires : goal.one_drawn-requires
one_drawn-requires c = (some_first _ (omega (arith, c.if-list-ge1.true)), some_first _ (omega (arith, room _ _ _ _ _ _ _ c.asked.ensures _ _ c.in-Ok.is)))

pub one_clipped-requires : goal.one_clipped-requires
one_clipped-requires c = (some_first _ (omega (arith, c.if-list-ge1.true)), some_first _ (omega (arith, room _ _ _ _ _ _ _ c.asked.ensures _ _ c.in-Ok.is)))

pub returns-in-Render : goal.returns-in-Render
returns-in-Render c = let s = c.args in
    of_kind true s.file.now s.map.now s.hull.now (λ i. omega (arith, c.type_inv.map i)) s.points.now (omega (arith, c.if-points-eq3.true)) s.list.now s.out.now (omega (arith, c.if-list-ge1.true))
    _ c.asked.ensures _ _ c.in-Ok.is c.in-Render.is _ c.first_point-p.ensures _ c.one_drawn.ensures

pub returns-in-Clip : goal.returns-in-Clip
returns-in-Clip c = let s = c.args in
    of_kind false s.file.now s.map.now s.hull.now (λ i. omega (arith, c.type_inv.map i)) s.points.now (omega (arith, c.if-points-eq3.true)) s.list.now s.out.now (omega (arith, c.if-list-ge1.true))
    _ c.asked.ensures _ _ c.in-Ok.is c.in-Clip.is _ c.first_point-p.ensures _ c.one_clipped.ensures
