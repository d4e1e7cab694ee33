-- `sides` meets its contract: by the plane's type.
-- Assumes nothing.
use lib.Ieee.{nan, le}
use Rattle.std.proofs.Common.{get_or, ◌+◌, ◌*◌, sym, refl, ap, ◌∙◌}
use Rattle.math.specs.Plane as Pl
use Rattle.math.specs.declared.plane.Hyperplane.{Hyperplane}
use Rattle.nodes.specs.Lanes.{point_in}
use Rattle.nodes.proofs.Planes.{here_axis_side, here_slanted}
use Rattle.nodes.proofs.Eights.{coordinate_in, eight_same, side_same}
use Rattle.nodes.proofs.lanes.sides.Goals as goal

pub returns-then-kind-lt3 : goal.returns-then-kind-lt3
returns-then-kind-lt3 c = λ f says.
    let l = c.args.points.now in
    let k = c.u32_at-kind.result in
    c.axis_sides.ensures
    ∙ eight_same (λ q. le c.f32_at.result (get_or l (k + 3 * q) nan)) f
    (λ q h. side_same _ _ (here_axis_side _ 0 _ _ c.f32_at.ensures c.u32_at-kind.ensures (point_in l q) _ (coordinate_in l k q c.if-kind-lt3.true) c.if-kind-lt3.true ∙ sym (says q h)))

pub returns : goal.returns
returns c = λ f says.
    c.slanted_sides.ensures f
    (λ q h. says q h ∙ ap (λ (x : Hyperplane). Pl.point_side x (point_in c.args.points.now q)) (sym (here_slanted _ 0 _ _ refl c.u32_at-kind.ensures _ _ refl refl c.if-kind-lt3.false)))
