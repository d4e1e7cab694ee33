-- `two_sides` meets its contract: by the plane's type.
-- Assumes nothing.
use lib.Ieee.{nan}
use Rattle.std.proofs.Common.{get_or, refl, ap, ◌∙◌}
use Rattle.nodes.specs.Fast.{point_of}
use Rattle.math.specs.Plane.{point_side}
use Rattle.nodes.proofs.Planes.{coordinate_of_lem, here_axis_side, here_slanted}
use Rattle.nodes.proofs.lanes.two_sides.Goals as goal

pub returns-then-kind-lt3 : goal.returns-then-kind-lt3
returns-then-kind-lt3 c = let a = c.args in
    let k = c.u32_at-kind.result in
    let h = c.if-kind-lt3.true in
    record {
      first = here_axis_side _ 0 _ _ c.f32_at-dist.ensures c.u32_at-kind.ensures (point_of a.p.now) (get_or a.p.now k nan) (coordinate_of_lem a.p.now _ h) h;
      second = here_axis_side _ 0 _ _ c.f32_at-dist.ensures c.u32_at-kind.ensures (point_of a.q.now) (get_or a.q.now k nan) (coordinate_of_lem a.q.now _ h) h;
    }

pub returns : goal.returns
returns c = let a = c.args in
    let e = here_slanted _ 0 _ _ refl c.u32_at-kind.ensures _ _ refl refl c.if-kind-lt3.false in
    record {
      first = c.slanted_two.ensures.first ∙ ap (λ h. point_side h (point_of a.p.now)) e;
      second = c.slanted_two.ensures.second ∙ ap (λ h. point_side h (point_of a.q.now)) e;
    }
