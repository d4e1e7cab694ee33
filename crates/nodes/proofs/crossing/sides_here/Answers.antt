-- `sides_here` meets its contract: by the plane's type.
-- Assumes nothing.
use Rattle.std.proofs.Common.{ap, ◌∙◌}
use lib.Ieee.{le}
use Rattle.math.specs.Plane.{point_side}
use Rattle.nodes.specs.Fast.{plane_here}
use Rattle.nodes.proofs.Planes.{here_axis_side, here_slanted}
use Rattle.nodes.proofs.Owning.{with_sides}
use Rattle.nodes.proofs.crossing.sides_here.Goals as goal

pub returns-then-kind-lt3 : goal.returns-then-kind-lt3
returns-then-kind-lt3 c = let z = c.args in
    let d = c.f32_at-dist.result in
    let f = c.f32_at-dist.ensures in
    let u = c.u32_at-kind.ensures in
    let k = c.if-kind-lt3.true in
    with_sides z.p z.q (plane_here z.bytes.now 0) (le d c.along.result) (le d c.along-then-kind-lt3.result) (here_axis_side _ 0 _ _ f u _ _ c.along.ensures k) (here_axis_side _ 0 _ _ f u _ _ c.along-then-kind-lt3.ensures k)

pub returns : goal.returns
returns c = let z = c.args in
    let h = here_slanted _ 0 _ _ c.f32_at-dist.ensures c.u32_at-kind.ensures _ _ c.normal_of.ensures c.new-plane.ensures c.if-kind-lt3.false in
    with_sides z.p z.q (plane_here z.bytes.now 0) c.is_front.result c.is_front-2.result (c.is_front.ensures ∙ c.point_side.ensures ∙ ap (λ x. point_side x z.p) h) (c.is_front-2.ensures ∙ c.point_side-2.ensures ∙ ap (λ x. point_side x z.q) h)
