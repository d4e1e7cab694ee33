-- `dists_here` meets its contract: by the plane's type.
-- Assumes nothing.
use Rattle.nodes.proofs.Planes.{here_axis_dists, here_slanted_dists}
use Rattle.nodes.proofs.here.dists_here.Goals as goal

pub returns-then-kind-lt3 : goal.returns-then-kind-lt3
returns-then-kind-lt3 c = here_axis_dists _ 0 _ _ c.f32_at-dist.ensures c.u32_at-kind.ensures _ _ _ _ c.along.ensures c.along-then-kind-lt3.ensures c.if-kind-lt3.true

pub returns : goal.returns
returns c = here_slanted_dists _ 0 _ _ c.f32_at-dist.ensures c.u32_at-kind.ensures _ _ c.normal_of.ensures c.new-plane.ensures c.if-kind-lt3.false _ _ _ _ c.point_dist.ensures c.point_dist-2.ensures
