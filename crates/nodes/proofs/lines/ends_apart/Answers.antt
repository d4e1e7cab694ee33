-- `ends_apart` meets its contract: by the plane's type.
-- Assumes nothing.
use Rattle.std.proofs.Common.{refl, ap, ◌∙◌}
use Rattle.math.specs.Plane.{new_plane}
use Rattle.nodes.specs.Fast.{f32, normal, point_of, two_dists}
use Rattle.nodes.proofs.Planes.{coordinate_of_lem, here_axis_dists, here_slanted}
use Rattle.nodes.proofs.lines.ends_apart.Goals as goal

pub returns-then-kind-lt3 : goal.returns-then-kind-lt3
returns-then-kind-lt3 c = let a = c.args in here_axis_dists _ 0 _ _ c.f32_at-dist.ensures c.u32_at-kind.ensures (point_of a.p.now) (point_of a.q.now) _ _ (coordinate_of_lem a.p.now _ c.if-kind-lt3.true) (coordinate_of_lem a.q.now _ c.if-kind-lt3.true) c.if-kind-lt3.true

pub returns : goal.returns
returns c = let a = c.args in
    c.ends_slanted.ensures ∙ ap (two_dists (point_of a.p.now) (point_of a.q.now)) (here_slanted a.bytes.now 0 _ _ refl c.u32_at-kind.ensures (normal a.bytes.now 0) (new_plane (normal a.bytes.now 0) (f32 a.bytes.now 12)) refl refl c.if-kind-lt3.false)
