-- `word_by_distance` meets its contract: by the plane's type.
-- Assumes nothing.
use lib.Ieee.{le, sub, binary32, nan}
use Rattle.std.proofs.Common.{get_or, refl, ap, ◌∙◌}
use Rattle.math.specs.Vector.{zero32}
use Rattle.math.specs.Plane.{point_dist, from_dist, new_plane}
use Rattle.nodes.specs.Fast.{f32, normal, point_of}
use Rattle.nodes.specs.Walks.{word_at}
use Rattle.nodes.proofs.Planes.{coordinate_of_lem, here_axis_dist, here_slanted}
use Rattle.nodes.proofs.Making.{on_the_side}
use Rattle.nodes.proofs.lines.word_by_distance.Goals as goal

pub returns-then-kind-lt3 : goal.returns-then-kind-lt3
returns-then-kind-lt3 c = let a = c.args in let x = get_or a.point.now c.u32_at-kind.result nan in c.on.ensures ∙ on_the_side a.words (le zero32 (sub binary32 x c.f32_at-dist.result)) ∙ ap (λ z. word_at a.words (from_dist z)) (here_axis_dist _ 0 _ _ c.f32_at-dist.ensures c.u32_at-kind.ensures (point_of a.point.now) x (coordinate_of_lem a.point.now _ c.if-kind-lt3.true) c.if-kind-lt3.true)

pub returns : goal.returns
returns c = let a = c.args in
    c.on-2.ensures ∙ on_the_side a.words (le zero32 c.dist_slanted.result)
    ∙ ap (λ x. word_at a.words (from_dist x)) (c.dist_slanted.ensures ∙ ap (λ h. point_dist h (point_of a.point.now)) (here_slanted a.bytes.now 0 _ _ refl c.u32_at-kind.ensures (normal a.bytes.now 0) (new_plane (normal a.bytes.now 0) (f32 a.bytes.now 12)) refl refl c.if-kind-lt3.false))
