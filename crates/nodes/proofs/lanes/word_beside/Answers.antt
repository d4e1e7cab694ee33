-- `word_beside` meets its contract: by the plane's type.
-- Assumes nothing.
use lib.Ieee.{nan, le}
use Rattle.std.proofs.Common.{get_or, refl, ap, ◌∙◌}
use Rattle.nodes.specs.Fast.{point_of}
use Rattle.math.specs.Plane.{point_side}
use Rattle.nodes.specs.Walks.{word_at}
use Rattle.nodes.proofs.Planes.{coordinate_of_lem, here_axis_side, here_slanted}
use Rattle.nodes.proofs.Making.{on_the_side}
use Rattle.nodes.proofs.lanes.word_beside.Goals as goal

pub returns-then-kind-lt3 : goal.returns-then-kind-lt3
returns-then-kind-lt3 c = let a = c.args in let x = get_or a.point.now c.u32_at-kind.result nan in c.picked.ensures ∙ on_the_side a.words (le c.f32_at-dist.result x) ∙ ap (word_at a.words) (here_axis_side _ 0 _ _ c.f32_at-dist.ensures c.u32_at-kind.ensures (point_of a.point.now) x (coordinate_of_lem a.point.now _ c.if-kind-lt3.true) c.if-kind-lt3.true)

pub returns : goal.returns
returns c = let a = c.args in let p = point_of a.point.now in c.picked-2.ensures ∙ on_the_side a.words c.is_beyond.result ∙ ap (word_at a.words) (c.is_beyond.ensures ∙ ap (λ h. point_side h p) (here_slanted _ 0 _ _ refl c.u32_at-kind.ensures _ _ refl refl c.if-kind-lt3.false))
