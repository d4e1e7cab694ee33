-- `word_along` meets its contract: the side by the coordinate.
-- Assumes nothing.
use lib.Ieee.{nan, le, binary32}
use Rattle.std.specs.Prelude.{from_bits}
use Rattle.std.proofs.Common.{◌≡◌, ◌<◌, arith, get_or, ap, ◌∙◌}
use Rattle.nodes.specs.Fast.{point_of, f32}
use Rattle.nodes.specs.Walks.{word_at}
use Rattle.nodes.proofs.Planes.{coordinate_of_lem, here_axis_side}
use Rattle.nodes.proofs.Making.{on_the_side}
use Rattle.nodes.proofs.quick.word_along.Goals as goal

pub returns : goal.returns
returns c = let a = c.args in let x = get_or a.point.now c.u32_at-kind.result nan in let l : c.u32_at-kind.result < 3 = omega (arith, c.requires, c.u32_at-kind.ensures) in let d : c.number_of-dist.result ≡ f32 a.bytes.now 12 = c.number_of-dist.ensures ∙ ap (from_bits binary32) c.u32_at.ensures in c.on.ensures ∙ on_the_side a.words (le c.number_of-dist.result x) ∙ ap (word_at a.words) (here_axis_side _ 0 _ _ d c.u32_at-kind.ensures (point_of a.point.now) x (coordinate_of_lem a.point.now _ l) l)
