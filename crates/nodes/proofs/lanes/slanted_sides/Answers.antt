-- `slanted_sides` meets its contract: a bit for each point, the last one first.
-- Assumes nothing.
use Rattle.std.proofs.Common.{ap₂, ◌∙◌}
use Rattle.math.specs.Plane as Pl
use Rattle.nodes.proofs.Eights.{sides_are}
use Rattle.nodes.proofs.lanes.slanted_sides.Goals as goal

pub returns : goal.returns
returns c =
    sides_are _ _ (c.new-plane.ensures ∙ ap₂ Pl.new_plane c.normal_of.ensures c.f32_at.ensures) c.args.points.now _ _ _ _ _ _ _ _
    c.is_ahead_of-8.ensures c.is_ahead_of-7.ensures c.is_ahead_of-6.ensures c.is_ahead_of-5.ensures c.is_ahead_of-4.ensures c.is_ahead_of-3.ensures c.is_ahead_of-2.ensures c.is_ahead_of.ensures
    _ _ _ _ _ _ _ _
    c.above-high.ensures.said c.above-high-2.ensures.said c.above-high-3.ensures.said c.above-high-4.ensures.said c.above-high-5.ensures.said c.above-high-6.ensures.said c.above-high-7.ensures.said c.above.ensures.said
