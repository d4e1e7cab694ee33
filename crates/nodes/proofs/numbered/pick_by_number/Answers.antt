-- `pick_by_number` meets its contract: the number (30) and the bytes (23) by one test, then by the plane's type.
-- Assumes nothing.
use Rattle.std.proofs.Common.{true, false, [], ◌∷◌, get_or, sym, refl, ap, ◌∙◌}
use lib.Ieee.{nan, le}
use Rattle.math.specs.Plane as Pl
use Rattle.nodes.proofs.Planes.{here_axis_side, here_slanted}
use Rattle.nodes.proofs.Numbering.{picked_30, picked_23, picked, coordinate}
use Rattle.nodes.proofs.numbered.pick_by_number.Goals as goal

pub returns-then-count-number : goal.returns-then-count-number
returns-then-count-number c = picked_30 _ _ _ _ _ _ c.if-count-number.true

pub returns-then-known-number : goal.returns-then-known-number
returns-then-known-number c = picked_23 _ _ _ _ _ _ _ c.min-known.ensures c.if-known-number.true c.if-count-number.false

pub returns-then-kind-lt3 : goal.returns-then-kind-lt3
returns-then-kind-lt3 c = let p = c.args.point in let x = get_or (p.x ∷ p.y ∷ p.z ∷ []) c.u32_at-kind.result nan in picked _ _ _ p _ _ _ c.min-known.ensures c.if-known-number.false _ c.plane_bytes_at-bytes.ensures (le c.f32_at-dist.result x) (here_axis_side _ 0 _ _ c.f32_at-dist.ensures c.u32_at-kind.ensures p x (coordinate p _ nan c.if-kind-lt3.true) c.if-kind-lt3.true) _ c.of_two.ensures

pub returns-then-is_front : goal.returns-then-is_front
returns-then-is_front c = let p = c.args.point in picked _ _ _ p _ _ _ c.min-known.ensures c.if-known-number.false _ c.plane_bytes_at-bytes.ensures true (ap Pl.side_if (sym c.if-is_front.true) ∙ c.is_front.ensures ∙ c.point_side.ensures ∙ ap (λ h. Pl.point_side h p) (here_slanted _ 0 _ _ c.f32_at-dist.ensures c.u32_at-kind.ensures _ _ c.normal_of.ensures c.new-plane.ensures c.if-kind-lt3.false)) _ refl

pub returns : goal.returns
returns c = let p = c.args.point in picked _ _ _ p _ _ _ c.min-known.ensures c.if-known-number.false _ c.plane_bytes_at-bytes.ensures false (ap Pl.side_if (sym c.if-is_front.false) ∙ c.is_front.ensures ∙ c.point_side.ensures ∙ ap (λ h. Pl.point_side h p) (here_slanted _ 0 _ _ c.f32_at-dist.ensures c.u32_at-kind.ensures _ _ c.normal_of.ensures c.new-plane.ensures c.if-kind-lt3.false)) _ refl
