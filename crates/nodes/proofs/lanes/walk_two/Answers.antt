-- `walk_two` meets its contract: by the bytes of the two sections.
-- Assumes nothing.
use Rattle.std.proofs.Common.{Bool, sym, subst, refl, ◌∙◌}
use Rattle.nodes.specs.Walks.{Read}
use Rattle.nodes.proofs.Beside.{all_whole_two, none_whole}
use Rattle.nodes.proofs.lanes.walk_two.Goals as goal

pub returns-then-not-whole : goal.returns-then-not-whole
returns-then-not-whole c = none_whole _ _ _ _ _ _ (sym c.are_whole-whole.ensures ∙ c.if-not-whole.true)

pub returns : goal.returns
returns c =
    let g = c.sections_of.ensures in
    let on = c.if-not-whole.false in
    let x = c.sections_of.result in
    all_whole_two _ c.args.t _ _ _ _ (sym c.are_whole-whole.ensures ∙ on) _
    (c.walk_two.ensures _ c.args.t (subst (λ (b : Bool). Read c.args.s.now c.args.t x.nodes.now x.planes.now b) on g.0) g.1 refl)
