-- `line::ground::Ground::one_turn` meets its contract. Assumes nothing.
use Rattle.std.specs.Prelude.{Some}
use mathlib.Core.Path.{refl, ◌∙◌}
use Rattle.line.specs.Private.{part_from, Reaches}
use Rattle.line.specs.declared.through.Reached.TheVariants as N
use Rattle.line.proofs.Follows.{turned}
use Rattle.line.proofs.ground.Ground.one_turn.Goals as goal

pub returns-in-Crossing : goal.returns-in-Crossing
returns-in-Crossing c = let a = c.args in let x = c.in-Crossing in
    let R : Reaches a.self.now.s.now a.self.now.t a.at a.left (part_from a.x.now a.y.now) (Some (N.Crossing x.w x.a x.b x.below)) = rw x.is at c.in_ok-word.ensures a.x.now.at a.y.now.at in
    (x.a, (x.b, (refl, c.near_part-near.ensures ∙ rw (c.part_to.ensures, c.crossing.ensures), R)))

pub returns-in-End : goal.returns-in-End
returns-in-End c = let a = c.args in
    let R : Reaches a.self.now.s.now a.self.now.t a.at a.left (part_from a.x.now a.y.now) (Some (N.End c.in-End.word)) = rw c.in-End.is at c.in_ok-word.ensures a.x.now.at a.y.now.at in
    turned a.self.now.s.now a.self.now.t _ a.seen a.looked _ R _ c.meet_end.ensures
