-- `line::ground::Ground::stop_at` meets its contract. Assumes nothing.
use native.Mathlib.Omega.{arith}
use mathlib.Core.Path.{sym, ap, ◌∙◌}
use Rattle.std.proofs.Common.{ne_eqb}
use Rattle.format.specs.Answers.{answer_of}
use Rattle.nodes.specs.Fast as Fast
use Rattle.line.specs.Line.{contents_from}
use Rattle.line.proofs.Ends.{code_says, is_solid}
use Rattle.line.proofs.States.{was_ok}
use Rattle.line.proofs.Follows.{stops_there}
use Rattle.line.proofs.ground.Ground.stop_at.Goals as goal

pub returns : goal.returns
returns c x K h is-h = let g = c.args.self.now in
    let (k, (e, n)) = code_says _ (c.code_from_root-code.ensures (omega (arith, c.if-code-eq0.false))) c.if-code-eq0.false in
    stops_there g c.args.set x K h is-h c.if-set.false c.point_of.ensures (sym (ap answer_of (was_ok c.in_ok-plane.ensures.value)) ∙ c.plane_at.ensures)
    (e ∙ ap (contents_from (Fast.table g.s.now g.t) 512 g.root) (sym c.point_of.ensures)) (is_solid k _ _ n (ne_eqb _ 2 c.if-code-eq2.false))
    c.is_from_front.ensures c.plane_from.ensures c.with_plane-met.ensures c.ended.ensures
