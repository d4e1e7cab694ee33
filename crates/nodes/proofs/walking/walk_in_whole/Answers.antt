-- `walk_in_whole` meets its contract: what the walk by numbers says is so of any table that is whole and has these numbers.
-- Assumes nothing.
use Rattle.std.proofs.Common.{sym, ◌∙◌, arith}
use Rattle.nodes.proofs.AnyTables.{quick_of_any}
use Rattle.nodes.proofs.walking.walk_in_whole.Goals as goal

pub returns : goal.returns
returns c l = let a = c.args in
    quick_of_any a.s.now a.t (sym c.are_whole.ensures ∙ c.if-not-are_whole.false) _ _ _ (λ e. omega (arith, l, e)) (rw (← c.is_render.ensures) c.walk_quick.ensures.said)
