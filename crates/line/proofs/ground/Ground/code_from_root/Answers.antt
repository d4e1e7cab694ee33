-- `line::ground::Ground::code_from_root` meets its contract. Assumes nothing.
use native.Mathlib.Omega.{arith}
use Prim.Native.Nat.{◌<◌}
use mathlib.Core.Path.{sym, ap, ◌∙◌}
use Rattle.nodes.specs.Quick.{code_or}
use Rattle.line.proofs.Looks.{goes}
use Rattle.line.proofs.Follows.{look_in_whole, node_look, end_look}
use Rattle.line.proofs.ground.Ground.code_from_root.Goals as goal

pub returns-in_default : goal.returns-in_default
returns-in_default c z = c.code_at.ensures ∙ ap code_or (end_look _ _ _ _ c.if-word-lt32768.false _ ∙ c.loop-next.invariant)

pub loop-next-preserved : goal.loop-next-preserved
loop-next-preserved c =
    let M = look_in_whole _ c.args.self.now.lent c.requires.0.0 c.is_render.ensures c.look_in.ensures c.if-left-eq0.false c.in-Ok.is in
    let near : c.loop-next.word < 32768 = omega (arith, M.in_range, c.requires.0.1) in
    sym (goes _ _ _ _ _ _ M) ∙ node_look _ _ _ _ near _ ∙ c.loop-next.invariant
