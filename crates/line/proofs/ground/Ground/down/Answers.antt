-- `line::ground::Ground::down` meets its contract. The loop's invariant: whatever is set before it, what becomes of the part at the present child, with
-- the calls left, is what becomes of it at the first one; and so is what a look from the part's start finds. Assumes nothing.
use native.Mathlib.Omega.{arith}
use Prim.Native.Nat.{◌<◌}
use mathlib.Core.Path.{refl, ◌∙◌}
use mathlib.Core.Bool.{true, false}
use Rattle.line.specs.Line.{stretch}
use Rattle.line.proofs.Lines.{OnOne, on_one, on_two, to_child, crosses_here}
use Rattle.line.proofs.Follows.{open_in, look_either, node_went, node_look, end_went, end_look}
use Rattle.line.proofs.ground.Ground.down.Goals as goal

pub returns-in_default : goal.returns-in_default
returns-in_default c x y =
    let inv = c.loop-w.invariant in
    let far = c.if-word-lt32768.false in
    (far, (λ root l. end_went _ _ _ _ far root _ l ∙ inv.1 root l _ _), end_look _ _ _ _ far _ ∙ inv.2)

pub returns-then-not-b : goal.returns-then-not-b
returns-then-not-b c x y =
    let inv = c.loop-w.invariant in
    let O = open_in c.args.self.now.lent c.requires.0 c.is_render.ensures c.ends_in.ensures c.if-left-eq0.false c.in-Ok.is in
    let near : c.loop-w.word < 32768 = omega (arith, O.in_range, c.requires.1) in
    (crosses_here O (on_two _ _ true c.if-a.true c.if-not-b.true) inv.0 (λ root l. node_went _ _ _ _ near root _ l ∙ inv.1 root l _ _), look_either O refl ∙ node_look _ _ _ _ near _ ∙ inv.2)

pub returns-then-b : goal.returns-then-b
returns-then-b c x y =
    let inv = c.loop-w.invariant in
    let O = open_in c.args.self.now.lent c.requires.0 c.is_render.ensures c.ends_in.ensures c.if-left-eq0.false c.in-Ok.is in
    let near : c.loop-w.word < 32768 = omega (arith, O.in_range, c.requires.1) in
    (crosses_here O (on_two _ _ false c.if-a.false c.if-b.true) inv.0 (λ root l. node_went _ _ _ _ near root _ l ∙ inv.1 root l _ _), look_either O refl ∙ node_look _ _ _ _ near _ ∙ inv.2)

pub loop-w-preserved-else-not-b : goal.loop-w-preserved-else-not-b
loop-w-preserved-else-not-b c =
    let inv = c.loop-w.invariant in
    let O = open_in c.args.self.now.lent c.requires.0 c.is_render.ensures c.ends_in.ensures c.if-left-eq0.false c.in-Ok.is in
    let near : c.loop-w.word < 32768 = omega (arith, O.in_range, c.requires.1) in
    let P : OnOne c.in-Ok.a c.in-Ok.b c.in-Ok.w c.on-word.result = on_one _ _ c.in-Ok.w true c.if-a.true c.if-not-b.false c.on-word.ensures refl in
    (omega (arith, inv.0), (λ root l x y. to_child root (stretch x y _ _) l O P.0 P.1 ∙ node_went _ _ _ _ near root _ l ∙ inv.1 root l x y), look_either O P.1 ∙ node_look _ _ _ _ near _ ∙ inv.2)

pub loop-w-preserved : goal.loop-w-preserved
loop-w-preserved c =
    let inv = c.loop-w.invariant in
    let O = open_in c.args.self.now.lent c.requires.0 c.is_render.ensures c.ends_in.ensures c.if-left-eq0.false c.in-Ok.is in
    let near : c.loop-w.word < 32768 = omega (arith, O.in_range, c.requires.1) in
    let P : OnOne c.in-Ok.a c.in-Ok.b c.in-Ok.w c.on-word-else-a.result = on_one _ _ c.in-Ok.w false c.if-a.false c.if-b.false c.on-word-else-a.ensures refl in
    (omega (arith, inv.0), (λ root l x y. to_child root (stretch x y _ _) l O P.0 P.1 ∙ node_went _ _ _ _ near root _ l ∙ inv.1 root l x y), look_either O P.1 ∙ node_look _ _ _ _ near _ ∙ inv.2)
