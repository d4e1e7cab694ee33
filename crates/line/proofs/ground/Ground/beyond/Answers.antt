-- `line::ground::Ground::beyond` meets its contract. Assumes nothing.
use mathlib.Core.Path.{ap, ◌∙◌}
use Rattle.line.specs.Line.{onward}
use Rattle.line.proofs.States.{alike}
use Rattle.line.proofs.Lines.{far_leaf}
use Rattle.line.proofs.ground.Ground.beyond.Goals as goal

pub returns : goal.returns
returns c h is-h go = let a = c.args in
    ap onward c.into_leaf.ensures ∙ far_leaf a.self.now a.at.w a.at.front a.at.part a.at.k a.line c.point_at.ensures h go c.in_ok-c.ensures (alike _ _ c.eq.ensures c.if-eq.false) c.on-word.ensures c.if-word-lt32768.false
