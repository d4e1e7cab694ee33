-- `end_code` meets its contract: so many leaves have so many times 28 bytes.
-- Assumes nothing.
use Rattle.std.proofs.Common.{ℕ, ◌*◌, ap, ◌∙◌, arith}
use Rattle.nodes.specs.Quick.{end_code}
use Rattle.nodes.proofs.Quicks.{code_word, code_many}
use Rattle.nodes.proofs.quick.end_code.Goals as goal

pub returns-then-not-render : goal.returns-then-not-render
returns-then-not-render c = let a = c.args in code_word a.s.now a.at _ a.word a.render c.if-not-render.true _ c.word_code.ensures

pub returns-then-count-gt32767 : goal.returns-then-count-gt32767
returns-then-count-gt32767 c = let a = c.args in
    code_many a.s.now a.at a.count a.word a.render c.if-not-render.false (a.count * 28) (omega arith) (omega (arith, c.if-count-gt32767.true))

pub returns : goal.returns
returns c = let a = c.args in c.end_code_sized.ensures ∙ ap (λ (n : ℕ). end_code a.s.now a.render a.at n a.word) (omega arith)
