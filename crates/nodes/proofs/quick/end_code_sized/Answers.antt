-- `end_code_sized` meets its contract: a leaf's place and its record, or the code in the word.
-- Assumes nothing.
use Rattle.std.proofs.Common.{◌/◌, refl, arith}
use Rattle.nodes.proofs.Quicks.{code_word, code_many, code_none, code_past, code_leaf}
use Rattle.nodes.proofs.quick.end_code_sized.Goals as goal

pub returns-then-not-render : goal.returns-then-not-render
returns-then-not-render c = let a = c.args in code_word a.s.now a.at _ a.word a.render c.if-not-render.true _ c.word_code.ensures

pub returns-then-size-ge917504 : goal.returns-then-size-ge917504
returns-then-size-ge917504 c = let a = c.args in code_many a.s.now a.at (a.size / 28) a.word a.render c.if-not-render.false a.size refl c.if-size-ge917504.true

pub returns-then-size-past : goal.returns-then-size-past
returns-then-size-past c = let a = c.args in
    code_none a.s.now a.at (a.size / 28) a.word a.render c.if-not-render.false a.size refl (omega (arith, c.if-size-past.true))

pub returns-then-s-end : goal.returns-then-s-end
returns-then-s-end c = let a = c.args in
    code_past a.s.now a.at (a.size / 28) a.word a.render c.if-not-render.false a.size refl c.if-size-ge917504.false (omega (arith, c.if-size-past.false))
    (omega (arith, c.if-s-end.true))

pub returns : goal.returns
returns c = let a = c.args in
    code_leaf a.s.now a.at (a.size / 28) a.word a.render c.if-not-render.false a.size refl c.if-size-ge917504.false (omega (arith, c.if-size-past.false))
    (omega (arith, c.if-s-end.false)) _ (omega arith) _ c.leaf_code.ensures
