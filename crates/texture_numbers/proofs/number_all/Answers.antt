-- `texture_numbers::number_all` meets its contract: the textures so far have their numbers.
-- Assumes nothing.
use Rattle.std.proofs.Common.{◌∙◌, arith}
use Rattle.texture_numbers.proofs.Numbering.{number_is, counts_none, counts_first, next, ends}
use Rattle.texture_numbers.proofs.number_all.Goals as goal

pub loop-i-preserved : goal.loop-i-preserved
loop-i-preserved c =
    let l = c.args.list.now in
    let p = c.requires in
    let i = c.loop-i.invariant in
    record {
      partly = next l p.1 c.loop-i.i c.loop-i.list i.partly (omega arith) _ (omega arith) (c.number_of-number.ensures ∙ number_is l p.1 c.loop-i.i c.loop-i.list i.partly (omega arith) _ _ _ i.before c.count_static-statics.ensures i.firsts);
      before = rw c.from-before.ensures (counts_none l p.1 c.loop-i.i c.loop-i.list i.partly (omega arith) _ i.before);
      firsts = rw c.from-firsts.ensures (counts_first l p.1 c.loop-i.i c.loop-i.list i.partly (omega arith) _ i.firsts);
    }

pub returns : goal.returns
returns c = ends c.args.list.now _ c.loop-i.list (omega arith) (omega arith) c.loop-i.invariant.partly
