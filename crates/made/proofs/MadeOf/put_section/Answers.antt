-- `put_section` meets its contract. Assumes nothing.
use Rattle.made.proofs.Rows.{rows_none, rows_next}
use Rattle.made.proofs.MadeOf.put_section.Goals as goal

pub loop-i-init : goal.loop-i-init
loop-i-init c = rows_none c.args.part c.args.self.seed c.args.self.nodes c.args.buffer.now c.args.at c.requires

pub loop-i-preserved : goal.loop-i-preserved
loop-i-preserved c = let l = c.loop-i in
    rows_next c.args.part c.args.self.seed c.args.self.nodes c.args.buffer.now c.args.at c.requires l.buffer _ l.last _ l.i _ c.loop-i-test.true l.invariant
    c.size_of-size.ensures c.next-last.ensures c.put_record.ensures
