-- `sections::row::read_records` meets its contract: what is left to read from the position is all that there is to read.
-- Assumes nothing.
use Rattle.std.proofs.Common.{◌≡◌, ◌+◌, ◌-◌, ◌∙◌, sym, arith}
use Rattle.sections.proofs.Loops.{done, more, stop}
use Rattle.sections.proofs.row.read_records.Goals as goal
use Rattle.format.proofs.Answers.{handed_on}

pub returns-in_err-p : goal.returns-in_err-p
returns-in_err-p g c =
    rw (handed_on c.from_residual.ensures.1) (sym (stop (g.R.Reader.reads c.args.reader) c.args.s.now _ c.loop.p (omega arith) (sym c.in_err-p.ensures)) ∙ c.loop.invariant)

pub loop-preserved : goal.loop-preserved
loop-preserved g c =
    let left : c.args.count - (c.loop.counter + 1) ≡ c.args.count - c.loop.counter - 1 = omega arith in
    rw left (sym (more (g.R.Reader.reads c.args.reader) c.args.s.now _ c.loop.p (omega arith) (sym c.in_ok-p.ensures)) ∙ c.loop.invariant)

pub returns : goal.returns
returns g c = sym (done (g.R.Reader.reads c.args.reader) c.args.s.now _ c.loop.p (omega arith)) ∙ c.loop.invariant
