-- `put_counts` meets its contract: seven lines, each after the one before, and each has room. Assumes nothing.
use mathlib.Core.Path.{ap}
use native.Mathlib.Omega.{arith}
use lib.ListN.{length}
use Rattle.report.specs.Report.{count_lines}
use Rattle.report.proofs.Lines.{after}
use Rattle.report.proofs.put_counts.Goals as goal

pub returns : goal.returns
unfolding count_lines
returns c = let empty = c.new-text.ensures in
    (after _ 109 20 (omega arith)
    (after _ 91 18 (omega arith)
    (after _ 74 17 (omega arith)
    (after _ 56 18 (omega arith)
    (after _ 35 21 (omega arith)
    (after _ 18 17 (omega arith)
    (after _ 0 18 (omega arith) (empty, omega (arith, ap length empty))
    c.put_count.ensures.put c.put_count.ensures.short)
    c.put_count-2.ensures.put c.put_count-2.ensures.short)
    c.put_count-3.ensures.put c.put_count-3.ensures.short)
    c.put_count-4.ensures.put c.put_count-4.ensures.short)
    c.put_count-5.ensures.put c.put_count-5.ensures.short)
    c.put_count-6.ensures.put c.put_count-6.ensures.short)
    c.put_count-7.ensures.put c.put_count-7.ensures.short).0
