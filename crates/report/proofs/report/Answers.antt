-- `report` meets its contract: the refusal's line, or the lines of the map. Assumes nothing.
use native.Mathlib.Omega.{arith}
use Rattle.report.specs.Report.{report_text, told}
use Rattle.report.proofs.Lines.{alone}
use Rattle.report.proofs.report.Goals as goal

pub returns-in-Err : goal.returns-in-Err
unfolding report_text told
returns-in-Err c = grind (arith, alone)

pub returns-in-Ok : goal.returns-in-Ok
unfolding report_text told
returns-in-Ok c = grind (arith, alone)

pub returns-then-input-gt-MOST_BYTES : goal.returns-then-input-gt-MOST_BYTES
unfolding report_text
returns-then-input-gt-MOST_BYTES c = grind (arith, alone)
