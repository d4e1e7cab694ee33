-- `sections::row::read_records` meets its contract: what is left to read from the position is all that there is to read.
-- Assumes nothing.
use Rattle.std.proofs.Common.{◌≡◌, ◌-◌}
use Rattle.sections.specs.Records.{records}
use Rattle.sections.proofs.row.read_records.Given as goal

abbrev pub invariant-loop : goal.invariant-loop
invariant-loop g l = records (g.R.Reader.reads l.reader) l.s (l.count - l.counter) l.p ≡ records (g.R.Reader.reads l.reader) l.s l.count l.at
