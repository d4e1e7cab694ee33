-- `Trace::new` meets its contract.
-- Assumes nothing.
use Rattle.format.proofs.Same.{same_contents}
use Rattle.phys.proofs.Trace.new.Goals as goal

pub returns : goal.returns
returns c = simp (c.eq.ensures, same_contents)
