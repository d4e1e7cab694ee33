-- `line::contents::look_any` meets its contract. Assumes nothing.
use Rattle.line.proofs.Seen.{no_node, no_side}
use Rattle.line.proofs.contents.look_any.Goals as goal
use Rattle.format.proofs.Answers.{handed_on}

pub returns-in_err-w : goal.returns-in_err-w
returns-in_err-w c = rw (handed_on c.from_residual.ensures.1) (no_node _ _ _ _ _ c.in_err-w.ensures)

pub returns-in_err-plane : goal.returns-in_err-plane
returns-in_err-plane c = rw (handed_on c.from_residual-in_err-plane.ensures.1) (no_side _ _ _ _ _ c.in_ok-w.ensures _ c.in_err-plane.ensures)
