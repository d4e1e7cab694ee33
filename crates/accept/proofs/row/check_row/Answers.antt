-- `check_row` meets its contract: the leaf, then its offset, then the row there. Assumes nothing.
use Rattle.std.proofs.Common.{sym, ap, ◌∙◌}
use Rattle.vis.specs.Answers.{bytes_of}
use Rattle.accept.proofs.Rows.{its_row, read_row, unread_row}
use Rattle.accept.proofs.row.check_row.Goals as goal
use Rattle.format.proofs.Answers.{handed_on}

pub returns-in_err-visibility-in-Some : goal.returns-in_err-visibility-in-Some
returns-in_err-visibility-in-Some c =
    let r = c.from_residual-in_err-visibility-in-Some in
    rw (handed_on r.ensures.1)
    (its_row _ _ _ c.requires.0 _ (sym c.in_ok-leaf.ensures) _ _ c.in-Some.is c.record_count-count.ensures
    (unread_row _ _ _ _ _ (sym (ap bytes_of c.in_err-visibility-in-Some.was) ∙ c.requires.1.read)))

pub returns-in_ok-visibility-in-Some : goal.returns-in_ok-visibility-in-Some
returns-in_ok-visibility-in-Some c =
    its_row _ _ _ c.requires.0 _ (sym c.in_ok-leaf.ensures) _ _ c.in-Some.is c.record_count-count.ensures
    (read_row _ _ _ _ _ (sym (ap bytes_of c.in_ok-visibility-in-Some.was) ∙ c.requires.1.read) c.check_offset.ensures)
