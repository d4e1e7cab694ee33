-- `check_rows` meets its contract: the notes are those of the bytes that the rows are read in. Assumes nothing.
use Rattle.std.proofs.Common.{arith, refl, sym, ap, ◌∙◌}
use Rattle.vis.specs.Answers.{bytes_of}
use Rattle.vis.proofs.Sections.{few_bytes}
use Rattle.accept.specs.Fast.{RowsNoted}
use Rattle.accept.proofs.Groups.{rows_noted, none_noted}
use Rattle.accept.proofs.row.check_rows.Goals.{in-Ok, in_default}
use Rattle.accept.proofs.row.check_rows.Goals as goal

pub note_groups-requires : goal.note_groups-requires
note_groups-requires c = (few_bytes _ _ _ (sym (ap bytes_of c.in-Ok.is) ∙ c.visibility_of-visibility.ensures), refl)

pub check_each-requires : goal.check_each-requires
check_each-requires c =
    let read = c.visibility_of-visibility.ensures in
    let noted : RowsNoted c.args.file.now c.args.map.visibility c.visibility_of-visibility.result c.match-visibility.notes = elim c.match-visibility.branch [
      | in-Ok w ↦ rw w.notes-is (rows_noted _ _ _ read _ _ w.in-Ok.is w.note_groups.ensures)
      | in_default w ↦ none_noted _ _ _ read _ _ w.in_default.is
    ] in
    λ i l h κs p q r b u v w x. (omega arith, noted)
