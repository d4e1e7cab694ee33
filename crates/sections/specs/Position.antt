-- How far a section was read, and the test of its end, the Rust's `check_end_position`.
use Rattle.std.specs.Prelude.{ℕ, ◌+◌, cond, eqb}
use Rattle.format.specs.Step.{Step, ok, refused}
use Rattle.format.specs.declared.section.BspFileSection.{BspFileSection}

-- the position after what was read is the section's end, else 7
abbrev pub check_end_position : BspFileSection → ℕ → Step (Unit {0})
check_end_position z p = cond (eqb p (z.offset + z.size)) (ok tt p) (refused 7)
