-- The entity section: its text runs through the first zero byte or to the file's end, is at most 65,536 bytes long, its zero counted (8),
-- is UTF-8 (9), and ends where the section does (7). A seek past the file's end leaves an empty text.
use Rattle.std.specs.Prelude.{ℕ, ◌+◌, ◌-◌, cond, List, ltb, length, take, drop}
use Rattle.format.specs.Step.{Step, refused}
use Rattle.format.specs.declared.section.BspFileSection.{BspFileSection}
use Rattle.models.specs.Text.{text_end}
use Rattle.utf8.specs.Unicode.{is_utf8}
use Rattle.sections.specs.Position.{check_end_position}

-- the bytes from a position through the first zero, or to the file's end
abbrev pub text_of : List ℕ → ℕ → List ℕ
text_of s at = take (text_end s at - at) (drop at s)

unfoldable pub entities : List ℕ → BspFileSection → Step (Unit {0})
entities s z =
    cond (ltb 65536 (length (text_of s z.offset))) (refused 8)
    (cond (is_utf8 (text_of s z.offset))
    (check_end_position z (z.offset + length (text_of s z.offset)))
    (refused 9))
