-- What the call says, and what it leaves in the two lent lists: the marks as the tree check leaves them, the set in the other.
use Rattle.std.specs.Prelude.{ℕ, List, Float}
use Rattle.format.specs.Answer.{Answer, answer, refused, mapped, then_answer}
use Rattle.words.specs.Words.{Left, left, enough, beside, given, number_words, map_length, map_of}
use Rattle.walk.specs.TreeCheck.{Checked}
use Rattle.walk.specs.BoxWalk.{box_contents}
use Rattle.hull.specs.Hull.{hull_table}
use Rattle.ffi_hull.specs.Layout.{hull_asked, point_at, hull_from}

-- what a hull's check leaves: its marks, and the answer's word in `out`; where the words are no hull's, both lists as they were
abbrev pub checked_on : Answer Checked → List ℕ → List ℕ → Left
checked_on (answer k) marks out = beside k.marks (given (mapped number_words k.answer) out)
checked_on (refused n) marks out = left n marks out

unfoldable pub bsp_contents_box : List ℕ → List ℕ → List ℕ → List Float → List ℕ → List ℕ → Left
bsp_contents_box s map hull bounds marks out =
    enough map_length map marks out (enough hull_asked hull marks out (enough 6 bounds marks out (enough 1 out marks out
    (checked_on (then_answer (hull_from hull) (λ h.
    answer (box_contents (hull_table s (map_of map) h) (point_at bounds 0) (point_at bounds 3) marks h.node_id))) marks out))))
