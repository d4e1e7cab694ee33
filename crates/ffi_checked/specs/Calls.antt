-- What `bsp_hull_check` says, and what it leaves in the two lent lists: the marks as the tree check leaves them, and the filled hull.
use Rattle.std.specs.Prelude.{ℕ, List}
use Rattle.format.specs.Answer.{Answer, answer, refused, mapped}
use Rattle.words.specs.Words.{Left, left, given, enough, beside, map_length, map_of}
use Rattle.hull.specs.Hull.{HullChecked, check_hull}
use Rattle.hull.specs.declared.collision.BspCollisionHull.{BspCollisionHull}
use Rattle.ffi_hull.specs.Layout.{hull_length, hull_asked, hull_from, hull_words}

-- the marks, and the hull in `out`
abbrev pub filled_in : HullChecked → List ℕ → Left
filled_in k out = beside k.marks (given (mapped hull_words k.answer) out)

abbrev pub hull_check_of : Answer BspCollisionHull → List ℕ → List ℕ → List ℕ → List ℕ → Left
hull_check_of (answer h) s map marks out = filled_in (check_hull s (map_of map) h marks) out
hull_check_of (refused n) s map marks out = left n marks out

unfoldable pub bsp_hull_check : List ℕ → List ℕ → List ℕ → List ℕ → List ℕ → Left
bsp_hull_check s map hull marks out =
    enough map_length map marks out (enough hull_asked hull marks out (enough hull_length out marks out
    (hull_check_of (hull_from hull) s map marks out)))
