-- Many points on the box of document 01's trials, from -1 to 1 on each axis: what Note 7 says of them. proofs/Trials.antt computes it.
use Rattle.std.specs.Prelude.{ℕ, true, false, List, [], ◌∷◌, pos, Float}
use Rattle.std.specs.Float.{fin}
use Rattle.format.specs.Answer.{answer}
use Rattle.format.specs.Listed.{Listed, listed}
use Rattle.math.specs.Vector.{vector}
use Rattle.nodes.specs.Tables.{box_table}
use Rattle.points.specs.Points.{contents_of_points}

abbrev pub zero32 : Float
zero32 = fin false 0 (pos 0)

abbrev pub one : Float
one = fin false 1 (pos 0)

abbrev pub minus_one : Float
minus_one = fin true 1 (pos 0)

-- the codes and the reads for points of these coordinates, where the lent list has three entries
abbrev pub in_box : List Float → Listed
in_box cs = contents_of_points (box_table (vector minus_one minus_one minus_one) (vector one one one)) 0 cs (9 ∷ 9 ∷ 9 ∷ [])

-- The middle of the box is Solid, six nodes down; (1, 0, 0) is Empty, one node down. That node is read once for both.
unfoldable pub two_points : Listed
two_points = in_box (zero32 ∷ zero32 ∷ zero32 ∷ one ∷ zero32 ∷ zero32 ∷ [])

unfoldable pub meant : Listed
meant = listed (answer 6) (2 ∷ 1 ∷ 9 ∷ [])
