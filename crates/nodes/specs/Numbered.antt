-- For the contracts of functions below the calls; a reader of the calls may leave this file out.
-- Planes by their number, as the readers of `numbered.rt` go by them: from the bytes of those that can be read. Contracts of `ordered` that
-- another crate cannot name cite these; the planes are those of Tables.antt (`numbered_is` in proofs/Numbering.antt).
use Rattle.std.specs.Prelude.{ℕ, ◌+◌, ◌*◌, ◌/◌, cond, List, length, take, drop, nat_le, nat_lt}
use Rattle.format.specs.Answer.{Answer, answer, refused, mapped}
use Rattle.format.specs.declared.section.BspFileSection.{BspFileSection}
use Rattle.math.specs.declared.plane.Hyperplane.{Hyperplane}
use Rattle.math.specs.declared.plane.HyperplaneSide.{HyperplaneSide}
use Rattle.math.specs.declared.plane.HyperplaneSide.TheVariants.{Positive, Negative}
use Rattle.nodes.specs.Fast.{plane_here}

-- the limit allows all planes or none
abbrev pub allowed : ℕ → ℕ
allowed n = cond (nat_lt 8192 n) 0 n

-- the bytes of the planes that can be read, as far as the file has them
unfoldable pub readable : List ℕ → BspFileSection → List ℕ
readable s z = take (allowed (z.size / 20) * 20) (drop z.offset s)

-- the plane of a number, of so many, in these bytes
unfoldable pub plane_among : List ℕ → ℕ → ℕ → Answer Hyperplane
plane_among bs count i =
    cond (nat_le count i) (refused 20)
    (cond (nat_le (i * 20 + 20) (length bs)) (answer (plane_here bs (i * 20))) (refused 23))

-- its number (30), then the plane
unfoldable pub plane_numbered : List ℕ → ℕ → ℕ → Answer Hyperplane
plane_numbered bs count i = cond (nat_lt i count) (plane_among bs count i) (refused 30)

-- of two numbers the one on a side
abbrev pub side_of : ℕ → ℕ → HyperplaneSide → ℕ
side_of f b Positive = f
side_of f b Negative = b

abbrev pub picked_by : ℕ → ℕ → Answer HyperplaneSide → Answer ℕ
picked_by f b a = mapped (side_of f b) a
