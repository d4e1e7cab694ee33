-- The contents of a leaf and their codes, as the Rust's `BspLeafContents` numbers them; and Sky, which document 02, note 1, adds: the number is
-- that of the Quake Specifications.
use Rattle.std.specs.Prelude.{ℕ, Bool, eqb}
use Rattle.format.specs.declared.contents.BspLeafContents.{BspLeafContents}
use Rattle.format.specs.declared.contents.BspLeafContents.TheVariants.{Empty, Solid, Water, Slime, Lava, Sky, Current0, Current90, Current180, Current270, CurrentUp, CurrentDown}

abbrev pub code_of : BspLeafContents → ℕ
code_of Empty = 1
code_of Solid = 2
code_of Water = 3
code_of Slime = 4
code_of Lava = 5
code_of Sky = 6
code_of Current0 = 9
code_of Current90 = 10
code_of Current180 = 11
code_of Current270 = 12
code_of CurrentUp = 13
code_of CurrentDown = 14

-- Rust's `==`: two contents are equal if their codes are
unfoldable pub equal : BspLeafContents → BspLeafContents → Bool
equal a b = eqb (code_of a) (code_of b)
