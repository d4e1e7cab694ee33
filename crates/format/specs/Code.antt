-- The contents of a leaf from their code, `BspLeafContents::from_i16` and `from_i32`, with 6 for Sky (document 02, note 1): 1 to 6 and 9 to 14. A
-- file has the codes negated.
use Rattle.std.specs.Prelude.{Option, Some, None, ℕ, cond, eqb, ℤ, pos, negsuc, neg_ℤ}
use Rattle.std.specs.Int.{Width}
use Rattle.std.proofs.Common.{to_z, of_z}
use Rattle.format.specs.declared.contents.BspLeafContents.{BspLeafContents}
use Rattle.format.specs.declared.contents.BspLeafContents.TheVariants.{Empty, Solid, Water, Slime, Lava, Sky, Current0, Current90, Current180, Current270, CurrentUp, CurrentDown}

unfoldable pub contents_of : ℕ → Option BspLeafContents
contents_of n =
    cond (eqb n 1) (Some Empty)
    (cond (eqb n 2) (Some Solid)
    (cond (eqb n 3) (Some Water)
    (cond (eqb n 4) (Some Slime)
    (cond (eqb n 5) (Some Lava)
    (cond (eqb n 6) (Some Sky)
    (cond (eqb n 9) (Some Current0)
    (cond (eqb n 10) (Some Current90)
    (cond (eqb n 11) (Some Current180)
    (cond (eqb n 12) (Some Current270)
    (cond (eqb n 13) (Some CurrentUp)
    (cond (eqb n 14) (Some CurrentDown)
    None)))))))))))

-- a code that is negative stands for nothing
abbrev pub contents_of_signed : ℤ → Option BspLeafContents
contents_of_signed (pos n) = contents_of n
contents_of_signed (negsuc n) = None

-- Rust's `-x` of a signed number: in two's complement, so that the least number is its own negation
abbrev pub negated : Width → ℤ → ℤ
negated w x = to_z w (of_z w (neg_ℤ x))

-- the contents of the code -x
unfoldable pub negated_contents : Width → ℤ → Option BspLeafContents
negated_contents w x = contents_of_signed (negated w x)
