-- Note 10 about the two calls together: 'An accepted file replaces the two built-in rows in every hull answer.' What `bsp_body_sizes` wrote of
-- a file, handed to `bsp_hull_sized`, gives the hull with the sizes that the file spells. proofs/FromFile.antt proves `FromFile`.
use Rattle.std.specs.Prelude.{ℕ, ◌≤◌, List, ◌≡◌, length}
use Rattle.format.specs.Answer.{answer, mapped}
use Rattle.words.specs.Words.{given, at_least, map_length, map_of}
use Rattle.sizes.specs.Sizes.{sizes_of}
use Rattle.sizes.specs.declared.BodySizes.{BodySizes}
use Rattle.sized_hulls.specs.Sized.{hull_sized}
use Rattle.ffi_hull.specs.Layout.{hull_length, hull_words}
use Rattle.ffi_sizes.specs.Layout.{sizes_length, sizes_from}
use Rattle.ffi_sizes.specs.Calls.{bsp_body_sizes, bsp_hull_sized}

-- of the bytes of a file and the list that is lent for its sizes
pub record Replaces (bytes sizes : List ℕ) (z : BodySizes) : Type 0 where
  pub answered : (bsp_body_sizes bytes sizes).status ≡ 0
  pub read_back : sizes_from (bsp_body_sizes bytes sizes).list ≡ z
  pub hull : (s m : List ℕ) (i j : ℕ) (out : List ℕ)
      → bsp_hull_sized s m (bsp_body_sizes bytes sizes).list i j out
      ≡ at_least map_length m out (at_least hull_length out out (given (mapped hull_words (hull_sized s (map_of m) z i j)) out))

abbrev pub FromFile : Type 0
FromFile = (bytes sizes : List ℕ) (z : BodySizes) → sizes_length ≤ length sizes → sizes_of bytes ≡ answer z → Replaces bytes sizes z
