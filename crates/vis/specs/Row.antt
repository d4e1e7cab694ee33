-- The visibility row of a leaf, by the rule of the Quake Specifications. Counting starts at leaf 1. A zero byte is followed by a count n
-- and stands for 8 n leaves that are not visible. Any other byte covers 8 leaves, lowest bit first, a set bit for a visible leaf. The row
-- ends when the count reaches the number of leaves; of its last byte the bits past the last leaf are not read (document 02, note 3).
use Rattle.std.specs.Prelude.{ℕ, zero, suc, ◌+◌, ◌-◌, ◌*◌, ◌/◌, ◌%◌, min, Bool, true, false, cond, List, [], ◌∷◌, ◌++◌, eqb, ltb, length, drop, replicate}
use Rattle.format.specs.Answer.{Answer, answer, refused, mapped}

-- the n lowest bits of a number, lowest first
unfoldable pub bits : ℕ → ℕ → List Bool
bits zero b = []
bits (suc n) b = eqb (b % 2) 1 ∷ bits n (b / 2)

-- these, and then what the rest of the row gives
abbrev pub before : {A : Type 0} → List A → Answer (List A) → Answer (List A)
before first rest = mapped (λ more. first ++ more) rest

-- how many bits of a byte are those of leaves below the count, the lowest being that of `leaf`
abbrev pub in_byte : ℕ → ℕ → ℕ
in_byte count leaf = min 8 (count - leaf)

-- The bits of a row, the first of them that of `leaf`, until the number of leaves, `count`, is reached. 33 where the bytes end before. A run
-- of leaves that are not visible may reach past the count.
unfoldable pub row_bits : ℕ → ℕ → List ℕ → Answer (List Bool)
row_bits count leaf [] = cond (ltb leaf count) (refused 33) (answer [])
row_bits count leaf (zero ∷ []) = cond (ltb leaf count) (refused 33) (answer [])
row_bits count leaf (zero ∷ n ∷ bytes) =
    cond (ltb leaf count) (before (replicate (8 * n) false) (row_bits count (leaf + 8 * n) bytes)) (answer [])
row_bits count leaf (suc b ∷ bytes) = cond (ltb leaf count) (before (bits (in_byte count leaf) (suc b)) (row_bits count (leaf + 8) bytes)) (answer [])

-- the leaves whose bits are set, in order, the first bit being that of `leaf`
unfoldable pub visible : ℕ → List Bool → List ℕ
visible leaf [] = []
visible leaf (true ∷ more) = leaf ∷ visible (leaf + 1) more
visible leaf (false ∷ more) = visible (leaf + 1) more

-- the leaves that a byte lists, its lowest bit being that of `leaf`
abbrev pub byte_leaves : ℕ → ℕ → List ℕ
byte_leaves leaf byte = visible leaf (bits 8 byte)

-- the leaves that the bytes of a row list, from `leaf` on
abbrev pub row_from : ℕ → ℕ → List ℕ → Answer (List ℕ)
row_from count leaf bytes = mapped (visible leaf) (row_bits count leaf bytes)

-- The leaves that the row at an offset of the visibility data lists. An offset past the data is refused; one at its end is not past it.
unfoldable pub row_at : List ℕ → ℕ → ℕ → Answer (List ℕ)
row_at visibility offset count = cond (ltb (length visibility) offset) (refused 33) (row_from count 1 (drop offset visibility))

-- the entries of a list that are below the count
unfoldable pub below : ℕ → List ℕ → List ℕ
below count [] = []
below count (leaf ∷ more) = cond (ltb leaf count) (leaf ∷ below count more) (below count more)
