-- For the contracts of functions that no other crate can name; a reader of the calls may leave this file out.
-- The rows of a team side by side: what is left of each from its cursor on, eight leaves at a time.
use Rattle.std.specs.Prelude.{◌≡◌, ℕ, ◌+◌, ◌*◌, ◌%◌, ◌^◌, ◌<◌, ◌≤◌, true, cond, List, [], ◌∷◌, length, drop, get_or}
use Rattle.format.specs.Answer.{refused}
use Rattle.vis.specs.Row.{in_byte, row_from, byte_leaves}
use Rattle.team.specs.Team.{holds, seen}
use Rattle.team.specs.Starts.{or_none}

-- the bits of a byte for the leaves below the count, as a byte of their own
abbrev pub kept_bits : ℕ → ℕ → ℕ → ℕ
kept_bits count leaf byte = byte % 2 ^ in_byte count leaf

-- The leaves that a row lists from a cursor on: the position of its next byte, and that byte's group, the eight leaves from 1 + 8 * group on.
abbrev pub rest_of : List ℕ → ℕ → ℕ → ℕ → List ℕ
rest_of visibility count at group = or_none (row_from count (1 + 8 * group) (drop at visibility))

-- the same for each row
unfoldable pub rests_of : List ℕ → ℕ → List ℕ → List ℕ → List (List ℕ)
rests_of visibility count [] groups = []
rests_of visibility count (at ∷ ats) [] = []
rests_of visibility count (at ∷ ats) (group ∷ groups) = rest_of visibility count at group ∷ rests_of visibility count ats groups

-- the rows from their starts on
unfoldable pub rows_at : List ℕ → ℕ → List ℕ → List (List ℕ)
rows_at visibility count [] = []
rows_at visibility count (at ∷ ats) = rest_of visibility count at 0 ∷ rows_at visibility count ats

-- each cursor is in a row that is whole, and has not passed the group `least`
abbrev pub Whole : List ℕ → ℕ → ℕ → ℕ → ℕ → Type 0
Whole visibility count least at group =
    (at ≤ length visibility) × (group ≤ 255 * at) × (least ≤ group) × (row_from count (1 + 8 * group) (drop at visibility) ≡ refused 33 → ⊥)

abbrev pub Cursors : List ℕ → ℕ → ℕ → List ℕ → List ℕ → Type 0
Cursors visibility count least ats groups = (i : ℕ) → i < length ats → Whole visibility count least (get_or ats i 0) (get_or groups i 0)

-- each start is that of a row that is whole
abbrev pub Starts : List ℕ → ℕ → List ℕ → Type 0
Starts visibility count ats = (i : ℕ) → i < length ats → Whole visibility count 0 (get_or ats i 0) 0

-- The rows' lists, taken together, are those of one byte for the group `this` and of the rows from the cursors after it.
abbrev pub Together : List ℕ → ℕ → ℕ → List ℕ → List ℕ → ℕ → List ℕ → List ℕ → Type 0
Together visibility count this ats groups byte ats' groups' =
    (k : ℕ) → seen k (rests_of visibility count ats groups)
    ≡ cond (holds k (byte_leaves (1 + 8 * this) (kept_bits count (1 + 8 * this) byte))) true (seen k (rests_of visibility count ats' groups'))
