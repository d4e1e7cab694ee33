-- The hall's own body sizes (document 02, Note 10): what a file of them says, sentence by sentence. It is a row of fields, each a one-byte
-- tag, a two-byte little-endian length and the value.
use Rattle.std.specs.Prelude.{ℕ, zero, suc, ◌+◌, ◌*◌, Bool, true, cond, ◌&&◌, ◌||◌, List, [], ◌∷◌, leb, eqb, length, get_or, Float}
use Rattle.std.specs.Float.Ieee as Ieee
use Rattle.std.specs.Float.{binary32}
use Rattle.std.specs.Float.Ieee.{of_bits}
use Rattle.std.specs.Float.Ieee.Scale.{finite}
use Rattle.format.specs.Answer.{Answer, answer, refused}
use Rattle.math.specs.Vector.{vector}
use Rattle.math.specs.declared.vector.Vector3.{Vector3}
use Rattle.sizes.specs.declared.Bounds.{Bounds}
use Rattle.sizes.specs.declared.BodySizes.{BodySizes}

-- ---- the row of fields

-- a field: its tag, the length that it says, and the place of its value in the file
pub record Field : Type 0 where
  pub tag : ℕ
  pub size : ℕ
  pub place : ℕ

abbrev pub size_at : List ℕ → ℕ → ℕ
size_at s at = get_or s (at + 1) 0 + 256 * get_or s (at + 2) 0

abbrev pub field_at : List ℕ → ℕ → Field
field_at s at = record { tag = get_or s at 0; size = size_at s at; place = at + 3 }

-- the fields that the bytes are a row of, or that one is cut short
pub data FieldRow : Type 0 where
  row : List Field → FieldRow
  cut_short : FieldRow

abbrev pub behind : Field → FieldRow → FieldRow
behind f (row fs) = row (f ∷ fs)
behind f cut_short = cut_short

-- the field at a place and those behind it: tag and length are there, and so are as many bytes as the length says
abbrev pub field_then : List ℕ → ℕ → (ℕ → FieldRow) → FieldRow
field_then s at rest =
    cond (leb (at + 3) (length s) && leb (at + 3 + size_at s at) (length s))
    (behind (field_at s at) (rest (at + 3 + size_at s at)))
    cut_short

-- the row from a place on; it has no more fields than the file has bytes
unfoldable pub row_from : ℕ → List ℕ → ℕ → FieldRow
row_from zero s at = cond (eqb at (length s)) (row []) cut_short
row_from (suc k) s at = cond (eqb at (length s)) (row []) (field_then s at (row_from k s))

-- ---- 26

-- tag 1 is hull 1 and tag 2 is hull 2, each 24 bytes
abbrev pub is_known : Field → Bool
is_known f = (eqb f.tag 1 || eqb f.tag 2) && eqb f.size 24

abbrev pub all_known : List Field → Bool
all_known [] = true
all_known (f ∷ fs) = is_known f && all_known fs

-- how often a tag stands in a row
abbrev pub times_of : ℕ → List Field → ℕ
times_of t [] = 0
times_of t (f ∷ fs) = cond (eqb f.tag t) 1 0 + times_of t fs

-- no unknown tag, no wrong length, both tags exactly once
abbrev pub is_whole : List Field → Bool
is_whole fs = all_known fs && (eqb (times_of 1 fs) 1 && eqb (times_of 2 fs) 1)

-- ---- the values

-- the place of a tag's value
abbrev pub place_of : ℕ → List Field → ℕ
place_of t [] = 0
place_of t (f ∷ fs) = cond (eqb f.tag t) f.place (place_of t fs)

-- the f32 of the four bytes at a place, the lowest first
abbrev pub float_in : List ℕ → ℕ → Float
float_in s p = of_bits binary32 (get_or s p 0 + 256 * get_or s (p + 1) 0 + 65536 * get_or s (p + 2) 0 + 16777216 * get_or s (p + 3) 0)

abbrev pub vector_in : List ℕ → ℕ → Vector3
vector_in s p = vector (float_in s p) (float_in s (p + 4)) (float_in s (p + 8))

abbrev pub bounds : Vector3 → Vector3 → Bounds
bounds lo hi = record { mins = lo; maxs = hi }

abbrev pub body_sizes : Bounds → Bounds → BodySizes
body_sizes one two = record { hull_1 = one; hull_2 = two }

-- mins, then maxs
abbrev pub bounds_in : List ℕ → ℕ → Bounds
bounds_in s p = bounds (vector_in s p) (vector_in s (p + 12))

-- hull 1's value at one place and hull 2's at another
abbrev pub sizes_in : List ℕ → ℕ → ℕ → BodySizes
sizes_in s one two = body_sizes (bounds_in s one) (bounds_in s two)

-- ---- 27

-- both bounds are finite, and the minimum is below the maximum
abbrev pub is_span : Float → Float → Bool
is_span lo hi = finite lo && (finite hi && Ieee.lt lo hi)

abbrev pub is_body : Bounds → Bool
is_body b = is_span b.mins.x b.maxs.x && (is_span b.mins.y b.maxs.y && is_span b.mins.z b.maxs.z)

abbrev pub are_bodies : BodySizes → Bool
are_bodies z = is_body z.hull_1 && is_body z.hull_2

abbrev pub judged : BodySizes → Answer BodySizes
judged z = cond (are_bodies z) (answer z) (refused 27)

-- ---- the file

abbrev pub judged_row : List ℕ → FieldRow → Answer BodySizes
judged_row s (row fs) = cond (is_whole fs) (judged (sizes_in s (place_of 1 fs) (place_of 2 fs))) (refused 26)
judged_row s cut_short = refused 26

unfoldable pub sizes_of : List ℕ → Answer BodySizes
sizes_of s = judged_row s (row_from (length s) s 0)

-- a field with this tag and a length of 24 starts at a place
abbrev pub starts_field : List ℕ → ℕ → ℕ → Bool
starts_field s at t = eqb (get_or s at 0) t && (eqb (get_or s (at + 1) 0) 24 && eqb (get_or s (at + 2) 0) 0)
