-- For the contracts of functions below the calls; a reader of the calls may leave this file out.
-- The kinds of textures that a search asks for, by names and by keys.
use Rattle.std.specs.Prelude.{Option, Some, None, ℕ, ◌+◌, ◌*◌, Bool, not, ◌&&◌, ◌||◌, List, eqb, leb}
use Rattle.format.specs.Step.{Step, ok, refused}
use Rattle.records.specs.Number.{offset_at}
use Rattle.texture_list.specs.Name.{is_animated, frame_of, is_primary, is_alternate}
use Rattle.texture_list.specs.Key.{key_at}
use Rattle.texture_list.specs.declared.kind.Key.{Key}
use Rattle.texture_list.specs.declared.kind.Kind.{Kind}
use Rattle.texture_list.specs.declared.kind.Kind.TheVariants.{Animated, Primary, Alternate}

unfoldable pub is_of : Kind → List ℕ → Bool
is_of Animated c = is_animated c
is_of Primary c = is_primary c
is_of Alternate c = is_alternate c

-- the same by a name's first byte and its frame
unfoldable pub is_kind : Kind → Key → Bool
is_kind Animated k = eqb k.first 43
is_kind Primary k = eqb k.first 43 && (leb 48 k.frame && leb k.frame 57)
is_kind Alternate k = eqb k.first 43 && (leb 97 k.frame && leb k.frame 106)

abbrev pub no_key : Key
no_key = record { first = 0; frame = 0; stem = record { start = 0; end = 0 } }

abbrev pub key_by : List ℕ → ℕ → Step (Option ℕ) → Key
key_by s base (ok None p) = no_key
key_by s base (ok (Some offset) p) = key_at s (base + offset)
key_by s base (refused n) = no_key

-- the key of a texture by its number in the file
unfoldable pub key_of : List ℕ → ℕ → ℕ → Key
key_of s base i = key_by s base (offset_at s (base + 4 + 4 * i))

-- what the table of stems is filled and searched by: which textures are of a kind, and the numbers of their stems
abbrev pub passing : List ℕ → ℕ → Kind → ℕ → Bool
passing s base kind i = is_kind kind (key_of s base i)

abbrev pub starts : List ℕ → ℕ → ℕ → ℕ
starts s base i = (key_of s base i).stem.start

abbrev pub ends : List ℕ → ℕ → ℕ → ℕ
ends s base i = (key_of s base i).stem.end

-- a frame letter that is missing or wrong
unfoldable pub is_wrong_key : Key → Bool
is_wrong_key k = eqb k.first 43 && not ((leb 48 k.frame && leb k.frame 57) || (leb 97 k.frame && leb k.frame 106))

-- ---- the groups of a stem

-- a name whose frame is one of the ten from `lo` on: primary from 48 (0) on, alternate from 97 (a) on
abbrev pub lettered : ℕ → List ℕ → Bool
lettered lo c = is_animated c && (leb lo (frame_of c) && leb (frame_of c) (lo + 9))

-- texture i has such a name, and the stem of two numbers
unfoldable pub grouped : ℕ → List ℕ → ℕ → ℕ → ℕ → ℕ → Bool
grouped lo s base a b i =
    (eqb (key_of s base i).first 43 && (leb lo (key_of s base i).frame && leb (key_of s base i).frame (lo + 9)))
    && (eqb a (key_of s base i).stem.start && eqb b (key_of s base i).stem.end)

-- a name with one frame and the stem of two numbers
unfoldable pub is_frame : Key → ℕ → ℕ → ℕ → Bool
is_frame k a b letter = eqb k.first 43 && (eqb k.frame letter && (eqb a k.stem.start && eqb b k.stem.end))

abbrev pub framed : List ℕ → ℕ → ℕ → ℕ → ℕ → ℕ → Bool
framed s base a b letter i = is_frame (key_of s base i) a b letter

abbrev pub frames : List ℕ → ℕ → ℕ → ℕ
frames s base i = (key_of s base i).frame
