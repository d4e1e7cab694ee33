-- Where three files are refused, or that they load, by the call for C: beside what its definition says, what the file was made for.
-- proofs/Places.antt computes them.
use Rattle.std.specs.Prelude.{ℕ, List, [], ◌∷◌, replicate}
use Rattle.trial_table.specs.Trials.{smallest, two_leaves}
use Rattle.ffi_place.specs.Calls.{bsp_load_place}

-- the four words of a place
abbrev pub place_in : List ℕ → List ℕ
place_in s = (bsp_load_place s (replicate 4 9)).list

-- number, section, record, byte: the header's version, the second leaf, and a file that loads
unfoldable pub places : List (List ℕ)
places = place_in (smallest 28 64) ∷ place_in two_leaves ∷ place_in (smallest 29 64) ∷ []

unfoldable pub meant : List (List ℕ)
meant =
    (2 ∷ 15 ∷ 0 ∷ 0 ∷ [])
    ∷ (10 ∷ 10 ∷ 1 ∷ 221 ∷ [])
    ∷ (0 ∷ 0 ∷ 0 ∷ 0 ∷ [])
    ∷ []
