-- The place of a refusal at the calls that a server makes: for every file, with lists that are long enough, bsp_load_place answers 0, and the number that it
-- writes is the one that bsp_load answers: that of the refusal, or 0 where the file loads. proofs/Places.antt proves `EveryPlace`;
-- place/specs/EveryFile.antt says it of the definition.
use Rattle.std.specs.Prelude.{ℕ, ◌≤◌, List, ◌≡◌, length}
use Rattle.ffi_place.specs.Calls.{place_length, bsp_load_place}
use Rattle.served.specs.Cited.{bsp_load}
use Rattle.served.specs.NamedWords.{word, map_length}

-- of the answer of bsp_load_place: BSP_PLACE_NUMBER
abbrev pub place_number : List ℕ → ℕ
place_number = word 0

abbrev pub EveryPlace : Type 0
EveryPlace =
    (s out lent : List ℕ) → place_length ≤ length out → map_length ≤ length lent
    → ((bsp_load_place s out).status ≡ 0) × (place_number (bsp_load_place s out).list ≡ (bsp_load s lent).status)
