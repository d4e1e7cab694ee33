-- What the calls for C that load a file, or answer its records, texts and textures, say where a list is a word too short (22), or where a number
-- names no section or no record (20): beside what a call's definition says, what include/bsp29.h says. proofs/Calls.antt computes them all.
use Rattle.std.specs.Prelude.{ℕ, List, [], ◌∷◌, replicate}
use Rattle.ffi_load.specs.Calls.{bsp_load}
use Rattle.ffi_place.specs.Calls.{bsp_load_place}
use Rattle.ffi_records.specs.Calls.{bsp_record}
use Rattle.ffi_counts.specs.Calls.{bsp_count, bsp_entities}
use Rattle.ffi_textures.specs.Calls.{bsp_texture, bsp_texture_frame, bsp_texture_static}

pub record Trial : Type 0 where
  pub definition : ℕ
  pub header : ℕ

infix 4 ◌gives◌
abbrev pub ◌gives◌ : ℕ → ℕ → Trial
d gives n = record { definition = d; header = n }

-- so many words, all of them 0
abbrev pub words : ℕ → List ℕ
words n = replicate n 0

-- each call is handed the empty file
unfoldable pub trials : List Trial
trials =
    -- a map record has 31 words
    ((bsp_load [] (words 30)).status gives 22)
    -- a place has four words, a record up to 20, an entity text two
    ∷ ((bsp_load_place [] (words 3)).status gives 22)
    ∷ ((bsp_record [] (words 31) 14 0 (words 19)).status gives 22)
    ∷ ((bsp_entities [] (words 31) (words 1)).status gives 22)
    -- an index at the count is 20, though the record could not be read either (23)
    ∷ ((bsp_record [] (words 31) 14 0 (words 20)).status gives 20)
    -- the textures (2) are no section of records; there is no section 15
    ∷ ((bsp_record [] (words 31) 2 0 (words 20)).status gives 20)
    ∷ ((bsp_count (words 31) 15 (words 1)).status gives 20)
    -- a texture has five words, the number of a frame or of a static one a word
    ∷ ((bsp_texture [] (words 31) 0 (words 4)).status gives 22)
    ∷ ((bsp_texture_frame [] (words 31) 0 0 0 []).status gives 22)
    ∷ ((bsp_texture_static [] (words 31) 0 []).status gives 22)
    ∷ []
