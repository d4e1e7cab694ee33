-- A texture by its number in the file, on a map record, loaded or made by hand (Note 2): whether it is there, its name, width and height. It reads
-- its own header alone.
use Rattle.std.specs.Prelude.{Option, Some, None, ℕ, ◌+◌, ◌*◌, cond, List, leb, ltb, take, drop}
use Rattle.format.specs.Answer.{Answer, refused}
use Rattle.format.specs.Step.{Step, ok, and_then}
use Rattle.format.specs.Field.{u32_at}
use Rattle.format.specs.declared.section.BspData.{BspData}
use Rattle.records.specs.Access.{reading}
use Rattle.records.specs.Number.{offset_at}
use Rattle.texture_list.specs.Name.{name_at, little_endian}
use Rattle.texture_list.specs.List.{texture_at}
use Rattle.texture_list.specs.declared.answer.BspTexture.{BspTexture}

abbrev pub present_texture : List ℕ → ℕ → ℕ → ℕ → BspTexture
present_texture s at width height = record {
  name_start = little_endian (take 8 (name_at s at));
  name_end = little_endian (drop 8 (name_at s at));
  width = width;
  height = height;
}

-- a header that reads as on loading: its name, width and height
unfoldable pub texture_header_at : List ℕ → ℕ → Step BspTexture
texture_header_at s at =
    and_then (texture_at s at) (λ u q.
    and_then (u32_at s (at + 16)) (λ width p.
    and_then (u32_at s p) (λ height next.
    ok (present_texture s at width height) next)))

abbrev pub texture_by : List ℕ → ℕ → Option ℕ → ℕ → Step (Option BspTexture)
texture_by s base None p = ok None p
texture_by s base (Some offset) p = and_then (texture_header_at s (base + offset)) (λ texture next. ok (Some texture) next)

-- texture i of a section of n textures, if it is there
unfoldable pub listed_texture : List ℕ → ℕ → ℕ → ℕ → Answer (Option BspTexture)
listed_texture s base n i =
    cond (leb n i) (refused 20)
    (cond (ltb 2097152 n) (refused 23)
    (reading (and_then (offset_at s (base + 4 + 4 * i)) (λ offset p. texture_by s base offset p))))

abbrev pub texture_of : List ℕ → BspData → ℕ → Answer (Option BspTexture)
texture_of s m i = listed_texture s m.textures.offset m.texture_count i
