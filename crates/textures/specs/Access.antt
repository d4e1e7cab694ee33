-- The accessors of textures on a map record, loaded or made by hand (Note 2). The section's offset and the number of textures are the record's; the
-- count in the file and the section's size are not looked at.
use Rattle.std.specs.Prelude.{ℕ, Bool, true, false, ◌&&◌, cond, List, eqb, leb}
use Rattle.format.specs.Answer.{Answer, answer, refused, then_answer}
use Rattle.format.specs.Step.{Step, and_then}
use Rattle.format.specs.declared.section.BspData.{BspData}
use Rattle.records.specs.Texinfo.{texinfo_of}
use Rattle.records.specs.declared.texinfo.BspTexInfo.{BspTexInfo}
use Rattle.texture_list.specs.Name.{is_primary, is_alternate}
use Rattle.textures.specs.Group.{sequenced, numbered_by, static_by, frame_by}
use Rattle.texture_list.specs.List.{textures_at, names_of}

-- the names of the map record's textures, by their numbers in the file
abbrev pub names_in : List ℕ → BspData → ℕ → List ℕ
names_in s m = names_of s m.textures.offset

abbrev pub passes : Step (Unit {0}) → Bool
passes (Step.ok u p) = true
passes (Step.refused n) = false

-- A section of n textures reads as it does on loading, its end position aside: the count is within its limit, and no offset, header, frame
-- letter or group is refused.
unfoldable pub sound_at : List ℕ → ℕ → ℕ → Bool
sound_at s base n = leb n 2097152 && passes (and_then (textures_at s base n) (λ u p. sequenced (names_of s base) n))

abbrev pub is_sound : List ℕ → BspData → Bool
is_sound s m = sound_at s m.textures.offset m.texture_count

-- what is asked of a section that reads, else 23
abbrev pub of_sound : {A : Type 0} → List ℕ → BspData → Answer A → Answer A
of_sound s m a = cond (is_sound s m) a (refused 23)

-- the number in the file of the frame at a place of a group of the texture of a new number: group 0 is the primary one, 1 the alternate one
unfoldable pub frame_texture : List ℕ → BspData → ℕ → ℕ → ℕ → Answer ℕ
frame_texture s m number group place =
    of_sound s m
    (cond (eqb group 0) (frame_by is_primary (names_in s m) m.texture_count number place)
    (cond (eqb group 1) (frame_by is_alternate (names_in s m) m.texture_count number place)
    (refused 20)))

-- the number in the file of the static texture of a new number
unfoldable pub static_texture : List ℕ → BspData → ℕ → Answer ℕ
static_texture s m number = of_sound s m (static_by (names_in s m) m.texture_count number)

-- ---- texture infos

abbrev pub renumbered : BspTexInfo → ℕ → BspTexInfo
renumbered info n = record {
  s_vector = info.s_vector;
  s_offset = info.s_offset;
  t_vector = info.t_vector;
  t_offset = info.t_offset;
  tex_id = n;
  special = info.special;
}

-- a texture info with its texture's new number; 23 where its texture is none of the section's n
unfoldable pub info_at : List ℕ → ℕ → ℕ → BspTexInfo → Answer BspTexInfo
info_at s base n info =
    cond (leb n info.tex_id) (refused 23)
    (cond (sound_at s base n) (answer (renumbered info (numbered_by (names_of s base) n info.tex_id)))
    (refused 23))

-- by index
unfoldable pub texture_info : List ℕ → BspData → ℕ → Answer BspTexInfo
texture_info s m i = then_answer (texinfo_of s m i) (λ info. info_at s m.textures.offset m.texture_count info)
