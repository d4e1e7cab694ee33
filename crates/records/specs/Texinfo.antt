-- Texture infos (`load_texinfo`), with the file's texture number, which may equal the texture count.
use Rattle.std.specs.Prelude.{ℕ, List, Bool, true, false, cond, eqb, Float}
use Rattle.math.specs.declared.vector.Vector3.{Vector3}
use Rattle.format.specs.Step.{Step, ok, refused, and_then}
use Rattle.format.specs.Answer.{Answer}
use Rattle.format.specs.Field.{f32_at, index_at}
use Rattle.format.specs.declared.section.BspData.{BspData}
use Rattle.format.specs.declared.section.BspFileSectionId.TheVariants.{TextureInfo}
use Rattle.records.specs.Access.{record_of}
use Rattle.records.specs.Number.{number_at}
use Rattle.records.specs.Triple.{vector_at}
use Rattle.records.specs.declared.texinfo.BspTexInfo.{BspTexInfo}

-- 0 or 1
abbrev pub flag : ℕ → ℕ → Step Bool
flag n p = cond (eqb n 0) (ok false p) (cond (eqb n 1) (ok true p) (refused 10))

unfoldable pub flag_at : List ℕ → ℕ → Step Bool
flag_at s at = and_then (index_at 10 s at) (λ n p. flag n p)

-- what follows the second vector
unfoldable pub texinfo_end_at : ℕ → Vector3 → Float → Vector3 → List ℕ → ℕ → Step BspTexInfo
texinfo_end_at textures sVector sOffset tVector s at =
    and_then (f32_at s at) (λ tOffset p.
    and_then (number_at textures s p) (λ texture q.
    and_then (flag_at s q) (λ special next.
    ok (record {
      s_vector = sVector;
      s_offset = sOffset;
      t_vector = tVector;
      t_offset = tOffset;
      tex_id = texture;
      special = special;
    }) next)))

unfoldable pub texinfo_at : ℕ → List ℕ → ℕ → Step BspTexInfo
texinfo_at textures s at =
    and_then (vector_at s at) (λ sVector p.
    and_then (f32_at s p) (λ sOffset q.
    and_then (vector_at s q) (λ tVector t.
    texinfo_end_at textures sVector sOffset tVector s t)))

-- by index
abbrev pub texinfo_of : List ℕ → BspData → ℕ → Answer BspTexInfo
texinfo_of s m i = record_of TextureInfo (texinfo_at m.texture_count) s m i
