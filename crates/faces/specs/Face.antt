-- Faces as the file has them. A face's plane number and its texture info's may equal their counts.
use Rattle.std.specs.Prelude.{ℕ, cond, List, eqb, pos}
use Rattle.format.specs.Step.{Step, ok, refused, and_then}
use Rattle.format.specs.Answer.{Answer}
use Rattle.format.specs.Field.{u8_at, index_at}
use Rattle.format.specs.Section.{record_count}
use Rattle.format.specs.declared.section.BspData.{BspData}
use Rattle.format.specs.declared.section.BspFileSectionId.TheVariants.{Planes, TextureInfo, Faces}
use Rattle.records.specs.Access.{record_of}
use Rattle.records.specs.Number.{index16_at, number16_at, count_at, offset_at}
use Rattle.faces.specs.declared.face.BspFaceSide.{BspFaceSide}
use Rattle.faces.specs.declared.face.BspFaceSide.TheVariants.{Front, Back}
use Rattle.faces.specs.declared.face.LightStyles.{LightStyles}
use Rattle.faces.specs.declared.face.BspFace.{BspFace}

-- 0 or 1
abbrev pub side_of : ℕ → ℕ → Step BspFaceSide
side_of n p = cond (eqb n 0) (ok Front p) (cond (eqb n 1) (ok Back p) (refused 10))

unfoldable pub side_at : List ℕ → ℕ → Step BspFaceSide
side_at s at = and_then (index16_at s at) (λ n p. side_of n p)

unfoldable pub styles_at : List ℕ → ℕ → Step LightStyles
styles_at s at =
    and_then (u8_at s at) (λ a p.
    and_then (u8_at s p) (λ b q.
    and_then (u8_at s q) (λ c t.
    and_then (u8_at s t) (λ d next.
    ok (record { style_0 = a; style_1 = b; style_2 = c; style_3 = d }) next))))

-- the light styles and the lightmap; the texture mins and extents are 0 as yet
unfoldable pub face_light_at : ℕ → BspFaceSide → ℕ → ℕ → ℕ → List ℕ → ℕ → Step BspFace
face_light_at plane side edge count info s at =
    and_then (styles_at s at) (λ styles p.
    and_then (offset_at s p) (λ lightmap next.
    ok (record {
      plane_id = plane;
      side = side;
      edge_id = edge;
      edge_count = count;
      texinfo_id = info;
      light_styles = styles;
      lightmap_id = lightmap;
      texture_mins = record { s = pos 0; t = pos 0 };
      extents = record { s = pos 0; t = pos 0 };
    }) next))

-- the edge count and the texture info, and what follows
unfoldable pub face_end_at : ℕ → ℕ → BspFaceSide → ℕ → List ℕ → ℕ → Step BspFace
face_end_at infos plane side edge s at =
    and_then (count_at 3 s at) (λ count p.
    and_then (number16_at infos s p) (λ info q.
    face_light_at plane side edge count info s q))

unfoldable pub face_at : ℕ → ℕ → List ℕ → ℕ → Step BspFace
face_at planes infos s at =
    and_then (number16_at planes s at) (λ plane p.
    and_then (side_at s p) (λ side q.
    and_then (index_at 10 s q) (λ edge t.
    face_end_at infos plane side edge s t)))

-- by index, with texture mins and extents of 0
abbrev pub file_face_of : List ℕ → BspData → ℕ → Answer BspFace
file_face_of s m i = record_of Faces (face_at (record_count Planes m.planes) (record_count TextureInfo m.texinfo)) s m i
