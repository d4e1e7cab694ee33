-- The extents of the faces, face by face, the Rust's text after 'see Calc_SurfaceExtents': the texture info, the edges and the vertices
-- of the face (11), and then its extents along s and t (12).
use Rattle.std.specs.Prelude.{ℕ, Bool, not, ◌&&◌, cond, List, ℤ, pos}
use Rattle.std.specs.Int.Signed.{lt_z}
use Rattle.format.specs.Answer.{on_refusal}
use Rattle.format.specs.Section.{record_count}
use Rattle.format.specs.Step.{Step, ok, refused, and_then}
use Rattle.format.specs.declared.section.BspData.{BspData}
use Rattle.format.specs.declared.section.BspFileSectionId.TheVariants.{Planes, TextureInfo, Faces}
use Rattle.faces.specs.Face.{face_at}
use Rattle.faces.specs.Extents.{surface_of}
use Rattle.sections.specs.Records.{each_record}

-- an extent above 2,000, where the texture info is not special
unfoldable pub is_bad : Bool → ℤ → Bool
is_bad special extent = not special && lt_z (pos 2000) extent

-- one face; where a record that it leads to is not there the Rust panics (11)
unfoldable pub extents_at : ℕ → ℕ → BspData → List ℕ → ℕ → Step (Unit {0})
extents_at planes infos m s at =
    and_then (face_at planes infos s at) (λ face next.
    on_refusal (refused 11) (surface_of s m face) (λ x.
    cond (is_bad x.special x.extents.s) (refused 12)
    (cond (is_bad x.special x.extents.t) (refused 12)
    (ok tt next))))

unfoldable pub face_extents : List ℕ → BspData → Step (Unit {0})
face_extents s m = each_record (extents_at (record_count Planes m.planes) (record_count TextureInfo m.texinfo) m) Faces s m.faces
