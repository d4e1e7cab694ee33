-- What the answers of the functions stand for: that the file loads, or the number of the refusal with its place. A reader of the calls may
-- leave this file out.
use Rattle.std.specs.Prelude.{ℕ, Option, Some, None, Result, Ok, Err}
use Rattle.format.specs.Refusal.{number_of}
use Rattle.format.specs.declared.section.BspFileSectionId.{BspFileSectionId}
use Rattle.format.specs.declared.section.BspFileSectionId.TheVariants as Id
use Rattle.place.specs.Place.{Located, loads, refused_at}
use Rattle.place.specs.declared.RefusedAt.{RefusedAt}

-- the number of a section in the directory; 15 is the header
abbrev pub section_number : Option BspFileSectionId → ℕ
section_number (Some Id.Entities) = 0
section_number (Some Id.Planes) = 1
section_number (Some Id.Textures) = 2
section_number (Some Id.Vertices) = 3
section_number (Some Id.Visibility) = 4
section_number (Some Id.RenderNodes) = 5
section_number (Some Id.TextureInfo) = 6
section_number (Some Id.Faces) = 7
section_number (Some Id.Lightmaps) = 8
section_number (Some Id.CollisionNodes) = 9
section_number (Some Id.Leaves) = 10
section_number (Some Id.FaceList) = 11
section_number (Some Id.Edges) = 12
section_number (Some Id.EdgeList) = 13
section_number (Some Id.Models) = 14
section_number None = 15

abbrev pub place_answer : Result (Unit {0}) RefusedAt → Located
place_answer (Ok u) = loads
place_answer (Err r) = refused_at (number_of r.refusal) (section_number r.section) r.stop
