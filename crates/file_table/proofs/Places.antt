-- The places of specs/Places.antt, computed. Assumes nothing.
use mathlib.Core.Path.{◌≡◌, refl}
use lib.Ieee.{of_bits}
use Rattle.format.specs.Code.{contents_of, negated_contents}
use Rattle.format.specs.Field.{u16_at, u32_at, i16_at, i32_at, f32_at, index_at}
use Rattle.format.specs.Section.{record_count}
use Rattle.records.specs.Leaf.{contents_at, leaf_end_at, leaf_at}
use Rattle.records.specs.Number.{number_at, index16_at, offset_of, offset_at}
use Rattle.records.specs.Triple.{vector_at, point_at}
use Rattle.models.specs.Model.{bounds_at, roots_at, file_model_end_at, file_model_at}
use Rattle.models.specs.Text.{text_end}
use Rattle.sections.specs.Records.{records, section, blob}
use Rattle.sections.specs.Table.{is_multiple, section_at, three_sections_at, table_end_at, table_at, is_version, header_at, exceeds, limits, limits_from_leaves}
use Rattle.utf8.specs.Unicode.{lead, next_of, run, whole, is_utf8}
use Rattle.textures.specs.Count.{any}
use Rattle.textures.specs.Group.{sequenced}
use Rattle.textures.specs.Section as Textures
use Rattle.texture_list.specs.List.{listed, textures_at}
use Rattle.load.specs.Entities.{entities}
use Rattle.load.specs.Extents.{face_extents}
use Rattle.load.specs.Tested.{texinfos, faces, leaf_references}
use Rattle.place.specs.Stop.{stops}
use Rattle.place.specs.Part.{record_at, section_span, span_of, stop_in}
use Rattle.place.specs.Place.{header_stop, place_of}
use Rattle.ffi_place.specs.Calls.{bsp_load_place}
use Rattle.file_table.specs.Places.{places, meant}

pub as_meant : places ≡ meant
unfolding places meant bsp_load_place place_of header_stop stop_in stops span_of section_span record_at header_at i16_at u16_at i32_at u32_at f32_at is_version table_at three_sections_at section_at is_multiple index_at table_end_at limits limits_from_leaves exceeds record_count entities text_end is_utf8 run next_of lead whole Textures.textures textures_at listed sequenced any section records number_at index16_at offset_of offset_at blob texinfos faces leaf_at contents_at leaf_end_at negated_contents contents_of face_extents leaf_references file_model_at file_model_end_at bounds_at roots_at vector_at point_at of_bits
as_meant = refl
