-- The table of specs/Calls.antt, computed. Assumes nothing.
use mathlib.Core.List.{map}
use mathlib.Core.Path.{◌≡◌, refl}
use Rattle.format.specs.Section.{section_numbered, record_count, place}
use Rattle.records.specs.Access.{record_of}
use Rattle.models.specs.Model.{model_of, leaf_id_of}
use Rattle.ffi_load.specs.Calls.{bsp_load}
use Rattle.ffi_place.specs.Calls.{bsp_load_place}
use Rattle.ffi_records.specs.Calls.{bsp_record, record_in}
use Rattle.ffi_counts.specs.Calls.{bsp_count, bsp_entities}
use Rattle.ffi_textures.specs.Calls.{bsp_texture, bsp_texture_frame, bsp_texture_static}
use Rattle.load_table.specs.Calls.{trials}

pub all_hold : map (λ t. t.definition) trials ≡ map (λ t. t.header) trials
unfolding trials record_count place record_of model_of leaf_id_of bsp_load bsp_load_place bsp_record record_in bsp_count bsp_entities section_numbered bsp_texture bsp_texture_frame bsp_texture_static
all_hold = refl
