-- The line of specs/Trials.antt, computed. Assumes nothing.
use mathlib.Core.Path.{◌≡◌, refl}
use lib.Ieee.{of_bits, add, sub, mul, div, neg, lt, le, eq, to_signed}
use Rattle.format.specs.Code.{contents_of, negated_contents}
use Rattle.format.specs.Contents.{equal}
use Rattle.format.specs.Field.{u16_at, u32_at, i16_at, i32_at, f32_at, index_at}
use Rattle.format.specs.Section.{record_count, place}
use Rattle.records.specs.Access.{record_of}
use Rattle.records.specs.Node.{collision_child_at, collision_node_at}
use Rattle.records.specs.Plane.{file_plane, plane_at}
use Rattle.records.specs.Triple.{vector_at}
use Rattle.walk.specs.Walk.{enter, meet}
use Rattle.nodes.specs.Tables.{table_of}
use Rattle.line.specs.Line.{crossing, into, contents_from, back_off, line_from}
use Rattle.line_loaded.specs.Trials.{shot, meant}

pub as_meant : shot ≡ meant
unfolding shot meant table_of line_from back_off contents_from into crossing enter meet equal record_of place record_count collision_node_at collision_child_at plane_at file_plane vector_at negated_contents contents_of u16_at u32_at i16_at i32_at f32_at index_at of_bits add sub mul div neg lt le eq to_signed
as_meant = refl
