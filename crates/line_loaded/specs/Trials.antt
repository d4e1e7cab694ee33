-- A whole line through three rooms by two clip nodes: behind x = 0 it is solid, from there to x = 0.5 empty, beyond it solid. Beside the definition,
-- what Note 6 says of a line from (-1.03125, 0, 0) to (0.96875, 0, 0). proofs/Trials.antt computes it.
use Rattle.std.specs.Prelude.{ℕ, true, false, List, [], ◌∷◌, ◌++◌, replicate, pos, negsuc, Float}
use Rattle.std.specs.Float.{fin}
use Rattle.format.specs.Answer.{Answer, answer}
use Rattle.format.specs.Section.{no_section}
use Rattle.format.specs.declared.section.BspData.{BspData}
use Rattle.format.specs.declared.section.BspFileSection.{BspFileSection}
use Rattle.math.specs.Vector.{vector}
use Rattle.math.specs.declared.vector.Vector3.{Vector3}
use Rattle.nodes.specs.Tables.{table_of}
use Rattle.nodes.specs.declared.table.HullTable.TheVariants.{Clip}
use Rattle.line.specs.Line.{whole_line, line_trace, line_plane}
use Rattle.line.specs.declared.state.LineTrace.{LineTrace}

abbrev pub zero32 : Float
zero32 = fin false 0 (pos 0)

-- (x, 0, 0)
abbrev pub on_x : Float → Vector3
on_x x = vector x zero32 zero32

-- node 0 by the plane 0: node 1 in front, Solid behind; node 1 by the plane 1: Solid in front, Empty behind; the planes x = 0 and x = 0.5
abbrev pub rooms : List ℕ
rooms =
    (0 ∷ 0 ∷ 0 ∷ 0 ∷ 1 ∷ 0 ∷ 254 ∷ 255 ∷ [])
    ++ ((1 ∷ 0 ∷ 0 ∷ 0 ∷ 254 ∷ 255 ∷ 255 ∷ 255 ∷ [])
    ++ (replicate 20 0 ++ (replicate 14 0 ++ (0 ∷ 63 ∷ replicate 4 0))))

abbrev pub part : ℕ → ℕ → BspFileSection
part offset size = record { offset = offset; size = size }

-- the clip nodes and the planes; no other section
abbrev pub rooms_map : BspData
rooms_map = record {
  entities = no_section;
  planes = part 16 40;
  textures = no_section;
  vertices = no_section;
  visibility = no_section;
  render_nodes = no_section;
  texinfo = no_section;
  faces = no_section;
  lightmaps = no_section;
  collision_nodes = part 0 16;
  leaves = no_section;
  facelist = no_section;
  edges = no_section;
  edgelist = no_section;
  models = no_section;
  texture_count = 0;
}

-- 2 is crossed in its middle, 0.03125 before the plane x = 0, and the rest in its middle, 0.03125 before x = 0.5. The line started solid, came
-- through the open and is blocked there: at three quarters, at x = 0.46875, by the plane turned round. That it started solid does not end it.
unfoldable pub shot : Answer LineTrace
shot = whole_line (table_of rooms rooms_map Clip (on_x zero32) (on_x zero32)) 0 (on_x (fin true 33 (negsuc 4))) (on_x (fin false 31 (negsuc 4)))

unfoldable pub meant : Answer LineTrace
meant = answer (line_trace (fin false 3 (negsuc 1)) (on_x (fin false 15 (negsuc 4))) (line_plane (vector (fin true 1 (pos 0)) zero32 zero32) (fin true 1 (negsuc 0))) false true true false)
