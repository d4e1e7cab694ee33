-- Note 13 about the calls: "Where document 01's trace and a point walk from its start are both answered on one hull, and the start's three coordinates are
-- finite, show that the flag is set exactly if the walk says Solid."
--
--   both answered         bsp_trace and bsp_contents answer 0
--   one hull              the same file, map words and hull words, whatever they hold: loaded, checked, made by hand or none of these
--   from its start        the point's three floats are the segment's first three
--   finite                `Finite3` of walk/specs/StartedSolid.antt: three f32, none of them a NaN or an infinity
--   the flag is set       the word BSP_TRACE_START_SOLID that bsp_trace wrote is 1
--   the walk says Solid   the contents code that bsp_contents wrote is BSP_SOLID
use Rattle.std.specs.Prelude.{ℕ, List, ◌↔◌, ◌≡◌, Float}
use Rattle.math.specs.declared.vector.Vector3.{Vector3}
use Rattle.walk.specs.StartedSolid.{Finite3}
use Rattle.tree.specs.Readable.{Floats}
use Rattle.served.specs.Cited.{bsp_contents, bsp_trace, point_at}
use Rattle.served.specs.NamedWords.{contents_code, trace_start_solid, solid_code}

-- for starts of which `Start` is known
abbrev pub StartedSolidFrom : (Vector3 → Type 0) → Type 0
StartedSolidFrom Start =
    (s map hull : List ℕ) (segment point : List Float) → Start (point_at segment 0) → point_at point 0 ≡ point_at segment 0
    → (out : List ℕ) → (bsp_trace s map hull segment out).status ≡ 0
    → (room : List ℕ) → (bsp_contents s map hull point room).status ≡ 0
    → (trace_start_solid (bsp_trace s map hull segment out).list ≡ 1) ↔ (contents_code (bsp_contents s map hull point room).list ≡ solid_code)

abbrev pub StartedSolid : Type 0
StartedSolid = StartedSolidFrom Finite3

-- It does not hold of every start of three f32: 'finite' is needed.
abbrev pub FiniteNeeded : Type 0
FiniteNeeded = ¬ (StartedSolidFrom Floats)
