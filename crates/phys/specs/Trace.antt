-- Traces: what a moving point meets, as the trace types of phys.rs have them.
-- Assumes nothing.
use Rattle.std.specs.Prelude.{Bool, true, false, cond, not, ◌&&◌, Float}
use Rattle.std.specs.Float.{binary32}
use Rattle.std.specs.Float.Ieee.{of_bits}
use Rattle.math.specs.Vector as Vec
use Rattle.math.specs.declared.vector.Vector3.{Vector3}
use Rattle.math.specs.declared.plane.Hyperplane.{Hyperplane}
use Rattle.format.specs.Answer.{Answer, answer, refused}
use Rattle.format.specs.Contents as Contents
use Rattle.format.specs.declared.contents.BspLeafContents.{BspLeafContents}
use Rattle.format.specs.declared.contents.BspLeafContents.TheVariants.{Empty, Solid}
use Rattle.phys.specs.declared.TraceStart.{TraceStart}
use Rattle.phys.specs.declared.TraceEndKind.{TraceEndKind}
use Rattle.phys.specs.declared.TraceEndKind.TheVariants.{Terminal, Boundary}
use Rattle.phys.specs.declared.TraceEnd.{TraceEnd}
use Rattle.phys.specs.declared.Trace.{Trace as TraceT}

-- `TraceStart::new`
abbrev pub start : Vector3 → Float → TraceStart
start p k = record { point = p; ratio = k }

-- `TraceEnd::terminal`
abbrev pub terminal : Vector3 → TraceEnd
terminal p = record { point = p; kind = Terminal }

-- `TraceEnd::boundary`
abbrev pub boundary : Vector3 → Float → Hyperplane → TraceEnd
boundary p k h = record { point = p; kind = Boundary (record { ratio = k; plane = h }) }

abbrev pub trace : TraceStart → TraceEnd → BspLeafContents → Bool → TraceT
trace s e c b = record { start = s; end = e; contents = c; start_solid = b }

-- `Trace::new`: it started solid if it lies in a solid leaf
abbrev pub new_trace : TraceStart → TraceEnd → BspLeafContents → TraceT
new_trace s e c = trace s e c (Contents.equal c Solid)

abbrev pub is_terminal_kind : TraceEndKind → Bool
is_terminal_kind Terminal = true
is_terminal_kind (Boundary b) = false

-- `is_terminal`
abbrev pub is_terminal : TraceT → Bool
is_terminal t = is_terminal_kind t.end.kind

-- traces of the same contents that meet, joined: it started solid if the first did
abbrev pub join_same : TraceT → TraceT → TraceT
join_same t u = trace t.start u.end t.contents t.start_solid

-- Traces that meet, joined: of the same contents; out of a solid; otherwise the first alone
abbrev pub join_met : TraceT → TraceT → TraceT
join_met t u =
    cond (Contents.equal t.contents u.contents)
    (join_same t u)
    (cond (Contents.equal t.contents Solid && not (Contents.equal u.contents Solid))
    (trace t.start u.end u.contents true)
    t)

-- `join`: the Rust panics after a terminal trace and where the first does not end at the second's start (a NaN always differs), and here it is 19
unfoldable pub join : TraceT → TraceT → Answer TraceT
join t u =
    cond (is_terminal t) (refused 19)
    (cond (Vec.same t.end.point u.start.point) (answer (join_met t u)) (refused 19))

-- `adjust`: start and end moved by an offset
abbrev pub adjust : TraceT → Vector3 → TraceT
adjust t d =
    record {
      start = start (Vec.sum t.start.point d) t.start.ratio;
      end = record { point = Vec.sum t.end.point d; kind = t.end.kind };
      contents = t.contents;
      start_solid = t.start_solid;
    }

-- `all_solid`
abbrev pub all_solid : TraceT → Bool
all_solid t = Contents.equal t.contents Solid

-- `in_open`
abbrev pub in_open : TraceT → Bool
in_open t = Contents.equal t.contents Empty

-- `in_water`
abbrev pub in_water : TraceT → Bool
in_water t = not (Contents.equal t.contents Empty) && not (Contents.equal t.contents Solid)

-- a terminal trace has the ratio 1
abbrev pub ratio_of : TraceEndKind → Float
ratio_of Terminal = of_bits binary32 0x3f80_0000
ratio_of (Boundary b) = b.ratio

-- `ratio`
abbrev pub ratio : TraceT → Float
ratio t = ratio_of t.end.kind
