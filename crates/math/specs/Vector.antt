-- Vectors of three binary32 numbers, as cgmath's `Vector3<f32>` has them: each operation is rounded once, and a dot product adds from left to right.
-- Assumes nothing.
use Rattle.std.specs.Prelude.{Bool, ◌&&◌, Float}
use Rattle.std.specs.Float.Ieee as Ieee
use Rattle.std.specs.Float.{binary32}
use Rattle.std.specs.Float.Ieee.{of_bits}
use Rattle.float.specs.Root.{sqrt}
use Rattle.math.specs.declared.vector.Vector3.{Vector3}
use Rattle.math.specs.declared.vector.Axis.{Axis}
use Rattle.math.specs.declared.vector.Axis.TheVariants.{X, Y, Z}

-- the numbers 0, 1 and -1
abbrev pub zero32 : Float
zero32 = of_bits binary32 0

abbrev pub one32 : Float
one32 = of_bits binary32 0x3f80_0000

abbrev pub minus_one32 : Float
minus_one32 = Ieee.neg one32

abbrev pub vector : Float → Float → Float → Vector3
vector a b c = record { x = a; y = b; z = c }

-- `unit_x`, `unit_y`, `unit_z`
abbrev pub unit_x : Vector3
unit_x = vector one32 zero32 zero32

abbrev pub unit_y : Vector3
unit_y = vector zero32 one32 zero32

abbrev pub unit_z : Vector3
unit_z = vector zero32 zero32 one32

abbrev pub sum : Vector3 → Vector3 → Vector3
sum v w = vector (Ieee.add binary32 v.x w.x) (Ieee.add binary32 v.y w.y) (Ieee.add binary32 v.z w.z)

abbrev pub difference : Vector3 → Vector3 → Vector3
difference v w = vector (Ieee.sub binary32 v.x w.x) (Ieee.sub binary32 v.y w.y) (Ieee.sub binary32 v.z w.z)

abbrev pub scaled : Float → Vector3 → Vector3
scaled k v = vector (Ieee.mul binary32 k v.x) (Ieee.mul binary32 k v.y) (Ieee.mul binary32 k v.z)

abbrev pub negated : Vector3 → Vector3
negated v = vector (Ieee.neg v.x) (Ieee.neg v.y) (Ieee.neg v.z)

abbrev pub dot : Vector3 → Vector3 → Float
dot v w =
    Ieee.add binary32
    (Ieee.add binary32 (Ieee.mul binary32 v.x w.x) (Ieee.mul binary32 v.y w.y))
    (Ieee.mul binary32 v.z w.z)

abbrev pub magnitude : Vector3 → Float
magnitude v = sqrt (dot v v)

-- each coordinate times 1 / magnitude
unfoldable pub normalize : Vector3 → Vector3
normalize v = scaled (Ieee.div binary32 one32 (magnitude v)) v

-- Rust's `==`: a NaN differs from everything, and -0 equals 0
abbrev pub same : Vector3 → Vector3 → Bool
same v w = Ieee.eq v.x w.x && (Ieee.eq v.y w.y && Ieee.eq v.z w.z)

-- the coordinate along an axis
abbrev pub along : Vector3 → Axis → Float
along v X = v.x
along v Y = v.y
along v Z = v.z
