-- Fields as bytes, the lowest first: what the readers of `format` read back. Definitions of files that are written (`made`) are made of these.
use Rattle.std.specs.Prelude.{ℕ, zero, suc, ◌/◌, ◌%◌, List, [], ◌∷◌, ◌++◌, ℤ, Float}
use Rattle.std.specs.Float.Ieee.{to_bits}
use Rattle.std.specs.Float.{binary32}
use Rattle.std.specs.Int.{w16, w32}
use Rattle.std.proofs.Common.{of_z}

-- the lowest w bytes of a number
abbrev pub bytes : ℕ → ℕ → List ℕ
bytes zero n = []
bytes (suc w) n = n % 256 ∷ bytes w (n / 256)

abbrev pub u16 : ℕ → List ℕ
u16 n = bytes 2 n

abbrev pub u32 : ℕ → List ℕ
u32 n = bytes 4 n

-- signed fields are the same bits in two's complement
abbrev pub i16 : ℤ → List ℕ
i16 x = u16 (of_z w16 x)

abbrev pub i32 : ℤ → List ℕ
i32 x = u32 (of_z w32 x)

abbrev pub f32 : Float → List ℕ
f32 x = u32 (to_bits binary32 x)

-- parts, one after another
abbrev pub joined : List (List ℕ) → List ℕ
joined [] = []
joined (part ∷ parts) = part ++ joined parts

-- so many parts, by their numbers
unfoldable pub row : (ℕ → List ℕ) → ℕ → List ℕ
row part zero = []
row part (suc n) = row part n ++ part n
