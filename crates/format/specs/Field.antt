-- Little-endian fields at a position: the value and the position after it, or 1 where the bytes end.
use Rattle.std.specs.Prelude.{ℕ, ◌+◌, ◌*◌, cond, List, length, get_or, leb, ℤ, pos, nat_abs, Float}
use Rattle.std.specs.Float.Ieee.{of_bits}
use Rattle.std.specs.Float.{binary32}
use Rattle.std.specs.Int.Signed.{lt_z}
use Rattle.std.specs.Int.{w16, w32}
use Rattle.std.proofs.Common.{to_z}
use Rattle.format.specs.Step.{Step, ok, refused, and_then}

-- a field of k bytes with the value v: read where the bytes are there
abbrev pub field : {A : Type 0} → ℕ → List ℕ → ℕ → A → Step A
field k s at v = cond (leb (at + k) (length s)) (ok v (at + k)) (refused 1)

unfoldable pub u8_at : List ℕ → ℕ → Step ℕ
u8_at s at = field 1 s at (get_or s at 0)

unfoldable pub u16_at : List ℕ → ℕ → Step ℕ
u16_at s at = field 2 s at (get_or s at 0 + 256 * get_or s (at + 1) 0)

unfoldable pub u32_at : List ℕ → ℕ → Step ℕ
u32_at s at = field 4 s at (get_or s at 0 + 256 * get_or s (at + 1) 0 + 65536 * get_or s (at + 2) 0 + 16777216 * get_or s (at + 3) 0)

-- signed fields are the same bits in two's complement
unfoldable pub i16_at : List ℕ → ℕ → Step ℤ
i16_at s at = and_then (u16_at s at) (λ n p. ok (to_z w16 n) p)

unfoldable pub i32_at : List ℕ → ℕ → Step ℤ
i32_at s at = and_then (u32_at s at) (λ n p. ok (to_z w32 n) p)

unfoldable pub f32_at : List ℕ → ℕ → Step Float
f32_at s at = and_then (u32_at s at) (λ n p. ok (of_bits binary32 n) p)

-- a number that is not negative, else the refusal n
abbrev pub not_negative : ℕ → ℤ → ℕ → Step ℕ
not_negative n x p = cond (lt_z x (pos 0)) (refused n) (ok (nat_abs x) p)

-- an i32 that is not negative
unfoldable pub index_at : ℕ → List ℕ → ℕ → Step ℕ
index_at n s at = and_then (i32_at s at) (λ x p. not_negative n x p)
