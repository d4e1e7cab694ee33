-- Fields that are numbers and are tested as they are read (10).
use Rattle.std.specs.Prelude.{Option, Some, None, ℕ, cond, List, ltb, ℤ, pos, negsuc, nat_abs}
use Rattle.std.specs.Int.Signed.{lt_z}
use Rattle.format.specs.Step.{Step, ok, refused, and_then}
use Rattle.format.specs.Field.{i16_at, i32_at, index_at, not_negative}

-- an i16 that is not negative
unfoldable pub index16_at : List ℕ → ℕ → Step ℕ
index16_at s at = and_then (i16_at s at) (λ x p. not_negative 10 x p)

-- a number from 0 to `most`
abbrev pub at_most : ℕ → ℕ → ℕ → Step ℕ
at_most most n p = cond (ltb most n) (refused 10) (ok n p)

-- a number of at least `least`
abbrev pub at_least : ℕ → ℕ → ℕ → Step ℕ
at_least least n p = cond (ltb n least) (refused 10) (ok n p)

-- an i16 from 0 to `most`
unfoldable pub number16_at : ℕ → List ℕ → ℕ → Step ℕ
number16_at most s at = and_then (index16_at s at) (λ n p. at_most most n p)

-- an i32 from 0 to `most`
unfoldable pub number_at : ℕ → List ℕ → ℕ → Step ℕ
number_at most s at = and_then (index_at 10 s at) (λ n p. at_most most n p)

-- an i16 of at least `least`
unfoldable pub count_at : ℕ → List ℕ → ℕ → Step ℕ
count_at least s at = and_then (index16_at s at) (λ n p. at_least least n p)

-- the offset x; -1 stands for none
unfoldable pub offset_of : ℤ → Option ℕ
offset_of x = cond (lt_z x (pos 0)) None (Some (nat_abs x))

-- a number that is an offset, or -1 for none
abbrev pub offset : ℤ → ℕ → Step (Option ℕ)
offset x p = cond (lt_z x (negsuc 0)) (refused 10) (ok (offset_of x) p)

unfoldable pub offset_at : List ℕ → ℕ → Step (Option ℕ)
offset_at s at = and_then (i32_at s at) (λ x p. offset x p)
