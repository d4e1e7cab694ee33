-- Fields whose bytes are there, as the readers at a position give them.
-- Assumes nothing.
use Rattle.std.proofs.Common.{◌≡◌, ℕ, suc, ◌+◌, ◌-◌, ◌^◌, ◌<◌, ◌≤◌, List, length, pos, negsuc, sym, refl, ap, ◌∙◌, arith, w16, w32, to_z, le-ltb, lt-ltb, le-leb}
use mir.Syntax.{Width}
use mir.Val.{bits, hbits}
use Rattle.format.specs.Step.{ok, refused}
use Rattle.format.specs.Field.{u16_at, u32_at, i16_at, i32_at, f32_at, index_at}
use Rattle.format.specs.Code.{contents_of, negated_contents}
use Rattle.format.proofs.Codes.{below}
use Rattle.records.specs.Number.{index16_at}
use Rattle.nodes.specs.Fast.{u16, u32, f32}

-- ---- the two halves of a width, signed

pub low : (w : Width) (n : ℕ) → n < 2 ^ hbits w → to_z w n ≡ pos n
low w n h = simp (lt-ltb n (2 ^ hbits w) h)

pub high : (w : Width) (n : ℕ) → 2 ^ hbits w ≤ n → to_z w n ≡ negsuc (2 ^ bits w - suc n)
high w n h = simp (le-ltb n (2 ^ hbits w) h)

-- the contents of a negated code in the upper half
pub high_code : (w : Width) → 14 < 2 ^ hbits w → (n m : ℕ) → 2 ^ hbits w ≤ n → 2 ^ bits w - suc n < 2 ^ hbits w → m ≡ 2 ^ bits w - suc n + 1
    → negated_contents w (to_z w n) ≡ contents_of m
high_code w big n m h g e = rw (high w n h) (below w big (negsuc (2 ^ bits w - suc n)) (record { sfits = g }) refl ∙ ap contents_of (sym e))

module _ (s : List ℕ) (at : ℕ) where
  pub u16_is : at + 2 ≤ length s → u16_at s at ≡ ok (u16 s at) (at + 2)
  unfolding u16_at u16
  u16_is h = simp (le-leb (at + 2) (length s) h)

  pub u32_is : at + 4 ≤ length s → u32_at s at ≡ ok (u32 s at) (at + 4)
  unfolding u32_at u32
  u32_is h = simp (le-leb (at + 4) (length s) h)

  pub i16_is : at + 2 ≤ length s → i16_at s at ≡ ok (to_z w16 (u16 s at)) (at + 2)
  unfolding i16_at
  i16_is h = rw (u16_is h)

  pub i32_is : at + 4 ≤ length s → i32_at s at ≡ ok (to_z w32 (u32 s at)) (at + 4)
  unfolding i32_at
  i32_is h = rw (u32_is h)

  pub f32_is : at + 4 ≤ length s → f32_at s at ≡ ok (f32 s at) (at + 4)
  unfolding f32_at
  f32_is h = rw (u32_is h)

  pub index_is : (n : ℕ) → at + 4 ≤ length s → u32 s at < 2147483648 → index_at n s at ≡ ok (u32 s at) (at + 4)
  unfolding index_at
  index_is n h l = rw (i32_is h) (rw (low w32 (u32 s at) l) (simp (le-ltb (u32 s at) 0 (omega arith))))

  pub index_not : (n : ℕ) → at + 4 ≤ length s → 2147483648 ≤ u32 s at → index_at n s at ≡ refused n
  unfolding index_at
  index_not n h l = rw (i32_is h) (rw (high w32 (u32 s at) l))

  pub index16_is : at + 2 ≤ length s → u16 s at < 32768 → index16_at s at ≡ ok (u16 s at) (at + 2)
  unfolding index16_at
  index16_is h l = rw (i16_is h) (rw (low w16 (u16 s at) l) (simp (le-ltb (u16 s at) 0 (omega arith))))

  pub index16_not : at + 2 ≤ length s → 32768 ≤ u16 s at → index16_at s at ≡ refused 10
  unfolding index16_at
  index16_not h l = rw (i16_is h) (rw (high w16 (u16 s at) l))
