-- The readers of fields read the bytes that a layout names, and the sizes of the records are those of the layouts.
-- Assumes nothing.
use Prim.Native.Nat.{ℕ, ◌+◌, ◌*◌, ◌^◌, ◌≤◌, zero-le}
use mathlib.Core.Path.{◌≡◌, refl}
use mathlib.Core.Bool.{Bool, true, false, cond}
use mathlib.Core.List.{List}
use native.Mathlib.Nat.{add-zero}
use native.Mathlib.Omega.{arith}
use borrow.Author.Tests.{le-leb, lt-leb, le-ltb, ltb-true, ltb-false}
use lib.Dec.{leb, ltb}
use lib.IntN.{pos}
use lib.Signed.{lt_z}
use lib.Ieee.{of_bits, binary32}
use lib.ListN.{length, get_or}
use mir.Syntax.{Width, w16, w32}
use mir.Val.{to_z, hbits}
use Rattle.format.specs.Step.{Step, ok, and_then}
use Rattle.format.specs.Field.{u8_at, u16_at, u32_at, i16_at, i32_at, f32_at}
use Rattle.format.specs.Section.{element_size}
use Rattle.format.specs.Layout as Layout
use Rattle.format.specs.Layout.{little_endian}
use Rattle.format.specs.declared.section.BspFileSectionId.{BspFileSectionId}
use Rattle.format.specs.declared.section.BspFileSectionId.TheVariants.{Entities, Planes, Textures, Vertices, Visibility, RenderNodes, TextureInfo, Faces, Lightmaps, CollisionNodes, Leaves, FaceList, Edges, EdgeList, Models}

-- the sizes of the Rust's records are those of the directory's sections
pub record_sizes : (id : BspFileSectionId) → element_size id ≡ Layout.record_size id
record_sizes Entities = refl
record_sizes Planes = refl
record_sizes Textures = refl
record_sizes Vertices = refl
record_sizes Visibility = refl
record_sizes RenderNodes = refl
record_sizes TextureInfo = refl
record_sizes Faces = refl
record_sizes Lightmaps = refl
record_sizes CollisionNodes = refl
record_sizes Leaves = refl
record_sizes FaceList = refl
record_sizes Edges = refl
record_sizes EdgeList = refl
record_sizes Models = refl

-- little-endian numbers of one, two and four bytes
one : (s : List ℕ) (p : ℕ) → get_or s p 0 ≡ little_endian s p 1
unfolding little_endian
one s p = rw (add-zero p) (omega arith)

two : (s : List ℕ) (p : ℕ) → get_or s p 0 + 256 * get_or s (p + 1) 0 ≡ little_endian s p 2
unfolding little_endian
two s p = rw (add-zero p) (omega arith)

four : (s : List ℕ) (p : ℕ) → get_or s p 0 + 256 * get_or s (p + 1) 0 + 65536 * get_or s (p + 2) 0 + 16777216 * get_or s (p + 3) 0 ≡ little_endian s p 4
unfolding little_endian
four s p = rw (add-zero p) (omega arith)

-- The field at the offset o of a record of k bytes that lie in the file. `p` is the position as the reader has it.
module _ (s : List ℕ) (at k : ℕ) (h : at + k ≤ length s) (o p : ℕ) (e : p ≡ at + o) where
  pub u8_at_lem : o + 1 ≤ k → u8_at s p ≡ ok (little_endian s (at + o) 1) (at + (o + 1))
  unfolding u8_at
  u8_at_lem g =
      let z : at + o + 1 ≡ at + (o + 1) = omega arith in
      rw (e, le-leb (at + o + 1) (length s) (omega arith), one s (at + o), z) refl

  pub u16_at_lem : o + 2 ≤ k → u16_at s p ≡ ok (little_endian s (at + o) 2) (at + (o + 2))
  unfolding u16_at
  u16_at_lem g =
      let z : at + o + 2 ≡ at + (o + 2) = omega arith in
      rw (e, le-leb (at + o + 2) (length s) (omega arith), two s (at + o), z) refl

  u32_at_lem : o + 4 ≤ k → u32_at s p ≡ ok (little_endian s (at + o) 4) (at + (o + 4))
  unfolding u32_at
  u32_at_lem g =
      let z : at + o + 4 ≡ at + (o + 4) = omega arith in
      rw (e, le-leb (at + o + 4) (length s) (omega arith), four s (at + o), z) refl

  pub i16_at_lem : o + 2 ≤ k → i16_at s p ≡ ok (to_z w16 (little_endian s (at + o) 2)) (at + (o + 2))
  unfolding i16_at
  i16_at_lem g = rw (u16_at_lem g)

  pub i32_at_lem : o + 4 ≤ k → i32_at s p ≡ ok (to_z w32 (little_endian s (at + o) 4)) (at + (o + 4))
  unfolding i32_at
  i32_at_lem g = rw (u32_at_lem g)

  pub f32_at_lem : o + 4 ≤ k → f32_at s p ≡ ok (of_bits binary32 (little_endian s (at + o) 4)) (at + (o + 4))
  unfolding f32_at
  f32_at_lem g = rw (u32_at_lem g)

-- a test comes before what follows
pub either : {A B : Type 0} (t : Bool) (x y : Step A) (k : A → ℕ → Step B) → and_then (cond t x y) k ≡ cond t (and_then x k) (and_then y k)
either true x y k = refl
either false x y k = refl

-- a test whose two sides are one
pub both : {A : Type 0} (t : Bool) (x : A) → cond t x x ≡ x
both true x = refl
both false x = refl

-- single bytes
pub byte : (s : List ℕ) (at o : ℕ) → get_or s (at + o) 0 ≡ little_endian s (at + o) 1
byte s at o = one s (at + o)

pub next_byte : (s : List ℕ) (at o i : ℕ) → get_or s (at + o + i) 0 ≡ little_endian s (at + (o + i)) 1
next_byte s at o i = let z : at + o + i ≡ at + (o + i) = omega arith in rw z (one s (at + (o + i)))

-- bits that the specifications read as unsigned and the Rust as signed: negative from half of the range on
pub negative_from : (w : Width) (n : ℕ) → lt_z (to_z w n) (pos 0) ≡ leb (2 ^ hbits w) n
negative_from w n = by (ltb n (2 ^ hbits w)) refl
  where
    by : (b : Bool) → ltb n (2 ^ hbits w) ≡ b → lt_z (to_z w n) (pos 0) ≡ leb (2 ^ hbits w) n
    by true e = simp (e, lt-leb (2 ^ hbits w) n (ltb-true n (2 ^ hbits w) e), le-ltb n 0 zero-le)
    by false e = simp (e, le-leb (2 ^ hbits w) n (ltb-false n (2 ^ hbits w) e))
