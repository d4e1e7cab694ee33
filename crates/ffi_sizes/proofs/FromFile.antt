-- The words of sizes that were read of a file are those sizes again (specs/FromFile.antt). Assumes nothing.
use Prim.Native.Nat.{ℕ, ◌+◌, ◌≤◌}
use native.Mathlib.Nat.{mod-eq_of_lt}
use native.Mathlib.Omega.{arith}
use mathlib.Core.List.{List}
use mathlib.Core.Logic.{inl, inr, ◌⊎◌}
use mathlib.Core.Path.{◌≡◌, refl, ap, ap₂, ◌∙◌}
use borrow.Author.Tests.{le-ltb}
use lib.ListN.{length}
use lib.Ieee as Ieee
use lib.Ieee.{binary32}
use lib.Ieee.Bits.{of_bits-to_bits, of_bits-fits, to_bits-lt}
use Rattle.format.specs.Answer.{answer, mapped}
use Rattle.math.specs.Vector.{vector}
use Rattle.words.specs.Words.{written, put, given, at_least, float_word, map_of}
use Rattle.sizes.specs.Sizes.{float_in, vector_in, bounds, body_sizes, sizes_in, sizes_of}
use Rattle.sizes.specs.Files.{LaidOut}
use Rattle.sizes.specs.declared.BodySizes.{BodySizes}
use Rattle.sizes.proofs.Files.{every_file}
use Rattle.sized_hulls.specs.Sized.{hull_sized}
use Rattle.ffi_hull.specs.Layout.{float_of, hull_length, hull_words}
use Rattle.ffi_sizes.specs.Layout.{sizes_length, sizes_words, sizes_from}
use Rattle.ffi_sizes.specs.Calls.{bsp_body_sizes, bsp_hull_sized}
use Rattle.ffi_sizes.specs.FromFile.{FromFile}

-- a float of four bytes, as a word and back
same_float : (s : List ℕ) (p : ℕ) → float_of (float_word (float_in s p)) ≡ float_in s p
same_float s p =
    let f = of_bits-fits binary32 _ in
    ap (Ieee.of_bits binary32) (mod-eq_of_lt (to_bits-lt binary32 (float_in s p) f)) ∙ of_bits-to_bits binary32 (float_in s p) f

same_vector : (s : List ℕ) (p : ℕ)
    → vector (float_of (float_word (float_in s p))) (float_of (float_word (float_in s (p + 4)))) (float_of (float_word (float_in s (p + 8)))) ≡ vector_in s p
same_vector s p = rw (same_float s p, same_float s (p + 4), same_float s (p + 8)) refl

same_sizes : (s : List ℕ) (a b : ℕ) (out : List ℕ) → sizes_from (put (sizes_words (sizes_in s a b)) out) ≡ sizes_in s a b
same_sizes s a b out =
    ap₂ body_sizes
    (ap₂ bounds (same_vector s a) (same_vector s (a + 12)))
    (ap₂ bounds (same_vector s b) (same_vector s (b + 12)))

module _ (bytes out : List ℕ) (z : BodySizes) (l : sizes_length ≤ length out) (e : sizes_of bytes ≡ answer z) where
  is_written : bsp_body_sizes bytes out ≡ written 0 (put (sizes_words z) out)
  unfolding bsp_body_sizes
  is_written = rw (le-ltb (length out) sizes_length l, e) refl

  same_file : sizes_from (put (sizes_words z) out) ≡ z
  same_file = by (every_file.accepted bytes z e).spells_them.either
    where
      by : (LaidOut bytes 1 2 × (z ≡ sizes_in bytes 3 30)) ⊎ (LaidOut bytes 2 1 × (z ≡ sizes_in bytes 30 3)) → sizes_from (put (sizes_words z) out) ≡ z
      by (inl q) = rw q.1 (same_sizes bytes 3 30 out)
      by (inr q) = rw q.1 (same_sizes bytes 30 3 out)

  long : sizes_length ≤ length (put (sizes_words z) out)
  long = omega arith

  hull_of : (s m : List ℕ) (i j : ℕ) (hull : List ℕ)
      → bsp_hull_sized s m (put (sizes_words z) out) i j hull ≡ at_least 31 m hull (at_least hull_length hull hull (given (mapped hull_words (hull_sized s (map_of m) z i j)) hull))
  unfolding bsp_hull_sized
  hull_of s m i j hull = rw (le-ltb (length (put (sizes_words z) out)) sizes_length long, same_file) refl

pub from_file : FromFile
from_file bytes out z l e = record {
  answered = rw (is_written bytes out z l e) refl;
  read_back = rw (is_written bytes out z l e) (same_file bytes out z l e);
  hull = λ s m i j hull. rw (is_written bytes out z l e) (hull_of bytes out z l e s m i j hull);
}
