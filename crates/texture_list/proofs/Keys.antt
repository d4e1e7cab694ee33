-- What the key of a name says of the name: its kind, and whether two stems are the same.
-- Assumes nothing.
use Rattle.std.specs.Prelude.{Option, Some, None, ℕ, zero, suc, ◌+◌, ◌*◌, ◌<◌, ◌≡◌, Bool, true, false, ◌&&◌, cond, List, eqb, ltb, length, get_or, replicate}
use Rattle.std.proofs.Common.{refl, arith}
use Rattle.std.proofs.lemmas.List.{length-drop}
use Rattle.std.proofs.lemmas.List.Elements.{All-drop}
use borrow.Author.Tests.{ltb-false}
use Rattle.format.specs.Step.{Step, ok, refused}
use Rattle.records.specs.Number.{offset_at}
use Rattle.texture_list.specs.Name.{lowered, char_at, chars, stem_of, same_stem, little_endian}
use Rattle.texture_list.specs.Key.{keyed, key_at}
use Rattle.texture_list.specs.Kind.{is_of, is_kind, key_by, key_of}
use Rattle.texture_list.specs.List.{name_of, names_of}
use Rattle.texture_list.specs.declared.kind.Kind.{Kind}
use Rattle.texture_list.specs.declared.kind.Kind.TheVariants.{Animated, Primary, Alternate}
use Rattle.texture_list.proofs.Digits.{Bytes, same_numbers}

key_by_is : (s : List ℕ) (base : ℕ) (x : Step (Option ℕ)) → key_by s base x ≡ keyed (name_of s base x)
unfolding key_at little_endian
key_by_is s base (ok None p) = refl
key_by_is s base (ok (Some o) p) = refl
key_by_is s base (refused n) = refl

pub key_is : (s : List ℕ) (base i : ℕ) → key_of s base i ≡ keyed (names_of s base i)
unfolding names_of key_of
key_is s base i = key_by_is s base (offset_at s (base + 4 + 4 * i))

pub kind_is : (k : Kind) (s : List ℕ) (base i : ℕ) → is_of k (names_of s base i) ≡ is_kind k (key_of s base i)
unfolding is_of is_kind
kind_is Animated s base i = rw (key_is s base i) refl
kind_is Primary s base i = rw (key_is s base i) refl
kind_is Alternate s base i = rw (key_is s base i) refl

module _ (s : List ℕ) (bytes : (i : ℕ) → get_or s i 0 < 256) where
  lowered_small : (b : ℕ) → b < 256 → lowered b < 256
  unfolding lowered
  lowered_small b h = by (ltb b 65) (ltb 90 b) refl
    where
      by : (t u : Bool) → ltb 90 b ≡ u → cond t b (cond u b (b + 32)) < 256
      by true u e = h
      by false true e = h
      by false false e = omega (arith, ltb-false 90 b e)

  char_small : (p l : ℕ) → char_at s p l < 256
  unfolding char_at
  char_small p l = by (eqb l 0)
    where
      by : (t : Bool) → cond t 0 (lowered (get_or s p 0)) < 256
      by true = omega arith
      by false = lowered_small (get_or s p 0) (bytes p)

  chars_small : (n p l : ℕ) → Bytes (chars s p l n)
  unfolding chars
  chars_small zero p l k d h = absurd (omega arith)
  chars_small (suc n) p l zero d h = char_small p l
  chars_small (suc n) p l (suc k) d h = chars_small n (p + 1) (char_at s p l) k d (omega arith)

  zeros_small : (n : ℕ) → Bytes (replicate n 0)
  zeros_small zero k d h = absurd (omega arith)
  zeros_small (suc n) zero d h = omega arith
  zeros_small (suc n) (suc k) d h = zeros_small n k d (omega arith)

  name_small : (base : ℕ) (x : Step (Option ℕ)) → Bytes (name_of s base x)
  name_small base (ok None p) = zeros_small 16
  name_small base (ok (Some o) p) = chars_small 16 (base + o) 1
  name_small base (refused n) = zeros_small 16

  name_long : (base : ℕ) (x : Step (Option ℕ)) → length (name_of s base x) ≡ 16
  unfolding chars
  name_long base (ok None p) = refl
  name_long base (ok (Some o) p) = refl
  name_long base (refused n) = refl

  small : (base i : ℕ) → Bytes (stem_of (names_of s base i))
  unfolding names_of
  small base i = All-drop (λ b. b < 256) 2 (name_of s base (offset_at s (base + 4 + 4 * i))) (name_small base (offset_at s (base + 4 + 4 * i)))

  long : (base i : ℕ) → length (stem_of (names_of s base i)) ≡ 14
  unfolding names_of
  long base i = rw (length-drop, name_long) refl

  -- two stems are the same exactly if the two numbers of their keys are
  pub same_is : (base i j : ℕ) → same_stem (names_of s base i) (names_of s base j)
      ≡ (eqb (key_of s base i).stem.start (key_of s base j).stem.start && eqb (key_of s base i).stem.end (key_of s base j).stem.end)
  same_is base i j = rw (key_is s base i, key_is s base j) (same_numbers 7 _ _ (rw (long base i, long base j) refl) (small base i) (small base j))
