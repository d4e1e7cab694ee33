-- The rows: what a row gives byte by byte, at a position of the visibility data. Assumes nothing.
use borrow.Author.Tests.{lt-ltb, le-ltb, leb-true, leb-false}
use mathlib.Core.Path.{◌≡◌, refl, ap, ◌∙◌}
use mathlib.Core.Bool.{Bool, true, false}
use mathlib.Core.List.{List, [], ◌∷◌, ◌++◌, append_assoc, append-nil}
use Prim.Native.Nat.{ℕ, zero, suc, ◌+◌, ◌-◌, ◌*◌, ◌%◌, ◌^◌, ◌<◌, ◌≤◌}
use native.Mathlib.Nat.{add-zero, min-eq_left, min-le_left}
use native.Mathlib.Numerals.{add-one}
use native.Mathlib.Omega.{arith}
use lib.Dec.{leb}
use lib.ListN.{length, drop, get_or, replicate, length-replicate, drop_of_length-le}
use lib.Seq.{drop-cons}
use Rattle.format.specs.Answer.{Answer, answer, refused, mapped}
use Rattle.vis.specs.Row.{bits, before, in_byte, row_bits, visible, row_from, byte_leaves}
use Rattle.vis.proofs.SetBits.{length_bits, low_bits}

visible_append : (leaf n : ℕ) (xs ys : List Bool) → length xs ≡ n → visible leaf (xs ++ ys) ≡ visible leaf xs ++ visible (leaf + n) ys
unfolding visible
visible_append leaf n xs ys e = go leaf xs ∙ rw e
  where
    go : (leaf : ℕ) (xs : List Bool) → visible leaf (xs ++ ys) ≡ visible leaf xs ++ visible (leaf + length xs) ys
    go leaf [] = rw add-zero
    go leaf (true ∷ xs) =
        let e : leaf + 1 + length xs ≡ leaf + suc (length xs) = omega arith in
        ap (λ (l : List ℕ). leaf ∷ l) (go (leaf + 1) xs ∙ rw e)
    go leaf (false ∷ xs) = let e : leaf + 1 + length xs ≡ leaf + suc (length xs) = omega arith in go (leaf + 1) xs ∙ rw e

visible_none : (leaf n : ℕ) → visible leaf (replicate n false) ≡ []
unfolding visible
visible_none leaf zero = refl
visible_none leaf (suc n) = visible_none (leaf + 1) n

pub before_none : {A : Type 0} (a : Answer (List A)) → before [] a ≡ a
before_none (answer xs) = refl
before_none (refused n) = refl

pub before_before : {A : Type 0} (xs ys : List A) (a : Answer (List A)) → before (xs ++ ys) a ≡ before xs (before ys a)
before_before xs ys (answer zs) = ap answer (append_assoc xs ys zs)
before_before xs ys (refused n) = refl

-- n bits, and the row after them
passed : (leaf n : ℕ) (xs : List Bool) (a : Answer (List Bool)) → length xs ≡ n
    → mapped (visible leaf) (before xs a) ≡ before (visible leaf xs) (mapped (visible (leaf + n)) a)
passed leaf n xs (answer ys) e = ap answer (visible_append leaf n xs ys e)
passed leaf n xs (refused k) e = refl

-- a byte's bits, and the bits that a zero byte stands for
pub after_byte : (leaf b : ℕ) (a : Answer (List Bool))
    → mapped (visible leaf) (before (bits 8 b) a) ≡ before (visible leaf (bits 8 b)) (mapped (visible (leaf + 8)) a)
after_byte leaf b a = passed leaf 8 (bits 8 b) a (length_bits 8 b)

pub after_zeros : (leaf n : ℕ) (a : Answer (List Bool)) → mapped (visible leaf) (before (replicate n false) a) ≡ mapped (visible (leaf + n)) a
after_zeros leaf n a =
    passed leaf n (replicate n false) a (length-replicate n false) ∙ rw visible_none (before_none (mapped (visible (leaf + n)) a))

module _ (leaves leaf : ℕ) where
  -- the row ends where the count reaches the number of leaves
  none_past : (bytes : List ℕ) → leaves ≤ leaf → row_bits leaves leaf bytes ≡ answer []
  unfolding row_bits
  none_past [] h = rw (le-ltb leaf leaves h)
  none_past (zero ∷ []) h = rw (le-ltb leaf leaves h)
  none_past (zero ∷ n ∷ bytes) h = rw (le-ltb leaf leaves h)
  none_past (suc b ∷ bytes) h = rw (le-ltb leaf leaves h)

  pub done : (bytes : List ℕ) → leaves ≤ leaf → row_from leaves leaf bytes ≡ answer []
  unfolding visible
  done bytes h = ap (mapped (visible leaf)) (none_past bytes h)

  pub none_left : leaf < leaves → row_from leaves leaf [] ≡ refused 33
  unfolding row_bits
  none_left h = rw (lt-ltb leaf leaves h)

  pub zero_left : leaf < leaves → row_from leaves leaf (0 ∷ []) ≡ refused 33
  unfolding row_bits
  zero_left h = rw (lt-ltb leaf leaves h)

  pub zero_byte : (n : ℕ) (bytes : List ℕ) → leaf < leaves → row_from leaves leaf (0 ∷ n ∷ bytes) ≡ row_from leaves (leaf + 8 * n) bytes
  unfolding row_bits
  zero_byte n bytes h = rw (lt-ltb leaf leaves h) (after_zeros leaf (8 * n) (row_bits leaves (leaf + 8 * n) bytes))

-- the bits of a byte for the leaves below the count; there are fewer than eight in the last byte only
last : (leaf : ℕ) (xs : List Bool) → answer (visible leaf (xs ++ [])) ≡ answer (visible leaf xs ++ visible (leaf + 8) [])
unfolding visible
last leaf xs = ap answer (rw (append-nil xs, append-nil (visible leaf xs)))

pub after_kept : (leaves leaf b : ℕ) (bytes : List ℕ)
    → mapped (visible leaf) (before (bits (in_byte leaves leaf) b) (row_bits leaves (leaf + 8) bytes)) ≡ before (visible leaf (bits (in_byte leaves leaf) b)) (row_from leaves (leaf + 8) bytes)
after_kept leaves leaf b bytes = go (leb 8 (leaves - leaf)) refl
  where
    go : (t : Bool) → leb 8 (leaves - leaf) ≡ t
        → mapped (visible leaf) (before (bits (in_byte leaves leaf) b) (row_bits leaves (leaf + 8) bytes)) ≡ before (visible leaf (bits (in_byte leaves leaf) b)) (row_from leaves (leaf + 8) bytes)
    go true e =
        let m : in_byte leaves leaf ≡ 8 = min-eq_left (leb-true 8 (leaves - leaf) e) in
        rw m (after_byte leaf b (row_bits leaves (leaf + 8) bytes))
    go false e =
        let h : leaves - leaf < 8 = leb-false 8 (leaves - leaf) e in
        let k : leaves ≤ leaf + 8 = omega arith in
        rw (none_past leaves (leaf + 8) bytes k) (last leaf (bits (in_byte leaves leaf) b))

-- the same bits as a byte of their own
abbrev pub kept_bits : ℕ → ℕ → ℕ → ℕ
kept_bits leaves leaf b = b % 2 ^ in_byte leaves leaf

pub kept_leaves : (leaves leaf b : ℕ) → byte_leaves leaf (kept_bits leaves leaf b) ≡ visible leaf (bits (in_byte leaves leaf) b)
kept_leaves leaves leaf b = low_bits 8 (in_byte leaves leaf) leaf b (min-le_left 8 (leaves - leaf))

module _ (leaves leaf : ℕ) where
  pub bit_byte : (b : ℕ) (bytes : List ℕ) → leaf < leaves → (b ≡ 0 → ⊥)
      → row_from leaves leaf (b ∷ bytes) ≡ before (byte_leaves leaf (kept_bits leaves leaf b)) (row_from leaves (leaf + 8) bytes)
  unfolding row_bits
  bit_byte zero bytes h z = absurd (z refl)
  bit_byte (suc b) bytes h z = rw (lt-ltb leaf leaves h, kept_leaves leaves leaf (suc b)) (after_kept leaves leaf (suc b) bytes)

  -- the same at a position of the data
  module _ (s : List ℕ) (at : ℕ) (h : leaf < leaves) where
    pub ended : length s ≤ at → row_from leaves leaf (drop at s) ≡ refused 33
    ended k = rw (drop_of_length-le s k) (none_left leaves leaf h)

    pub cut : at < length s → get_or s at 0 ≡ 0 → length s ≤ at + 1 → row_from leaves leaf (drop at s) ≡ refused 33
    cut k z e =
        let m : length s ≤ suc at = omega arith in
        rw (drop-cons s at 0 k, z, drop_of_length-le s m) (zero_left leaves leaf h)

    pub skipped : at + 1 < length s → get_or s at 0 ≡ 0
        → row_from leaves leaf (drop at s) ≡ row_from leaves (leaf + 8 * get_or s (at + 1) 0) (drop (at + 1 + 1) s)
    skipped k z =
        let j : at < length s = omega arith in
        let m : suc at < length s = omega arith in
        rw (drop-cons s at 0 j, z, drop-cons s (suc at) 0 m) (zero_byte leaves leaf (get_or s (suc at) 0) (drop (suc (suc at)) s) h ∙ simp add-one)

    pub byte : at < length s → (get_or s at 0 ≡ 0 → ⊥)
        → row_from leaves leaf (drop at s) ≡ before (byte_leaves leaf (kept_bits leaves leaf (get_or s at 0))) (row_from leaves (leaf + 8) (drop (at + 1) s))
    byte k z = rw (drop-cons s at 0 k, add-one) (bit_byte (get_or s at 0) (drop (suc at) s) h z)
