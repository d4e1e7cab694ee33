-- What stands in a file, and what the readers make of it: a reader reads back the field that was written, one part after another.
-- Assumes nothing.
use Prim.Native.Nat.{ℕ, zero, suc, ◌+◌, ◌*◌, ◌^◌, ◌<◌, ◌≤◌, zero-le}
use mathlib.Core.Path.{◌≡◌, refl, sym, ap, ◌∙◌}
use mathlib.Core.Bool.{Bool, true, false}
use mathlib.Core.List.{List, [], ◌∷◌, ◌++◌}
use native.Mathlib.Nat.{add-zero, add_assoc, zero-mul, suc-mul}
use native.Mathlib.Omega.{arith}
use borrow.Author.Tests.{le-leb, le-ltb, ltb-true, ltb-false}
use lib.Dec.{T, ltb}
use lib.IntN.{ℤ, pos}
use lib.Ieee.{Float, binary32, fits, to_bits, of_bits}
use lib.Ieee.Bits.{of_bits-to_bits, to_bits-lt}
use lib.ListN.{length, get_or, length-append, get_or-append}
use lib.Seq.{get_or-append-add}
use mir.Syntax.{w16, w32}
use mir.Val.{SFits, of_z}
use mir.ValLaws.{of_z_fits}
use mir.Facts.{to_z-of_z}
use Rattle.format.specs.Step.{Step, ok, and_then}
use Rattle.format.specs.Field.{field, u16_at, u32_at, i16_at, i32_at, f32_at, index_at}
use Rattle.written.specs.Bytes.{u16, u32, i16, i32, f32, joined, row}

-- the bytes xs stand in the file s from a position on
pub record Lies (xs s : List ℕ) (at : ℕ) : Type 0 where
  pub inside : at + length xs ≤ length s
  pub same : (i : ℕ) → i < length xs → get_or s (at + i) 0 ≡ get_or xs i 0

pub whole : (s : List ℕ) → Lies s s 0
whole s = record { inside = omega arith; same = λ i h. ap (λ (k : ℕ). get_or s k 0) (omega arith) }

-- a part of what stands there
module _ (xs ys : List ℕ) {s : List ℕ} {at : ℕ} (l : Lies (xs ++ ys) s at) where
  pub first : Lies xs s at
  first = record {
    inside = omega (arith, length-append xs ys, l.inside);
    same = λ i h. l.same i (omega (arith, length-append xs ys)) ∙ get_or-append xs ys 0 i h;
  }

  pub rest : Lies ys s (at + length xs)
  rest = record {
    inside = omega (arith, length-append xs ys, l.inside);
    same = λ i h.
        ap (λ (k : ℕ). get_or s k 0) (add_assoc at (length xs) i)
        ∙ l.same (length xs + i) (omega (arith, length-append xs ys))
        ∙ get_or-append-add xs ys i 0;
  }

-- parts one after another, each where the one before it ends
abbrev pub Laid : List (List ℕ) → List ℕ → ℕ → Type 0
Laid [] s at = Unit {0}
Laid (xs ∷ xss) s at = Lies xs s at × Laid xss s (at + length xs)

pub laid : (xss : List (List ℕ)) (s : List ℕ) (at : ℕ) → Lies (joined xss) s at → Laid xss s at
laid [] s at l = tt
laid (xs ∷ xss) s at l = (first xs (joined xss) l, laid xss s (at + length xs) (rest xs (joined xss) l))

-- wherever the bytes xs stand, the reader gives the value v and goes past them
pub record Reads {A : Type 0} (one : List ℕ → ℕ → Step A) (xs : List ℕ) (v : A) : Type 0 where
  pub reads : (s : List ℕ) (at : ℕ) → Lies xs s at → one s at ≡ ok v (at + length xs)

-- one field and then the rest
pub then : {A B : Type 0} {f : List ℕ → ℕ → Step A} {xs ys : List ℕ} {v : A} {w : B} (g : A → List ℕ → ℕ → Step B)
    → Reads f xs v → Reads (g v) ys w → Reads (λ s at. and_then (f s at) (λ v p. g v s p)) (xs ++ ys) w
then {xs = xs} {ys = ys} {w = w} g a b = record {
  reads = λ s at l.
      rw (a.reads s at (first xs ys l))
      (b.reads s (at + length xs) (rest xs ys l) ∙ ap (ok w) (add_assoc at (length xs) (length ys) ∙ ap (λ (k : ℕ). at + k) (sym (length-append xs ys))));
}

-- the last field, and what is made of it
pub last : {A B : Type 0} {f : List ℕ → ℕ → Step A} {xs : List ℕ} {v : A} {w : B} (g : A → ℕ → Step B)
    → Reads f xs v → ((p : ℕ) → g v p ≡ ok w p) → Reads (λ s at. and_then (f s at) g) xs w
last {xs = xs} g a h = record { reads = λ s at l. rw (a.reads s at l) (h (at + length xs)) }

-- the fields

here : {x : ℕ} {xs s : List ℕ} {at : ℕ} → Lies (x ∷ xs) s at → get_or s at 0 ≡ x
here {s = s} {at = at} l = ap (λ (k : ℕ). get_or s k 0) (sym (add-zero at)) ∙ l.same 0 (omega arith)

-- a field of k bytes, by what these bytes are
of_field : {A : Type 0} {v : A} (k : ℕ) (xs : List ℕ) (f : List ℕ → ℕ → A) → length xs ≡ k → ((s : List ℕ) (at : ℕ) → Lies xs s at → f s at ≡ v)
    → Reads (λ s at. field k s at (f s at)) xs v
of_field k xs f e h = record {
  reads = λ s at l. rw (le-leb (at + k) (length s) (omega (arith, l.inside)), h s at l, e) refl;
}

pub reads_u16 : (n : ℕ) → n < 2 ^ 16 → Reads u16_at (u16 n) n
unfolding u16_at
reads_u16 n h = of_field 2 (u16 n) _ refl (λ s at l. omega (arith, here l, l.same 1 (omega arith)))

pub reads_u32 : (n : ℕ) → n < 2 ^ 32 → Reads u32_at (u32 n) n
unfolding u32_at
reads_u32 n h = of_field 4 (u32 n) _ refl (λ s at l. omega (arith, here l, l.same 1 (omega arith), l.same 2 (omega arith), l.same 3 (omega arith)))

-- another value of the same bytes
pub reads_i16 : (x : ℤ) → SFits w16 x → Reads i16_at (i16 x) x
unfolding i16_at
reads_i16 x f = last _ (reads_u16 (of_z w16 x) (of_z_fits w16 x f).fits) (λ p. ap (λ (z : ℤ). ok z p) (to_z-of_z f))

pub reads_i32 : (x : ℤ) → SFits w32 x → Reads i32_at (i32 x) x
unfolding i32_at
reads_i32 x f = last _ (reads_u32 (of_z w32 x) (of_z_fits w32 x f).fits) (λ p. ap (λ (z : ℤ). ok z p) (to_z-of_z f))

pub reads_bits : (n : ℕ) → n < 2 ^ 32 → Reads f32_at (u32 n) (of_bits binary32 n)
unfolding f32_at
reads_bits n h = last _ (reads_u32 n h) (λ p. refl)

pub reads_f32 : (x : Float) → T (fits binary32 x) → Reads f32_at (f32 x) x
unfolding f32_at
reads_f32 x f = last _ (reads_u32 (to_bits binary32 x) (to_bits-lt binary32 x f)) (λ p. ap (λ (z : Float). ok z p) (of_bits-to_bits binary32 x f))

-- a number that is not negative
pub reads_index : (e n : ℕ) → n < 2 ^ 31 → Reads (index_at e) (u32 n) n
unfolding index_at
reads_index e n h = last _ (reads_i32 (pos n) (record { sfits = h })) (λ p. rw (le-ltb n 0 zero-le))

-- parts of k bytes, one after another
module _ (part : ℕ → List ℕ) (k : ℕ) where
  pub row_length : (n : ℕ) → ((i : ℕ) → i < n → length (part i) ≡ k) → length (row part n) ≡ n * k
  unfolding row
  row_length zero h = sym (zero-mul k)
  row_length (suc n) h =
      let a = row_length n (λ i l. h i (omega arith)) in
      let b = h n (omega arith) in
      omega (arith, length-append (row part n) (part n), suc-mul n k)

  pub row_lies : (n : ℕ) {s : List ℕ} {at : ℕ} → ((i : ℕ) → i < n → length (part i) ≡ k) → Lies (row part n) s at → (i : ℕ) → i < n → Lies (part i) s (at + i * k)
  unfolding row
  row_lies zero h l i j = absurd (omega arith)
  row_lies (suc n) {s} {at} h l i j = by (row_lies n (λ i l. h i (omega arith)) (first (row part n) (part n) l) i) (ltb i n) refl
    where
      by : (i < n → Lies (part i) s (at + i * k)) → (t : Bool) → ltb i n ≡ t → Lies (part i) s (at + i * k)
      by again true e = again (ltb-true i n e)
      by again false e =
          let b = ltb-false i n e in
          let q : i ≡ n = omega arith in
          rw q (rw (row_length n (λ i l. h i (omega arith))) at (rest (row part n) (part n) l))
