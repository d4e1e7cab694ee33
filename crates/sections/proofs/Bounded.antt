-- A section that was read to its end has each of its records at its own place. A reader is bounded by k if it takes at most k bytes, and
-- never goes past the file's end; leaves are bounded by 28 and the last of them may be shorter, all other records have their size.
-- Assumes nothing.
use Prim.Native.Nat.{ℕ, zero, suc, ◌+◌, ◌*◌, ◌-◌, ◌<◌, ◌≤◌, min}
use mathlib.Core.Path.{◌≡◌, refl, sym, ap, ◌∙◌, subst}
use mathlib.Core.List.{List}
use mathlib.Core.Bool.{Bool, true, false, cond}
use native.Mathlib.Nat.{zero-mul, suc-mul, add-zero}
use native.Mathlib.Omega.{arith}
use borrow.Author.Tests.{eqb-true, leb-true}
use lib.Dec.{leb, eqb}
use lib.IntN.{pos, nat_abs}
use lib.ListN.{length}
use lib.Signed.{lt_z}
use Rattle.format.specs.Step.{Step, ok, refused, and_then}
use Rattle.format.specs.Field.{field, u8_at, u16_at, u32_at, i16_at, i32_at, f32_at, index_at}
use Rattle.format.specs.Section.{element_size, record_count}
use Rattle.format.specs.declared.section.BspFileSection.{BspFileSection}
use Rattle.format.specs.declared.section.BspFileSectionId.{BspFileSectionId}
use Rattle.format.proofs.Places.{some_bytes}
use Rattle.sections.specs.Position.{check_end_position}
use Rattle.sections.specs.Records.{records, section, each_record}
use Rattle.sections.proofs.Plain.{row_bytes}

pub record Bounded {A : Type 0} (one : List ℕ → ℕ → Step A) (k : ℕ) : Type 0 where
  pub size : (s : List ℕ) (at : ℕ) (v : A) (p : ℕ) → one s at ≡ ok v p → p ≤ at + k
  pub inside : (s : List ℕ) (at : ℕ) (v : A) (p : ℕ) → one s at ≡ ok v p → p ≤ at + (length s - at)

abbrev Is-ok : {A : Type 0} → Step A → Type 0
Is-ok (ok v p) = Unit {0}
Is-ok (refused n) = ⊥

abbrev position : {A : Type 0} → Step A → ℕ
position (ok v p) = p
position (refused n) = 0

-- a refusal is no value
pub not_ok : {A X : Type 0} {n : ℕ} {v : A} {p : ℕ} → refused n ≡ ok v p → X
not_ok e = absurd (subst Is-ok (sym e) tt)

pub at_position : {A : Type 0} {v w : A} {p q : ℕ} → ok v p ≡ ok w q → p ≡ q
at_position e = ap position e

pub of_ok : {A : Type 0} (v : List ℕ → ℕ → A) → Bounded (λ s at. ok (v s at) at) 0
of_ok v = record {
  size = λ s at w p e. omega (arith, at_position e);
  inside = λ s at w p e. omega (arith, at_position e);
}

pub of_refused : {A : Type 0} (n k : ℕ) → Bounded {A = A} (λ s at. refused n) k
of_refused n k = record {
  size = λ s at w p e. not_ok e;
  inside = λ s at w p e. not_ok e;
}

-- at most n bytes, as many as there are
pub of_up_to : {A : Type 0} (n : ℕ) (v : List ℕ → ℕ → A) → Bounded (λ s at. ok (v s at) (at + min n (length s - at))) n
of_up_to n v = record {
  size = λ s at w p e. omega (arith, at_position e);
  inside = λ s at w p e. omega (arith, at_position e);
}

pub of_field : {A : Type 0} (k : ℕ) (v : List ℕ → ℕ → A) → Bounded (λ s at. field k s at (v s at)) k
of_field {A} k v = record {
  size = λ s at w p e. (by s at w p (leb (at + k) (length s)) refl e).0;
  inside = λ s at w p e. (by s at w p (leb (at + k) (length s)) refl e).1;
}
  where
    by : (s : List ℕ) (at : ℕ) (w : A) (p : ℕ) (b : Bool) → leb (at + k) (length s) ≡ b → cond b (ok (v s at) (at + k)) (refused 1) ≡ ok w p
        → (p ≤ at + k) × (p ≤ at + (length s - at))
    by s at w p true h e = let l = leb-true (at + k) (length s) h in (omega (arith, at_position e), omega (arith, at_position e))
    by s at w p false h e = not_ok e

pub of_when : {A : Type 0} {f g : List ℕ → ℕ → Step A} (t : List ℕ → ℕ → Bool) (k : ℕ) → Bounded f k → Bounded g k → Bounded (λ s at. cond (t s at) (f s at) (g s at)) k
of_when {A} {f} {g} t k sf sg = record {
  size = λ s at v p e. (by s at v p (t s at) e).0;
  inside = λ s at v p e. (by s at v p (t s at) e).1;
}
  where
    by : (s : List ℕ) (at : ℕ) (v : A) (p : ℕ) (b : Bool) → cond b (f s at) (g s at) ≡ ok v p → (p ≤ at + k) × (p ≤ at + (length s - at))
    by s at v p true e = (sf.size s at v p e, sf.inside s at v p e)
    by s at v p false e = (sg.size s at v p e, sg.inside s at v p e)

pub then : {A B : Type 0} {f : List ℕ → ℕ → Step A} {j : ℕ} → Bounded f j → (g : A → List ℕ → ℕ → Step B) (k : ℕ) → ((v : A) → Bounded (g v) k)
    → Bounded (λ s at. and_then (f s at) (λ v p. g v s p)) (j + k)
then {A} {B} {f} {j} sf g k sg = record {
  size = λ s at v p e. (by s at v p (f s at) refl e).0;
  inside = λ s at v p e. (by s at v p (f s at) refl e).1;
}
  where
    by : (s : List ℕ) (at : ℕ) (v : B) (p : ℕ) (x : Step A) → f s at ≡ x → and_then x (λ w q. g w s q) ≡ ok v p
        → (p ≤ at + (j + k)) × (p ≤ at + (length s - at))
    by s at v p (ok w q) h e =
        let a = sf.size s at w q h in
        let b = sf.inside s at w q h in
        let c = (sg w).size s q v p e in
        let d = (sg w).inside s q v p e in
        (omega arith, omega arith)
    by s at v p (refused n) h e = not_ok e

module _ {A : Type 0} {one : List ℕ → ℕ → Step A} {k : ℕ} (b : Bounded one k) (s : List ℕ) where
  -- n records take at most n times their bound
  within : (n at q : ℕ) → records one s n at ≡ ok tt q → q ≤ at + n * k
  unfolding records
  within zero at q e = omega (arith, at_position e)
  within (suc n) at q e = by (one s at) refl e (within n)
    where
      by : (x : Step A) → one s at ≡ x → and_then x (λ v p. records one s n p) ≡ ok tt q
          → ((at q : ℕ) → records one s n at ≡ ok tt q → q ≤ at + n * k) → q ≤ at + suc n * k
      by (refused m) w e again = not_ok e
      by (ok v p) w e again =
          let m = suc-mul n k in
          let c = b.size s at v p w in
          let r = again p q e in
          omega arith

  -- where they take all of it, each has its own place
  pub nth : (n at q : ℕ) → records one s n at ≡ ok tt q → at + n * k ≤ q → (i : ℕ) → i < n → (v : A) × (one s (at + i * k) ≡ ok v (at + i * k + k))
  unfolding records
  nth zero at q e f i h = absurd (omega arith)
  nth (suc n) at q e f i h = by (one s at) refl e i h (nth n)
    where
      by : (x : Step A) → one s at ≡ x → and_then x (λ v p. records one s n p) ≡ ok tt q → (i : ℕ) → i < suc n
          → ((at q : ℕ) → records one s n at ≡ ok tt q → at + n * k ≤ q → (i : ℕ) → i < n → (v : A) × (one s (at + i * k) ≡ ok v (at + i * k + k)))
          → (v : A) × (one s (at + i * k) ≡ ok v (at + i * k + k))
      by (refused m) w e i h again = not_ok e
      by (ok v p) w e zero h again =
          let m = suc-mul n k in
          let c = b.size s at v p w in
          let d = within n p q e in
          let a : p ≡ at + k = omega arith in
          (v, rw (zero-mul k, add-zero at) (w ∙ ap (ok v) a))
      by (ok v p) w e (suc i) h again =
          let m = suc-mul i k in
          let l = suc-mul n k in
          let c = b.size s at v p w in
          let d = within n p q e in
          let r = again p q e (omega arith) i (omega arith) in
          let a : p + i * k ≡ at + suc i * k = omega arith in
          (r.0, rw a at r.1)

abbrev here : ℕ → Step (Unit {0})
here p = ok tt p

-- the end position of a section that was read
pub at_end : {A : Type 0} (one : List ℕ → ℕ → Step A) (id : BspFileSectionId) (s : List ℕ) (z : BspFileSection) (q : ℕ) → section one id s z ≡ ok tt q
    → each_record one id s z ≡ ok tt (z.offset + z.size)
unfolding section
at_end one id s z q e = by (each_record one id s z) e
  where
    end : (p : ℕ) (t : Bool) → eqb p (z.offset + z.size) ≡ t → cond t (here p) (refused 7) ≡ here q → here p ≡ here (z.offset + z.size)
    end p true h e = ap here (eqb-true p (z.offset + z.size) h)
    end p false h e = not_ok e

    by : (x : Step (Unit {0})) → and_then x (λ u p. check_end_position z p) ≡ ok tt q → x ≡ ok tt (z.offset + z.size)
    by (ok u p) e = end p (eqb p (z.offset + z.size)) refl e
    by (refused n) e = not_ok e

-- a record of a section that was read: what its reader gives at its place, and that its bytes lie in the file
pub record Stands {A : Type 0} (one : List ℕ → ℕ → Step A) (s : List ℕ) (at k : ℕ) : Type 0 where
  pub value : A
  pub reads : one s at ≡ ok value (at + k)
  pub lies : at + k ≤ length s

pub stands : {A : Type 0} {one : List ℕ → ℕ → Step A} (id : BspFileSectionId) → Bounded one (element_size id) → (s : List ℕ) (z : BspFileSection) (q : ℕ)
    → section one id s z ≡ ok tt q → (i : ℕ) → i < record_count id z → Stands one s (z.offset + i * element_size id) (element_size id)
stands {A} {one} id b s z q e i h =
    let r = nth b s (record_count id z) z.offset (z.offset + z.size) (at_end one id s z q e) (omega (arith, row_bytes id z)) i h in
    record {
      value = r.0;
      reads = r.1;
      lies = omega (arith, b.inside s (z.offset + i * element_size id) r.0 (z.offset + i * element_size id + element_size id) r.1, some_bytes id);
    }

-- the fields
pub bounded_u8 : Bounded u8_at 1
unfolding u8_at
bounded_u8 = of_field 1 _

pub bounded_u16 : Bounded u16_at 2
unfolding u16_at
bounded_u16 = of_field 2 _

pub bounded_u32 : Bounded u32_at 4
unfolding u32_at
bounded_u32 = of_field 4 _

pub bounded_i16 : Bounded i16_at 2
unfolding i16_at
bounded_i16 = then bounded_u16 _ 0 (λ n. of_ok _)

pub bounded_i32 : Bounded i32_at 4
unfolding i32_at
bounded_i32 = then bounded_u32 _ 0 (λ n. of_ok _)

pub bounded_f32 : Bounded f32_at 4
unfolding f32_at
bounded_f32 = then bounded_u32 _ 0 (λ n. of_ok _)

pub bounded_index : (n : ℕ) → Bounded (index_at n) 4
unfolding index_at
bounded_index n = then bounded_i32 _ 0 (λ x. of_when (λ s at. lt_z x (pos 0)) 0 (of_refused n 0) (of_ok (λ s at. nat_abs x)))

-- A second pass over records that stand at their places: `two` reads a record as `one` does and tests it further, so that each record
-- passed the test at its own place.
module _ {A B : Type 0} (one : List ℕ → ℕ → Step A) (two : List ℕ → ℕ → Step B) (s : List ℕ) (k : ℕ)
    (further : (at : ℕ) (v : B) (p : ℕ) → two s at ≡ ok v p → (w : A) × (one s at ≡ ok w p)) where
  pub again : (n at q : ℕ) → records two s n at ≡ ok tt q → ((i : ℕ) → i < n → (w : A) × (one s (at + i * k) ≡ ok w (at + i * k + k)))
      → (i : ℕ) → i < n → (v : B) × (two s (at + i * k) ≡ ok v (at + i * k + k))
  unfolding records
  again zero at q e g i h = absurd (omega arith)
  again (suc n) at q e g i h = by (two s at) refl e i h (again n)
    where
      by : (x : Step B) → two s at ≡ x → and_then x (λ v p. records two s n p) ≡ ok tt q → (i : ℕ) → i < suc n
          → ((at q : ℕ) → records two s n at ≡ ok tt q → ((i : ℕ) → i < n → (w : A) × (one s (at + i * k) ≡ ok w (at + i * k + k)))
          → (i : ℕ) → i < n → (v : B) × (two s (at + i * k) ≡ ok v (at + i * k + k)))
          → (v : B) × (two s (at + i * k) ≡ ok v (at + i * k + k))
      by (refused m) w e i h rest = not_ok e
      by (ok v p) w e i h rest = turn i h
        where
          here_is : p ≡ at + k
          here_is =
              let a = further at v p w in
              let b = g 0 (omega arith) in
              at_position (sym a.1 ∙ rw (zero-mul k, add-zero at) at b.1)

          next : (j : ℕ) → j < n → (u : A) × (one s (p + j * k) ≡ ok u (p + j * k + k))
          next j l =
              let m = suc-mul j k in
              let b = g (suc j) (omega arith) in
              let c = here_is in
              let z : at + suc j * k ≡ p + j * k = omega arith in
              (b.0, rw z at b.1)

          turn : (i : ℕ) → i < suc n → (v : B) × (two s (at + i * k) ≡ ok v (at + i * k + k))
          turn zero h = (v, rw (zero-mul k, add-zero at) (w ∙ ap (ok v) here_is))
          turn (suc i) h =
              let m = suc-mul i k in
              let r = rest p q e next i (omega arith) in
              let c = here_is in
              let z : p + i * k ≡ at + suc i * k = omega arith in
              (r.0, rw z at r.1)
