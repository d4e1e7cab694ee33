-- A row is whole exactly if the groups from its offset to the end of the data stand for all leaves; the notes of these groups. Assumes nothing.
use Prim.Native.Nat.{ℕ, zero, suc, ◌+◌, ◌-◌, ◌*◌, ◌/◌, ◌%◌, ◌<◌, ◌≤◌}
use mathlib.Core.Path.{◌≡◌, refl, sym, ap, ◌∙◌}
use mathlib.Core.Bool.{Bool, true, false, cond}
use mathlib.Core.List.{List, [], ◌∷◌, ◌++◌}
use native.Mathlib.Decide.{ℕ_discrete}
use native.Mathlib.Numerals.{add-one}
use native.Mathlib.Omega.{arith}
use borrow.Author.Tests.{lt-ltb, le-ltb, ltb-true, ltb-false}
use lib.Dec.{ltb}
use lib.ListN.{length, drop, get_or, set, replicate, length-set, drop_of_length-le, get_or-eq_default}
use lib.Seq.{drop-cons, get_or-set_same, get_or-set_other}
use Rattle.std.proofs.Common.{Ok, Err}
use Rattle.std.specs.Prelude.{Result}
use Rattle.std.specs.Borrow.{Bor}
use Rattle.format.specs.Answer.{Answer, answer, refused}
use Rattle.format.specs.declared.refusal.Refusal.{Refusal}
use Rattle.format.specs.declared.section.BspFileSection.{BspFileSection}
use Rattle.vis.specs.Row.{bits, before, in_byte, row_bits, row_at}
use Rattle.vis.specs.Answers.{bytes_of}
use Rattle.vis.specs.Pvs.{visibility_of}
use Rattle.vis.proofs.Sections.{few_bytes}
use Rattle.accept.specs.Accept.{passes, whole_row}
use Rattle.accept.specs.Fast.{groups, groups_by, note_of, with_note, NotedFrom, Noted, Notes, RowsNoted}

-- ---- a row

abbrev Whole : Answer (List Bool) → Type 0
Whole a = (l : List Bool) × (a ≡ answer l)

whole_when : (b : Bool) (xs : List Bool) (a : Answer (List Bool)) → Whole a → Whole (cond b (before xs a) (answer []))
whole_when true xs a p = (xs ++ p.0, rw p.1)
whole_when false xs a p = ([], refl)

whole_bits : (n leaf : ℕ) (bytes : List ℕ) → n ≤ leaf + 8 * groups bytes → Whole (row_bits n leaf bytes)
unfolding row_bits groups
whole_bits n leaf [] h = let k : n ≤ leaf = omega arith in ([], rw (le-ltb leaf n k))
whole_bits n leaf (zero ∷ []) h = let k : n ≤ leaf = omega arith in ([], rw (le-ltb leaf n k))
whole_bits n leaf (zero ∷ k ∷ bytes) h = whole_when (ltb leaf n) (replicate (8 * k) false) (row_bits n (leaf + 8 * k) bytes) (whole_bits n (leaf + 8 * k) bytes (omega arith))
whole_bits n leaf (suc b ∷ bytes) h = whole_when (ltb leaf n) (bits (in_byte n leaf) (suc b)) (row_bits n (leaf + 8) bytes) (whole_bits n (leaf + 8) bytes (omega arith))

cut_bits : (n leaf : ℕ) (bytes : List ℕ) → leaf + 8 * groups bytes < n → row_bits n leaf bytes ≡ refused 33
unfolding row_bits groups
cut_bits n leaf [] h = let k : leaf < n = omega arith in rw (lt-ltb leaf n k)
cut_bits n leaf (zero ∷ []) h = let k : leaf < n = omega arith in rw (lt-ltb leaf n k)
cut_bits n leaf (zero ∷ k ∷ bytes) h = let j : leaf < n = omega arith in rw (lt-ltb leaf n j, cut_bits n (leaf + 8 * k) bytes (omega arith))
cut_bits n leaf (suc b ∷ bytes) h = let j : leaf < n = omega arith in rw (lt-ltb leaf n j, cut_bits n (leaf + 8) bytes (omega arith))

module _ (v : List ℕ) (offset n : ℕ) where
  pub past : length v < offset → refused 35 ≡ whole_row (row_at v offset n)
  unfolding row_at
  past h = rw (lt-ltb (length v) offset h)

  module _ (h : offset ≤ length v) (g : ℕ) (e : g ≡ groups (drop offset v)) where
    pub too_few : g < (n + 6) / 8 → refused 35 ≡ whole_row (row_at v offset n)
    unfolding row_at
    too_few k = rw (le-ltb (length v) offset h, cut_bits n 1 (drop offset v) (omega arith))

    pub all_there : (n + 6) / 8 ≤ g → passes ≡ whole_row (row_at v offset n)
    unfolding row_at
    all_there k = let w : Whole (row_bits n 1 (drop offset v)) = whole_bits n 1 (drop offset v) (omega arith) in rw (le-ltb (length v) offset h, w.1)

-- ---- the groups from a position on

module _ (v : List ℕ) (at : ℕ) where
  pub none_left : length v ≤ at → groups (drop at v) ≡ 0
  unfolding groups
  none_left h = rw (drop_of_length-le v h)

  pub cut_off : at < length v → get_or v at 0 ≡ 0 → length v ≤ at + 1 → groups (drop at v) ≡ 0
  unfolding groups
  cut_off h z e = let m : length v ≤ suc at = omega arith in rw (drop-cons v at 0 h, z, drop_of_length-le v m)

  pub run : at + 1 < length v → get_or v at 0 ≡ 0 → groups (drop at v) ≡ get_or v (at + 1) 0 + groups (drop (at + 1 + 1) v)
  unfolding groups
  run h z =
      let j : at < length v = omega arith in
      let m : suc at < length v = omega arith in
      rw (drop-cons v at 0 j, z, drop-cons v (suc at) 0 m) (simp add-one)

  literal : (b : ℕ) (rest : List ℕ) → (b ≡ 0 → ⊥) → groups (b ∷ rest) ≡ 1 + groups rest
  unfolding groups
  literal zero rest f = absurd (f refl)
  literal (suc b) rest f = refl

  pub one : at < length v → (get_or v at 0 ≡ 0 → ⊥) → groups (drop at v) ≡ 1 + groups (drop (at + 1) v)
  one h f = rw (drop-cons v at 0 h, add-one) (literal (get_or v at 0) (drop (suc at) v) f)

few_by : (b count next after n : ℕ) → next ≤ n → after ≤ n → count < 256 → groups_by b count next after ≤ n + 256
few_by zero count next after n p q h = omega arith
few_by (suc b) count next after n p q h = omega arith

groups_by_lem : (v : List ℕ) (at count next after : ℕ) → at < length v → count ≡ get_or v (at + 1) 0 → next ≡ groups (drop (at + 1) v) → after ≡ groups (drop (at + 1 + 1) v)
    → groups_by (get_or v at 0) count next after ≡ groups (drop at v)
groups_by_lem v at count next after h p q r = by (get_or v at 0) refl
  where
    zero_byte : get_or v at 0 ≡ 0 → (b : Bool) → ltb (at + 1) (length v) ≡ b → after + count ≡ groups (drop at v)
    zero_byte z true t = omega (arith, run v at (ltb-true (at + 1) (length v) t) z)
    zero_byte z false t =
        let k : length v ≤ at + 1 = ltb-false (at + 1) (length v) t in
        let l : length v ≤ at + 1 + 1 = omega arith in
        let n : count ≡ 0 = p ∙ get_or-eq_default v 0 k in
        let m : after ≡ 0 = r ∙ none_left v (at + 1 + 1) l in
        omega (arith, cut_off v at h z k)

    by : (b : ℕ) → get_or v at 0 ≡ b → groups_by b count next after ≡ groups (drop at v)
    by zero e = zero_byte e (ltb (at + 1) (length v)) refl
    by (suc b) e = omega (arith, one v at h (λ z. let y : ◌≡◌ {A = ℕ} 0 (suc b) = sym z ∙ e in omega arith))

-- the groups of the positions passed, and those from `at` on, are all from the offset on
module _ (v : List ℕ) (at sum total : ℕ) (e : sum + groups (drop at v) ≡ total) where
  pub at_end : length v ≤ at → sum ≡ total
  at_end h = omega (arith, none_left v at h)

  pub at_cut : at < length v → get_or v at 0 ≡ 0 → length v ≤ at + 1 → sum ≡ total
  at_cut h z k = omega (arith, cut_off v at h z k)

  pub at_note : (notes : List ℕ) (r : ℕ) → r ≡ get_or notes (note_of at) 0 → Notes v notes → at < length v → at % 64 < 2 → sum + r ≡ total
  at_note notes r q f h t = let p : r ≡ groups (drop at v) = q ∙ f.noted at (omega arith) h t in rw p e

  pub over_literal : at < length v → (get_or v at 0 ≡ 0 → ⊥) → sum ≤ 256 * at → (sum + 1 ≤ 256 * (at + 1)) × (sum + 1 + groups (drop (at + 1) v) ≡ total)
  over_literal h d l = (omega arith, omega (arith, one v at h d))

  pub over_run : at + 1 < length v → get_or v at 0 ≡ 0 → get_or v (at + 1) 0 < 256 → sum ≤ 256 * at
      → (sum + get_or v (at + 1) 0 ≤ 256 * (at + 1 + 1)) × (sum + get_or v (at + 1) 0 + groups (drop (at + 1 + 1) v) ≡ total)
  over_run h z b l = (omega arith, omega (arith, run v at h z))

-- ---- the notes

pub put : (v notes : List ℕ) (at n : ℕ) → length notes ≡ 32768 → at < 1048576 → n ≡ groups (drop at v) → NotedFrom (at + 1) v notes → NotedFrom at v (with_note at n notes)
unfolding with_note
put v notes at n l h e f k low in-v first = by (ℕ_discrete k at)
  where
    here : k ≡ at → get_or (cond (ltb (at % 64) 2) (set notes (note_of at) n) notes) (note_of k) 0 ≡ groups (drop k v)
    here q =
        let t : at % 64 < 2 = omega arith in
        let i : note_of at < length notes = omega arith in
        rw (q, lt-ltb (at % 64) 2 t, get_or-set_same notes (note_of at) n 0 i) e

    later : (b : Bool) → (note_of k ≡ note_of at → ⊥) → get_or notes (note_of k) 0 ≡ groups (drop k v) → get_or (cond b (set notes (note_of at) n) notes) (note_of k) 0 ≡ groups (drop k v)
    later true d g = get_or-set_other notes (note_of at) (note_of k) n 0 d ∙ g
    later false d g = g

    by : Dec (k ≡ at) → get_or (cond (ltb (at % 64) 2) (set notes (note_of at) n) notes) (note_of k) 0 ≡ groups (drop k v)
    by (yes q) = here q
    by (no d) = other (ltb (at % 64) 2) refl
      where
        other : (b : Bool) → ltb (at % 64) 2 ≡ b → get_or (cond b (set notes (note_of at) n) notes) (note_of k) 0 ≡ groups (drop k v)
        other true t = let u : at % 64 < 2 = ltb-true (at % 64) 2 t in later true (λ q. d (omega arith)) (f k (omega arith) in-v first)
        other false t = f k (omega arith) in-v first

as_long : (at n : ℕ) (notes : List ℕ) → length (with_note at n notes) ≡ length notes
unfolding with_note
as_long at n notes = by (ltb (at % 64) 2)
  where
    by : (b : Bool) → length (cond b (set notes (note_of at) n) notes) ≡ length notes
    by true = length-set notes (note_of at) n
    by false = refl

-- the positions from `at` on are noted; `count` is the byte there, `next` and `after` are the groups from there and from the next one
pub record Noting (v notes : List ℕ) (at count next after : ℕ) : Type 0 where
  pub at_in : at ≤ length v
  pub all : length notes ≡ 32768
  pub count_is : count ≡ get_or v at 0
  pub next_is : next ≡ groups (drop at v)
  pub after_is : after ≡ groups (drop (at + 1) v)
  pub count_small : count < 256
  pub next_few : next ≤ 256 * (length v - at)
  pub after_few : after ≤ 256 * (length v - at)
  pub noted : NotedFrom at v notes

pub noting_starts : (v notes : List ℕ) → length notes ≡ 32768 → Noting v notes (length v) 0 0 0
noting_starts v notes l =
    let h : length v ≤ length v = omega arith in
    record {
      at_in = h;
      all = l;
      count_is = sym (get_or-eq_default v 0 h);
      next_is = sym (none_left v (length v) h);
      after_is = sym (none_left v (length v + 1) (omega arith));
      count_small = omega arith;
      next_few = omega arith;
      after_few = omega arith;
      noted = λ k low h t. absurd (omega arith);
    }

module _ (v notes : List ℕ) (at count next after : ℕ) where
  pub noting_more : length v ≤ 1048576 → 0 < at → Noting v notes at count next after → get_or v (at - 1) 0 < 256
      → (r : ℕ) → r ≡ groups_by (get_or v (at - 1) 0) count next after → (l : List ℕ) → l ≡ with_note (at - 1) r notes → Noting v l (at - 1) (get_or v (at - 1) 0) r next
  noting_more small h f b r g l e =
      let back : at - 1 + 1 ≡ at = omega arith in
      let here : at - 1 < length v = omega (arith, f.at_in) in
      let is : r ≡ groups (drop (at - 1) v) = g ∙ groups_by_lem v (at - 1) count next after here (rw back f.count_is) (rw back f.next_is) (rw back f.after_is) in
      let few : groups_by (get_or v (at - 1) 0) count next after ≤ 256 * (length v - at) + 256 = few_by (get_or v (at - 1) 0) count next after (256 * (length v - at)) f.next_few f.after_few f.count_small in
      record {
        at_in = omega (arith, f.at_in);
        all = ap length e ∙ as_long (at - 1) r notes ∙ f.all;
        count_is = refl;
        next_is = is;
        after_is = rw back f.next_is;
        count_small = b;
        next_few = omega (arith, few, g, f.at_in);
        after_few = omega (arith, f.next_few, f.at_in);
        noted = rw e (put v notes (at - 1) r f.all (omega (arith, f.at_in)) is (rw back f.noted));
      }

-- ---- the notes of the section

-- the notes of the bytes that were read are those of the section, and one that cannot be read has none
module _ (s : List ℕ) (z : BspFileSection) (bytes : Result (Bor (List ℕ)) Refusal) (read : bytes_of bytes ≡ visibility_of s z) (notes : List ℕ) where
  pub rows_noted : (b : Bor (List ℕ)) → bytes ≡ Ok b → Noted b.now notes → RowsNoted s z bytes notes
  rows_noted b q f = record {
    read = read;
    of_data = λ v e.
        let p : b.now ≡ v = cc in
        record { small = few_bytes s z v (sym e); noted = rw (← p) f };
  }

  pub none_noted : (e : Refusal) → bytes ≡ Err e → RowsNoted s z bytes notes
  none_noted e q = record {
    read = read;
    of_data = λ v f. let z : ◌≡◌ {A = ℕ} 0 1 = cc in absurd (omega arith);
  }
