-- What a file of body sizes is accepted for and what it is refused for: both directions. Assumes nothing.
use Prim.Native.Nat.{ℕ, zero, suc, ◌+◌, ◌≤◌}
use mathlib.Core.Path.{◌≡◌, refl, sym, ap, ◌∙◌, subst}
use mathlib.Core.Logic.{inl, inr, ◌⊎◌}
use mathlib.Core.Bool.{Bool, true, false, cond, ◌&&◌}
use mathlib.Core.List.{List, []}
use native.Mathlib.Omega.{arith}
use borrow.Author.Tests.{lt-leb}
use lib.Dec.{eqb, leb}
use lib.ListN.{length}
use Rattle.format.specs.Answer.{answer, refused}
use Rattle.sizes.specs.Sizes.{Field, FieldRow, row, cut_short, size_at, field_at, behind, field_then, row_from, is_whole, place_of, sizes_in, judged, are_bodies, judged_row, sizes_of}
use Rattle.sizes.specs.Files.{LaidOut, TwoFields, Spells, Accepted, Unfit}
use Rattle.sizes.specs.declared.BodySizes.{BodySizes}
use Rattle.sizes.proofs.Rows.{first_then_second, second_then_first, whole_laid}

spells : (s : List ℕ) (z : BodySizes) → Spells s z → sizes_of s ≡ judged z
spells s z p = by p.either
  where
    by : (LaidOut s 1 2 × (z ≡ sizes_in s 3 30)) ⊎ (LaidOut s 2 1 × (z ≡ sizes_in s 30 3)) → sizes_of s ≡ judged z
    by (inl q) = first_then_second s q.0 ∙ ap judged (sym q.1)
    by (inr q) = second_then_first s q.0 ∙ ap judged (sym q.1)

in_layout : (s : List ℕ) → TwoFields s → (z : BodySizes) × Spells s z
in_layout s (inl l) = (sizes_in s 3 30, record { either = inl (l, refl) })
in_layout s (inr l) = (sizes_in s 30 3, record { either = inr (l, refl) })

-- a whole row or 26
decided : (s : List ℕ) → ((z : BodySizes) × Spells s z) ⊎ (sizes_of s ≡ refused 26)
unfolding sizes_of
decided s = by (row_from (length s) s 0) refl
  where
    judge : (fs : List Field) → row_from (length s) s 0 ≡ row fs → (b : Bool) → is_whole fs ≡ b
        → ((z : BodySizes) × Spells s z) ⊎ (cond b (judged (sizes_in s (place_of 1 fs) (place_of 2 fs))) (refused 26) ≡ refused 26)
    judge fs q true w = inl (in_layout s (whole_laid s fs q w))
    judge fs q false w = inr refl

    by : (r : FieldRow) → row_from (length s) s 0 ≡ r → ((z : BodySizes) × Spells s z) ⊎ (judged_row s r ≡ refused 26)
    by (row fs) q = judge fs q (is_whole fs) refl
    by cut_short q = inr refl

-- ---- what is accepted

-- every file of two right fields, in either order, with good bounds
pub accepts : (s : List ℕ) (z : BodySizes) → Spells s z → are_bodies z ≡ true → sizes_of s ≡ answer z
accepts s z p g = spells s z p ∙ ap (λ b. cond b (answer z) (refused 27)) g

-- 27 for each other one of these
pub not_bodies : (s : List ℕ) (z : BodySizes) → Spells s z → are_bodies z ≡ false → sizes_of s ≡ refused 27
not_bodies s z p g = spells s z p ∙ ap (λ b. cond b (answer z) (refused 27)) g

-- and no other
judged_answer : (x z : BodySizes) (b : Bool) → are_bodies x ≡ b → cond b (answer x) (refused 27) ≡ answer z → (x ≡ z) × (are_bodies x ≡ true)
judged_answer x z true g e = (let q : x ≡ z = cc in q, g)
judged_answer x z false g e = let w : ◌≡◌ {A = ℕ} 0 1 = cc in absurd (omega arith)

pub accepted : (s : List ℕ) (z : BodySizes) → sizes_of s ≡ answer z → Accepted s z
accepted s z e = by (decided s)
  where
    given : (x : BodySizes) → Spells s x → (x ≡ z) × (are_bodies x ≡ true) → Accepted s z
    given x p q = subst (Accepted s) q.0 (record { spells_them = p; bodies = q.1 })

    by : ((x : BodySizes) × Spells s x) ⊎ (sizes_of s ≡ refused 26) → Accepted s z
    by (inl p) = given p.0 p.1 (judged_answer p.0 z (are_bodies p.0) refl (sym (spells s p.0 p.1) ∙ e))
    by (inr q) = let w : ◌≡◌ {A = ℕ} 0 1 = cc in absurd (omega arith)

-- ---- what is refused

judged_refused : (x : BodySizes) (n : ℕ) (b : Bool) → are_bodies x ≡ b → cond b (answer x) (refused 27) ≡ refused n → (n ≡ 27) × (are_bodies x ≡ false)
judged_refused x n true g e = let w : ◌≡◌ {A = ℕ} 0 1 = cc in absurd (omega arith)
judged_refused x n false g e = (let q : n ≡ 27 = cc in q, g)

-- 27 comes after 26 over the whole file: it is said of the two layouts alone, and of bounds that are no bodies
pub refusals : (s : List ℕ) (n : ℕ) → sizes_of s ≡ refused n → ((n ≡ 26) × (TwoFields s → ⊥)) ⊎ ((n ≡ 27) × Unfit s)
refusals s n e = by (decided s)
  where
    unfit : (x : BodySizes) → Spells s x → (n ≡ 27) × (are_bodies x ≡ false) → ((n ≡ 26) × (TwoFields s → ⊥)) ⊎ ((n ≡ 27) × Unfit s)
    unfit x p q = inr (q.0, record { sizes = x; spells_them = p; no_bodies = q.1 })

    never : (x : BodySizes) → sizes_of s ≡ refused 26 → (b : Bool) → sizes_of s ≡ cond b (answer x) (refused 27) → ⊥
    never x q true w = let u : ◌≡◌ {A = ℕ} 0 1 = cc in omega arith
    never x q false w = let u : ◌≡◌ {A = ℕ} 26 27 = cc in omega (arith, u)

    by : ((x : BodySizes) × Spells s x) ⊎ (sizes_of s ≡ refused 26) → ((n ≡ 26) × (TwoFields s → ⊥)) ⊎ ((n ≡ 27) × Unfit s)
    by (inl p) = unfit p.0 p.1 (judged_refused p.0 n (are_bodies p.0) refl (sym (spells s p.0 p.1) ∙ e))
    by (inr q) =
        let w : n ≡ 26 = cc in
        inl (w, λ l. let x = in_layout s l in never x.0 q (are_bodies x.0) (spells s x.0 x.1))

-- ---- a row has no more fields than the file has bytes: more turns change nothing

past : (s : List ℕ) (at : ℕ) (rest : ℕ → FieldRow) (b : Bool) → eqb at (length s) ≡ b → length s ≤ at → cond b (row []) (field_then s at rest) ≡ cond b (row []) cut_short
past s at rest true q h = refl
past s at rest false q h = simp (lt-leb (at + 3) (length s) (omega (arith, h)))

pub enough_turns : (k : ℕ) (s : List ℕ) (at : ℕ) → length s ≤ at + k → row_from (suc k) s at ≡ row_from k s at
unfolding row_from
enough_turns zero s at h = past s at (row_from zero s) (eqb at (length s)) refl (omega (arith, h))
enough_turns (suc k) s at h =
    ap (λ r. cond (eqb at (length s)) (row []) (cond (leb (at + 3) (length s) && leb (at + 3 + size_at s at) (length s)) (behind (field_at s at) r) cut_short))
    (enough_turns k s (at + 3 + size_at s at) (omega (arith, h)))
