-- In which range the leaves of a row lie: from its first leaf on, below the count. Assumes nothing.
use Rattle.std.specs.Prelude.{Option, Some, None}
use borrow.Author.Tests.{eqb-true, ltb-true, ltb-false}
use mathlib.Core.Path.{◌≡◌, refl, sym, ◌∙◌}
use mathlib.Core.Bool.{Bool, true, false, cond}
use mathlib.Core.List.{List, [], ◌∷◌, ◌++◌}
use Prim.Native.Nat.{ℕ, zero, suc, ◌+◌, ◌-◌, ◌*◌, ◌<◌, ◌≤◌}
use native.Mathlib.Nat.{min-le_right}
use native.Mathlib.Omega.{arith}
use lib.Dec.{eqb, ltb}
use lib.ListN.{length, drop}
use Rattle.format.specs.Answer.{Answer, answer, refused, then_answer}
use Rattle.format.specs.declared.section.BspData.{BspData}
use Rattle.records.specs.Leaf.{leaf_of}
use Rattle.records.specs.declared.leaf.BspLeaf.{BspLeaf}
use Rattle.vis.specs.Row.{bits, before, in_byte, visible, row_from, row_at, byte_leaves}
use Rattle.vis.specs.Pvs.{visibility_of, section_row, row_of, pvs_of}
use Rattle.vis.proofs.SetBits.{length_bits}
use Rattle.vis.proofs.Rows.{done, none_left, zero_left, zero_byte, bit_byte, kept_leaves}
use Rattle.team.specs.Team.{holds}
use Rattle.team.specs.SideBySide.{kept_bits}

pub no : {A : Type 0} → false ≡ true → A
no e = let z : ◌≡◌ {A = ℕ} 0 1 = cc in absurd (omega arith)

-- a list holds what one of its two parts holds
pub holds_append : (k : ℕ) (xs ys : List ℕ) → holds k (xs ++ ys) ≡ cond (holds k xs) true (holds k ys)
unfolding holds
holds_append k [] ys = refl
holds_append k (x ∷ xs) ys = go (eqb x k) (holds_append k xs ys)
  where
    go : (t : Bool) → holds k (xs ++ ys) ≡ cond (holds k xs) true (holds k ys) → cond t true (holds k (xs ++ ys)) ≡ cond (cond t true (holds k xs)) true (holds k ys)
    go true e = refl
    go false e = e

-- the leaves of bits are numbered from `leaf` on, as many as there are bits
pub visible_range : (k leaf : ℕ) (xs : List Bool) → holds k (visible leaf xs) ≡ true → (leaf ≤ k) × (k < leaf + length xs)
unfolding visible holds
visible_range k leaf [] e = no e
visible_range k leaf (true ∷ xs) e = go (eqb leaf k) refl (λ m. visible_range k (leaf + 1) xs m) e
  where
    go : (t : Bool) → eqb leaf k ≡ t → (holds k (visible (leaf + 1) xs) ≡ true → (leaf + 1 ≤ k) × (k < leaf + 1 + length xs))
        → cond t true (holds k (visible (leaf + 1) xs)) ≡ true → (leaf ≤ k) × (k < leaf + suc (length xs))
    go true q r f = let z : leaf ≡ k = eqb-true leaf k q in (omega arith, omega arith)
    go false q r f = let m = r f in (omega (arith, m.0), omega (arith, m.1))
visible_range k leaf (false ∷ xs) e = let m = visible_range k (leaf + 1) xs e in (omega (arith, m.0), omega (arith, m.1))

-- the numbers of a list are in a range
abbrev pub in_range : ℕ → ℕ → Answer (List ℕ) → Type 0
in_range leaf count (answer l) = (k : ℕ) → holds k l ≡ true → (leaf ≤ k) × (k < count)
in_range leaf count (refused n) = Unit

pub none_held : (k : ℕ) → holds k [] ≡ true → ⊥
unfolding holds
none_held k e = no e

pub one_of : (s t : Bool) → cond s true t ≡ true → (s ≡ false → t ≡ true)
one_of true t e f = no (sym f)
one_of false t e f = e

-- a byte and the rest of the row
byte_range : (count leaf b : ℕ) (rest : Answer (List ℕ)) → leaf < count → in_range (leaf + 8) count rest
    → in_range leaf count (before (byte_leaves leaf (kept_bits count leaf b)) rest)
byte_range count leaf b (refused n) h r = tt
byte_range count leaf b (answer l) h r = λ k e. go k (holds k (byte_leaves leaf (kept_bits count leaf b))) refl (sym (holds_append k (byte_leaves leaf (kept_bits count leaf b)) l) ∙ e)
  where
    go : (k : ℕ) (t : Bool) → holds k (byte_leaves leaf (kept_bits count leaf b)) ≡ t → cond (holds k (byte_leaves leaf (kept_bits count leaf b))) true (holds k l) ≡ true
        → (leaf ≤ k) × (k < count)
    go k true q e =
        let m = visible_range k leaf (bits (in_byte count leaf) b) (rw (kept_leaves count leaf b) at q) in
        let n = length_bits (in_byte count leaf) b in
        (m.0, omega (arith, m.1, n, min-le_right 8 (count - leaf)))
    go k false q e = let m = r k (one_of _ _ e q) in (omega (arith, m.0), m.1)

weaker : (i j count : ℕ) (a : Answer (List ℕ)) → i ≤ j → in_range j count a → in_range i count a
weaker i j count (answer l) h r = λ k e. let m = r k e in (omega (arith, m.0), m.1)
weaker i j count (refused n) h r = tt

nothing : (leaf count : ℕ) → in_range leaf count (answer [])
nothing leaf count = λ k e. absurd (none_held k e)

-- Note 3: a row lists leaves from `leaf` on, below the count
pub row_range : (count leaf : ℕ) (bytes : List ℕ) → in_range leaf count (row_from count leaf bytes)
row_range count leaf [] = go (ltb leaf count) refl
  where
    go : (t : Bool) → ltb leaf count ≡ t → in_range leaf count (row_from count leaf [])
    go true e = rw (none_left count leaf (ltb-true _ _ e)) tt
    go false e = rw (done count leaf [] (ltb-false _ _ e)) (nothing leaf count)
row_range count leaf (zero ∷ []) = go (ltb leaf count) refl
  where
    go : (t : Bool) → ltb leaf count ≡ t → in_range leaf count (row_from count leaf (zero ∷ []))
    go true e = rw (zero_left count leaf (ltb-true _ _ e)) tt
    go false e = rw (done count leaf (zero ∷ []) (ltb-false _ _ e)) (nothing leaf count)
row_range count leaf (zero ∷ n ∷ bytes) = go (ltb leaf count) refl (row_range count (leaf + 8 * n) bytes)
  where
    go : (t : Bool) → ltb leaf count ≡ t → in_range (leaf + 8 * n) count (row_from count (leaf + 8 * n) bytes) → in_range leaf count (row_from count leaf (zero ∷ n ∷ bytes))
    go true e r = rw (zero_byte count leaf n bytes (ltb-true _ _ e)) (weaker leaf (leaf + 8 * n) count (row_from count (leaf + 8 * n) bytes) (omega arith) r)
    go false e r = rw (done count leaf (zero ∷ n ∷ bytes) (ltb-false _ _ e)) (nothing leaf count)
row_range count leaf (suc b ∷ bytes) = go (ltb leaf count) refl (row_range count (leaf + 8) bytes)
  where
    go : (t : Bool) → ltb leaf count ≡ t → in_range (leaf + 8) count (row_from count (leaf + 8) bytes) → in_range leaf count (row_from count leaf (suc b ∷ bytes))
    go true e r =
        let z : suc b ≡ 0 → ⊥ = λ q. omega arith in
        rw (bit_byte count leaf (suc b) bytes (ltb-true _ _ e) z) (byte_range count leaf (suc b) (row_from count (leaf + 8) bytes) (ltb-true _ _ e) r)
    go false e r = rw (done count leaf (suc b ∷ bytes) (ltb-false _ _ e)) (nothing leaf count)

-- Note 3: a visibility list holds only numbers from 1 on, below the count
pub pvs_range : (file : List ℕ) (map : BspData) (leaf count : ℕ) → in_range 1 count (pvs_of file map leaf count)
unfolding pvs_of section_row row_at
pvs_range file map leaf count = go (eqb leaf 0) (leaf_of file map leaf)
  where
    at_offset : (t : Bool) (bytes : List ℕ) → in_range 1 count (cond t (refused 33) (row_from count 1 bytes))
    at_offset true bytes = tt
    at_offset false bytes = row_range count 1 bytes

    in_section : (v : Answer (List ℕ)) (o : ℕ) → in_range 1 count (then_answer v (λ visibility. row_at visibility o count))
    in_section (answer v) o = at_offset (ltb (length v) o) (drop o v)
    in_section (refused n) o = tt

    row : (o : Option ℕ) → in_range 1 count (row_of file map count o)
    row None = nothing 1 count
    row (Some o) = in_section (visibility_of file map.visibility) o

    go : (t : Bool) (l : Answer BspLeaf) → in_range 1 count (cond t (answer []) (then_answer l (λ l. row_of file map count l.vis_offset)))
    go true l = nothing 1 count
    go false (answer l) = row l.vis_offset
    go false (refused n) = tt
