-- The union of the bytes of several rows, and the rows from their cursors on. Assumes nothing.
use borrow.Author.Tests.{ltb-true, ltb-false, leb-true, leb-false, eqb-true, eqb-false}
use mathlib.Core.Path.{◌≡◌, refl, sym, ap, ◌∙◌}
use mathlib.Core.Bool.{Bool, true, false, cond}
use mathlib.Core.List.{List, [], ◌∷◌}
use Prim.Native.Nat.{ℕ, zero, suc, ◌+◌, ◌*◌, ◌/◌, ◌%◌, ◌^◌, ◌<◌, ◌≤◌, max, min}
use native.Mathlib.Nat.{min-le_left, min-le_right, min-eq_left, min-eq_right}
use native.Mathlib.Omega.{arith}
use lib.Bits.{bit_or, or_step, or_mod}
use lib.Dec.{eqb, ltb, leb}
use lib.ListN.{length, drop, get_or, set, length-set}
use lib.Seq.{get_or-set_same, get_or-set_other}
use Rattle.format.specs.Answer.{Answer, answer, refused}
use Rattle.vis.specs.Row.{bits, before, visible, in_byte, row_from, byte_leaves}
use Rattle.team.specs.Team.{holds, seen}
use Rattle.team.specs.Starts.{or_none}
use Rattle.team.specs.SideBySide.{kept_bits, rest_of, rests_of, Whole, Cursors, Together}
use Rattle.vis.proofs.Rows.{done, none_left, zero_left, zero_byte, bit_byte}
use Rattle.team.proofs.Cursors.{no_leaf}
use Rattle.team.proofs.Ranges.{holds_append}

-- one or the other
abbrev pub any : Bool → Bool → Bool
any a b = cond a true b

pub any_assoc : (a b c : Bool) → any a (any b c) ≡ any (any a b) c
any_assoc true b c = refl
any_assoc false b c = refl

any_swap : (a b c : Bool) → any a (any b c) ≡ any b (any a c)
any_swap true true c = refl
any_swap true false c = refl
any_swap false b c = refl

any_same : (t a b : Bool) → any t (any a b) ≡ any (any t a) (any t b)
any_same true a b = refl
any_same false a b = refl

-- the leaves of the union of two numbers are those of either
first_of : (k leaf m n : ℕ) (x y z : List Bool) → m < 2 → n < 2 → holds k (visible (leaf + 1) z) ≡ any (holds k (visible (leaf + 1) x)) (holds k (visible (leaf + 1) y))
    → holds k (visible leaf (eqb (max m n) 1 ∷ z)) ≡ any (holds k (visible leaf (eqb m 1 ∷ x))) (holds k (visible leaf (eqb n 1 ∷ y)))
unfolding visible holds
first_of k leaf zero zero x y z h l e = e
first_of k leaf zero (suc zero) x y z h l e = ap (any (eqb leaf k)) e ∙ any_swap (eqb leaf k) (holds k (visible (leaf + 1) x)) (holds k (visible (leaf + 1) y))
first_of k leaf (suc zero) zero x y z h l e = ap (any (eqb leaf k)) e ∙ any_assoc (eqb leaf k) (holds k (visible (leaf + 1) x)) (holds k (visible (leaf + 1) y))
first_of k leaf (suc zero) (suc zero) x y z h l e = ap (any (eqb leaf k)) e ∙ any_same (eqb leaf k) (holds k (visible (leaf + 1) x)) (holds k (visible (leaf + 1) y))
first_of k leaf (suc (suc m)) n x y z h l e = absurd (omega arith)
first_of k leaf zero (suc (suc n)) x y z h l e = absurd (omega arith)
first_of k leaf (suc zero) (suc (suc n)) x y z h l e = absurd (omega arith)

or_digit : (x q m : ℕ) → x ≡ q * 2 + m → m < 2 → (x % 2 ≡ m) × (x / 2 ≡ q)
or_digit x q m e h = (omega arith, omega arith)

max_small : (m n : ℕ) → m < 2 → n < 2 → max m n < 2
max_small zero zero h l = omega arith
max_small zero (suc zero) h l = omega arith
max_small (suc zero) zero h l = omega arith
max_small (suc zero) (suc zero) h l = omega arith
max_small (suc (suc m)) n h l = absurd (omega arith)
max_small zero (suc (suc n)) h l = absurd (omega arith)
max_small (suc zero) (suc (suc n)) h l = absurd (omega arith)

bits_or : (n k leaf a b : ℕ) → holds k (visible leaf (bits n (bit_or a b))) ≡ any (holds k (visible leaf (bits n a))) (holds k (visible leaf (bits n b)))
unfolding bits holds visible
bits_or zero k leaf a b = refl
bits_or (suc n) k leaf a b =
    let d = or_digit (bit_or a b) (bit_or (a / 2) (b / 2)) (max (a % 2) (b % 2)) (or_step a b) (max_small (a % 2) (b % 2) (omega arith) (omega arith)) in
    rw (d.0, d.1)
    (first_of k leaf (a % 2) (b % 2) (bits n (a / 2)) (bits n (b / 2)) (bits n (bit_or (a / 2) (b / 2))) (omega arith) (omega arith) (bits_or n k (leaf + 1) (a / 2) (b / 2)))

pub union_holds : (count leaf k a b : ℕ)
    → holds k (byte_leaves leaf (kept_bits count leaf (bit_or a b))) ≡ any (holds k (byte_leaves leaf (kept_bits count leaf a))) (holds k (byte_leaves leaf (kept_bits count leaf b)))
union_holds count leaf k a b = rw (or_mod a b (in_byte count leaf)) (bits_or 8 k leaf (a % 2 ^ in_byte count leaf) (b % 2 ^ in_byte count leaf))

-- a row is refused with 33 alone
abbrev pub only33 : Answer (List ℕ) → Type 0
only33 (answer l) = Unit
only33 (refused n) = n ≡ 33

only_before : (xs : List ℕ) (a : Answer (List ℕ)) → only33 a → only33 (before xs a)
only_before xs (answer l) r = tt
only_before xs (refused n) r = r

pub row_only : (count leaf : ℕ) (bytes : List ℕ) → only33 (row_from count leaf bytes)
row_only count leaf [] = go (ltb leaf count) refl
  where
    go : (t : Bool) → ltb leaf count ≡ t → only33 (row_from count leaf [])
    go true e = rw (none_left count leaf (ltb-true _ _ e)) refl
    go false e = rw (done count leaf [] (ltb-false _ _ e)) tt
row_only count leaf (zero ∷ []) = go (ltb leaf count) refl
  where
    go : (t : Bool) → ltb leaf count ≡ t → only33 (row_from count leaf (zero ∷ []))
    go true e = rw (zero_left count leaf (ltb-true _ _ e)) refl
    go false e = rw (done count leaf (zero ∷ []) (ltb-false _ _ e)) tt
row_only count leaf (zero ∷ n ∷ bytes) = go (ltb leaf count) refl (row_only count (leaf + 8 * n) bytes)
  where
    go : (t : Bool) → ltb leaf count ≡ t → only33 (row_from count (leaf + 8 * n) bytes) → only33 (row_from count leaf (zero ∷ n ∷ bytes))
    go true e r = rw (zero_byte count leaf n bytes (ltb-true _ _ e)) r
    go false e r = rw (done count leaf (zero ∷ n ∷ bytes) (ltb-false _ _ e)) tt
row_only count leaf (suc b ∷ bytes) = go (ltb leaf count) refl (row_only count (leaf + 8) bytes)
  where
    go : (t : Bool) → ltb leaf count ≡ t → only33 (row_from count (leaf + 8) bytes) → only33 (row_from count leaf (suc b ∷ bytes))
    go true e r =
        let z : suc b ≡ 0 → ⊥ = λ q. omega arith in
        rw (bit_byte count leaf (suc b) bytes (ltb-true _ _ e) z) (only_before (byte_leaves leaf (kept_bits count leaf (suc b))) (row_from count (leaf + 8) bytes) r)
    go false e r = rw (done count leaf (suc b ∷ bytes) (ltb-false _ _ e)) tt

-- a row that gives a byte's leaves and then a rest that is whole
front_holds : (k : ℕ) (xs : List ℕ) (a b : Answer (List ℕ)) → a ≡ before xs b → (b ≡ refused 33 → ⊥) → only33 b
    → holds k (or_none a) ≡ any (holds k xs) (holds k (or_none b))
front_holds k xs a (answer l) e v o = rw e (holds_append k xs l)
front_holds k xs a (refused n) e v o = absurd (v (ap refused o))

-- one row steps on
pub holds_none : (k : ℕ) → holds k [] ≡ false
unfolding holds
holds_none k = refl

lt_min : {a b c : ℕ} → a < b → a < c → a < min b c
lt_min {a} {b} {c} h k = go (leb b c) refl
  where
    go : (t : Bool) → leb b c ≡ t → a < min b c
    go true e = rw (min-eq_left (leb-true b c e)) h
    go false e = let l : c ≤ b = omega (arith, leb-false b c e) in rw (min-eq_right l) k

module _ (s : List ℕ) (count : ℕ) where
  pub one_stepped : (k i at' group' : ℕ) (ats groups : List ℕ) (t : Bool) → i < length ats → length ats ≡ length groups
      → holds k (rest_of s count (get_or ats i 0) (get_or groups i 0)) ≡ any t (holds k (rest_of s count at' group'))
      → seen k (rests_of s count ats groups) ≡ any t (seen k (rests_of s count (set ats i at') (set groups i group')))
  unfolding rests_of seen
  one_stepped k i at' group' [] groups t h l e = absurd (omega arith)
  one_stepped k i at' group' (at ∷ ats) [] t h l e = absurd (omega arith)
  one_stepped k zero at' group' (at ∷ ats) (group ∷ groups) t h l e = rw e (sym (any_assoc t (holds k (rest_of s count at' group')) (seen k (rests_of s count ats groups))))
  one_stepped k (suc i) at' group' (at ∷ ats) (group ∷ groups) t h l e =
      ap (any (holds k (rest_of s count at group))) (one_stepped k i at' group' ats groups t (omega arith) (omega arith) e)
      ∙ any_swap (holds k (rest_of s count at group)) t (seen k (rests_of s count (set ats i at') (set groups i group')))

  module _ (this : ℕ) (ats₀ groups₀ : List ℕ) where
    -- i rows have given their bytes, whose union is `pool`, and no cursor of theirs has passed the group `next`
    pub record Pooling (ats groups : List ℕ) (pool next i : ℕ) : Type 0 where
      pub as_many : length ats ≡ length ats₀
      pub as_many_groups : length groups ≡ length groups₀
      pub later : this < next
      pub passed : (j : ℕ) → j < i → j < length ats → Whole s count next (get_or ats j 0) (get_or groups j 0)
      pub ahead : (j : ℕ) → i ≤ j → j < length ats → Whole s count this (get_or ats j 0) (get_or groups j 0)
      pub together : Together s count this ats₀ groups₀ pool ats groups

    pub pool_starts : (next : ℕ) → this < next → Cursors s count this ats₀ groups₀ → Pooling ats₀ groups₀ 0 next 0
    pool_starts next l h = record {
      as_many = refl;
      as_many_groups = refl;
      later = l;
      passed = λ j k l. absurd (omega arith);
      ahead = λ j k l. h j l;
      together = λ k. rw (no_leaf count (1 + 8 * this)) (none k);
    }
      where
        none : (k : ℕ) → seen k (rests_of s count ats₀ groups₀) ≡ any (holds k []) (seen k (rests_of s count ats₀ groups₀))
        none k = rw (holds_none k)

    module _ (same : length ats₀ ≡ length groups₀) (ats groups : List ℕ) (pool next i : ℕ) (p : Pooling ats groups pool next i) (h : i < length ats) where
      pub next_whole : Whole s count this (get_or ats i 0) (get_or groups i 0)
      next_whole = p.ahead i (omega arith) h

      pub in_groups : i < length groups
      in_groups = omega (arith, p.as_many, p.as_many_groups)

      pub pool_next : (at' group' byte least : ℕ)
          → (at' ≤ length s) × (group' ≤ 255 * at') × (this < group')
          × (row_from count (1 + 8 * get_or groups i 0) (drop (get_or ats i 0) s)
          ≡ before (byte_leaves (1 + 8 * this) (kept_bits count (1 + 8 * this) byte)) (row_from count (1 + 8 * group') (drop at' s)))
          → least ≡ min next group'
          → Pooling (set ats i at') (set groups i group') (bit_or pool byte) least (i + 1)
      pool_next at' group' byte least e m = record {
        as_many = length-set ats i at' ∙ p.as_many;
        as_many_groups = length-set groups i group' ∙ p.as_many_groups;
        later = lower p.later e.2;
        passed = λ j k l. passed' j (eqb j i) refl k (rw (length-set ats i at') at l);
        ahead = λ j k l. ahead' j k (rw (length-set ats i at') at l);
        together = together';
      }
        where
          least_next : least ≤ next
          least_next = omega (arith, m, min-le_left next group')

          least_group : least ≤ group'
          least_group = omega (arith, m, min-le_right next group')

          lower : this < next → this < group' → this < least
          lower a b = rw m (lt_min a b)

          whole' : row_from count (1 + 8 * group') (drop at' s) ≡ refused 33 → ⊥
          whole' q = next_whole.3 (rw q at e.3)

          new : Whole s count least at' group'
          new = (e.0, e.1, least_group, whole')

          passed' : (j : ℕ) (t : Bool) → eqb j i ≡ t → j < i + 1 → j < length ats → Whole s count least (get_or (set ats i at') j 0) (get_or (set groups i group') j 0)
          passed' j true q k l =
              let w : j ≡ i = eqb-true j i q in
              rw (w, get_or-set_same ats i at' 0 h, get_or-set_same groups i group' 0 in_groups) new
          passed' j false q k l =
              let w : j ≡ i → ⊥ = eqb-false j i q in
              let o = p.passed j (omega arith) l in
              rw (get_or-set_other ats i j at' 0 w, get_or-set_other groups i j group' 0 w) (o.0, o.1, omega (arith, o.2, least_next), o.3)

          ahead' : (j : ℕ) → i + 1 ≤ j → j < length ats → Whole s count this (get_or (set ats i at') j 0) (get_or (set groups i group') j 0)
          ahead' j k l =
              let w : j ≡ i → ⊥ = λ q. omega arith in
              rw (get_or-set_other ats i j at' 0 w, get_or-set_other groups i j group' 0 w) (p.ahead j (omega arith) l)

          together' : Together s count this ats₀ groups₀ (bit_or pool byte) (set ats i at') (set groups i group')
          together' k =
              let xs = byte_leaves (1 + 8 * this) (kept_bits count (1 + 8 * this) byte) in
              let ys = byte_leaves (1 + 8 * this) (kept_bits count (1 + 8 * this) pool) in
              let f = front_holds k xs (row_from count (1 + 8 * get_or groups i 0) (drop (get_or ats i 0) s)) (row_from count (1 + 8 * group') (drop at' s)) e.3 whole' (row_only count (1 + 8 * group') (drop at' s)) in
              let m : length ats ≡ length groups = omega (arith, p.as_many, p.as_many_groups) in
              let rest = seen k (rests_of s count (set ats i at') (set groups i group')) in
              p.together k
              ∙ ap (any (holds k ys)) (one_stepped k i at' group' ats groups (holds k xs) h m f)
              ∙ any_assoc (holds k ys) (holds k xs) rest
              ∙ ap (λ (t : Bool). any t rest) (sym (union_holds count (1 + 8 * this) k pool byte))
