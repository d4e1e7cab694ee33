-- What a team can see: the pooled list is strictly increasing, and holds a leaf exactly if one of the players' lists does; there is one such
-- list only. Assumes nothing.
use borrow.Author.Tests.{eqb-true, eqb-false, eq-eqb, ne_eqb, ltb-true, ltb-false}
use mathlib.Core.Path.{◌≡◌, refl, sym, ap, ◌∙◌, subst}
use mathlib.Core.Bool.{Bool, true, false, cond}
use mathlib.Core.List.{List, [], ◌∷◌}
use Prim.Native.Nat.{ℕ, zero, suc, ◌+◌, ◌-◌, ◌<◌, ◌≤◌}
use native.Mathlib.Omega.{arith}
use lib.Dec.{eqb, ltb}
use lib.ListN.{length, get_or}
use Rattle.format.specs.Answer.{Answer, answer, refused, mapped, then_answer}
use Rattle.format.specs.declared.section.BspData.{BspData}
use Rattle.vis.specs.Pvs.{pvs_of}
use Rattle.team.specs.Team.{holds, seen, pooled, lists_of, team_of}
use Rattle.team.specs.Pooled.{Increasing, SeenBy, EveryTeam, OneList}
use Rattle.team.proofs.Ranges.{no, none_held, one_of, in_range, pvs_range}

-- all numbers of the list are at least k, and each is below the next
rising : ℕ → List ℕ → Type 0
rising k [] = Unit
rising k (x ∷ xs) = (k ≤ x) × rising (x + 1) xs

rising_less : (j k : ℕ) (xs : List ℕ) → j ≤ k → rising k xs → rising j xs
unfolding rising
rising_less j k [] h r = tt
rising_less j k (x ∷ xs) h r = (omega (arith, r.0), r.1)

pooled_rising : (lists : List (List ℕ)) (leaf n : ℕ) → rising leaf (pooled lists leaf n)
unfolding pooled rising
pooled_rising lists leaf zero = tt
pooled_rising lists leaf (suc n) = go (seen leaf lists) (pooled_rising lists (leaf + 1) n)
  where
    go : (t : Bool) → rising (leaf + 1) (pooled lists (leaf + 1) n) → rising leaf (cond t (leaf ∷ pooled lists (leaf + 1) n) (pooled lists (leaf + 1) n))
    go true r = (omega arith, r)
    go false r = rising_less leaf (leaf + 1) (pooled lists (leaf + 1) n) (omega arith) r

rising_next : (k : ℕ) (xs : List ℕ) → rising k xs → (i : ℕ) → suc i < length xs → get_or xs i 0 < get_or xs (suc i) 0
unfolding rising
rising_next k [] r i h = absurd (omega arith)
rising_next k (x ∷ []) r i h = absurd (omega arith)
rising_next k (x ∷ y ∷ ys) r zero h = omega (arith, r.1.0)
rising_next k (x ∷ y ∷ ys) r (suc i) h = rising_next (x + 1) (y ∷ ys) r.1 i (omega arith)

-- the pooled list holds, of the n leaves from `leaf` on, those that one of the lists holds
rising_holds : (k j : ℕ) (xs : List ℕ) → rising j xs → k < j → holds k xs ≡ false
unfolding rising holds
rising_holds k j [] r h = refl
rising_holds k j (x ∷ xs) r h =
    let n : x ≡ k → ⊥ = λ e. omega (arith, r.0) in
    rw (ne_eqb x k n) (rising_holds k (x + 1) xs r.1 (omega (arith, r.0)))

pub pooled_holds : (lists : List (List ℕ)) (k leaf n : ℕ) → leaf ≤ k → k < leaf + n → holds k (pooled lists leaf n) ≡ seen k lists
unfolding pooled holds
pooled_holds lists k leaf zero h l = absurd (omega arith)
pooled_holds lists k leaf (suc n) h l = go (eqb leaf k) refl (seen leaf lists) refl (λ m. pooled_holds lists k (leaf + 1) n m (omega arith))
  where
    go : (t : Bool) → eqb leaf k ≡ t → (s : Bool) → seen leaf lists ≡ s → (leaf + 1 ≤ k → holds k (pooled lists (leaf + 1) n) ≡ seen k lists)
        → holds k (cond s (leaf ∷ pooled lists (leaf + 1) n) (pooled lists (leaf + 1) n)) ≡ seen k lists
    go true e true f r = let q : leaf ≡ k = eqb-true leaf k e in rw e (sym f ∙ ap (λ (x : ℕ). seen x lists) q)
    go true e false f r =
        let q : leaf ≡ k = eqb-true leaf k e in
        rising_holds k (leaf + 1) (pooled lists (leaf + 1) n) (pooled_rising lists (leaf + 1) n) (omega arith) ∙ sym f ∙ ap (λ (x : ℕ). seen x lists) q
    go false e true f r = let q : leaf ≡ k → ⊥ = eqb-false leaf k e in rw e (r (omega arith))
    go false e false f r = let q : leaf ≡ k → ⊥ = eqb-false leaf k e in r (omega arith)

pub pooled_below : (lists : List (List ℕ)) (k leaf n : ℕ) → k < leaf → holds k (pooled lists leaf n) ≡ false
pooled_below lists k leaf n h = rising_holds k leaf (pooled lists leaf n) (pooled_rising lists leaf n) h

pub pooled_above : (lists : List (List ℕ)) (k leaf n : ℕ) → leaf + n ≤ k → holds k (pooled lists leaf n) ≡ false
unfolding pooled holds
pooled_above lists k leaf zero h = refl
pooled_above lists k leaf (suc n) h = go (seen leaf lists) (pooled_above lists k (leaf + 1) n (omega arith))
  where
    go : (s : Bool) → holds k (pooled lists (leaf + 1) n) ≡ false → holds k (cond s (leaf ∷ pooled lists (leaf + 1) n) (pooled lists (leaf + 1) n)) ≡ false
    go true r = let q : leaf ≡ k → ⊥ = λ e. omega arith in rw (ne_eqb leaf k q) r
    go false r = r

-- the players' lists, one for each
pub first_list : (file : List ℕ) (map : BspData) (count leaf : ℕ) (leaves : List ℕ) (a : Answer (List ℕ)) (b : Answer (List (List ℕ))) (lists : List (List ℕ))
    → answer lists ≡ then_answer a (λ l. mapped (λ (ls : List (List ℕ)). l ∷ ls) b)
    → (l : List ℕ) × (ls : List (List ℕ)) × (answer l ≡ a) × (answer ls ≡ b) × (lists ≡ l ∷ ls)
first_list file map count leaf leaves (answer l) (answer ls) lists e = let q : lists ≡ l ∷ ls = cc in (l, ls, refl, refl, q)
first_list file map count leaf leaves (answer l) (refused n) lists e = let z : ◌≡◌ {A = ℕ} 0 1 = cc in absurd (omega arith)
first_list file map count leaf leaves (refused n) b lists e = let z : ◌≡◌ {A = ℕ} 0 1 = cc in absurd (omega arith)

module _ (file : List ℕ) (map : BspData) (count : ℕ) where
  -- a leaf is seen exactly if the list of one of the players holds it
  seen_by_one : (leaves : List ℕ) (lists : List (List ℕ)) (k : ℕ) → answer lists ≡ lists_of file map count leaves → seen k lists ≡ true
      → SeenBy file map leaves count k
  unfolding lists_of seen
  seen_by_one [] lists k e s = let q : lists ≡ [] = cc in no (rw q at s)
  seen_by_one (leaf ∷ leaves) lists k e s =
      let f = first_list file map count leaf leaves (pvs_of file map leaf count) (lists_of file map count leaves) lists e in
      go f.0 f.1 f.2 (holds k f.0) refl (λ m. seen_by_one leaves f.1 k f.3 m) (rw f.4 at s)
    where
      go : (l : List ℕ) (ls : List (List ℕ)) → answer l ≡ pvs_of file map leaf count → (t : Bool) → holds k l ≡ t
          → (seen k ls ≡ true → SeenBy file map leaves count k)
          → cond (holds k l) true (seen k ls) ≡ true → SeenBy file map (leaf ∷ leaves) count k
      go l ls a true q r s = record { player = 0; list = l; among = omega arith; sees = a; held = q }
      go l ls a false q r s =
          let m = r (one_of _ _ s q) in
          record { player = suc m.player; list = m.list; among = omega (arith, m.among); sees = m.sees; held = m.held }

  seen_by_any : (leaves : List ℕ) (lists : List (List ℕ)) (k : ℕ) → answer lists ≡ lists_of file map count leaves → (i : ℕ) (l : List ℕ) → i < length leaves
      → answer l ≡ pvs_of file map (get_or leaves i 0) count → holds k l ≡ true → seen k lists ≡ true
  unfolding lists_of seen
  seen_by_any [] lists k e i l h a s = absurd (omega arith)
  seen_by_any (leaf ∷ leaves) lists k e zero l h a s =
      let f = first_list file map count leaf leaves (pvs_of file map leaf count) (lists_of file map count leaves) lists e in
      let p : answer l ≡ answer f.0 = a ∙ sym f.2 in
      let q : l ≡ f.0 = cc in
      let t : holds k f.0 ≡ true = ap (holds k) (sym q) ∙ s in
      rw (f.4, t)
  seen_by_any (leaf ∷ leaves) lists k e (suc i) l h a s =
      let f = first_list file map count leaf leaves (pvs_of file map leaf count) (lists_of file map count leaves) lists e in
      rw f.4 (go (holds k f.0) (seen_by_any leaves f.1 k f.3 i l (omega arith) a s))
    where
      go : {t : Bool} (s : Bool) → t ≡ true → cond s true t ≡ true
      go true e = refl
      go false e = e

  module _ (leaves xs : List ℕ) (e : answer xs ≡ team_of file map leaves count) where
    pool : (lists : List (List ℕ)) × (answer lists ≡ lists_of file map count leaves) × (xs ≡ pooled lists 1 (count - 1))
    unfolding team_of
    pool = go (ltb 16 (length leaves)) (lists_of file map count leaves) refl e
      where
        go : (t : Bool) (a : Answer (List (List ℕ))) → a ≡ lists_of file map count leaves
            → answer xs ≡ cond t (refused 25) (mapped (λ (ls : List (List ℕ)). pooled ls 1 (count - 1)) a)
            → (lists : List (List ℕ)) × (answer lists ≡ lists_of file map count leaves) × (xs ≡ pooled lists 1 (count - 1))
        go true a q e = let z : ◌≡◌ {A = ℕ} 0 1 = cc in absurd (omega arith)
        go false (answer lists) q e = let w : xs ≡ pooled lists 1 (count - 1) = cc in (lists, q, w)
        go false (refused n) q e = let z : ◌≡◌ {A = ℕ} 0 1 = cc in absurd (omega arith)

    increasing : Increasing xs
    increasing i h =
        let p = pool in
        let r : rising 1 xs = rw p.2 (pooled_rising p.0 1 (count - 1)) in
        rising_next 1 xs r i h

    only : (k : ℕ) → holds k xs ≡ true → SeenBy file map leaves count k
    only k h =
        let p = pool in
        seen_by_one leaves p.0 k p.1 (go p.0 (rw p.2 at h))
      where
        go : (lists : List (List ℕ)) → holds k (pooled lists 1 (count - 1)) ≡ true → seen k lists ≡ true
        go lists h = below_count (ltb k 1) refl (ltb k (1 + (count - 1))) refl
          where
            below_count : (s : Bool) → ltb k 1 ≡ s → (t : Bool) → ltb k (1 + (count - 1)) ≡ t → seen k lists ≡ true
            below_count true a t b = no (sym (pooled_below lists k 1 (count - 1) (ltb-true _ _ a)) ∙ h)
            below_count false a true b = sym (pooled_holds lists k 1 (count - 1) (ltb-false _ _ a) (ltb-true _ _ b)) ∙ h
            below_count false a false b = no (sym (pooled_above lists k 1 (count - 1) (ltb-false _ _ b)) ∙ h)

    all : (k : ℕ) → SeenBy file map leaves count k → holds k xs ≡ true
    all k b =
        let p = pool in
        let r : in_range 1 count (answer b.list) = subst (in_range 1 count) (sym b.sees) (pvs_range file map (get_or leaves b.player 0) count) in
        let m = r k b.held in
        rw p.2 (pooled_holds p.0 k 1 (count - 1) m.0 (omega (arith, m.0, m.1)) ∙ seen_by_any leaves p.0 k p.1 b.player b.list b.among b.sees b.held)

-- Note 9: the pooled list is strictly increasing, and holds a leaf exactly if the list of one of the players does
pub every_team : EveryTeam
every_team file map leaves count xs e = record {
  increasing = increasing file map count leaves xs e;
  only = only file map count leaves xs e;
  all = all file map count leaves xs e;
}

-- and there is one such list only: two lists that rise and hold the same numbers are the same
next_rising : (x : ℕ) (xs : List ℕ) → Increasing (x ∷ xs) → rising (x + 1) xs
unfolding rising
next_rising x [] r = tt
next_rising x (y ∷ ys) r = (omega (arith, r 0 (omega arith)), next_rising y ys (λ i h. r (suc i) (omega arith)))

list_rising : (xs : List ℕ) → Increasing xs → rising 0 xs
unfolding rising
list_rising [] r = tt
list_rising (x ∷ xs) r = (omega arith, next_rising x xs r)

first_held : (x : ℕ) (xs : List ℕ) → holds x (x ∷ xs) ≡ true
unfolding holds
first_held x xs = rw (eq-eqb x x refl)

not_below : (j y : ℕ) (ys : List ℕ) (x : ℕ) → rising j (y ∷ ys) → holds x (y ∷ ys) ≡ true → y ≤ x
unfolding rising
not_below j y ys x r e = go (ltb x y) refl
  where
    go : (t : Bool) → ltb x y ≡ t → y ≤ x
    go true q =
        let l : x < y = ltb-true x y q in
        no (sym (rising_holds x y (y ∷ ys) (omega arith, r.1) l) ∙ e)
    go false q = ltb-false x y q

later_held : (k x : ℕ) (xs : List ℕ) → (x ≡ k → ⊥) → holds k (x ∷ xs) ≡ holds k xs
unfolding holds
later_held k x xs n = rw (ne_eqb x k n)

one_rising : (j : ℕ) (xs ys : List ℕ) → rising j xs → rising j ys → ((k : ℕ) → holds k xs ≡ holds k ys) → xs ≡ ys
unfolding rising
one_rising j [] [] r s e = refl
one_rising j [] (y ∷ ys) r s e = absurd (none_held y (e y ∙ first_held y ys))
one_rising j (x ∷ xs) [] r s e = absurd (none_held x (sym (e x) ∙ first_held x xs))
one_rising j (x ∷ xs) (y ∷ ys) r s e =
    let a : y ≤ x = not_below j y ys x s (sym (e x) ∙ first_held x xs) in
    let b : x ≤ y = not_below j x xs y r (e y ∙ first_held y ys) in
    let q : x ≡ y = omega arith in
    go q (λ f. one_rising (x + 1) xs ys r.1 (rw q s.1) f)
  where
    same : x ≡ y → (k : ℕ) (t : Bool) → ltb k (x + 1) ≡ t → holds k xs ≡ holds k ys
    same q k true l =
        let h : k < x + 1 = ltb-true k (x + 1) l in
        let h' : k < y + 1 = omega arith in
        rising_holds k (x + 1) xs r.1 h ∙ sym (rising_holds k (y + 1) ys s.1 h')
    same q k false l =
        let h : x + 1 ≤ k = ltb-false k (x + 1) l in
        let n : x ≡ k → ⊥ = λ w. omega arith in
        let m : y ≡ k → ⊥ = λ w. omega arith in
        sym (later_held k x xs n) ∙ e k ∙ later_held k y ys m

    go : x ≡ y → (((k : ℕ) → holds k xs ≡ holds k ys) → xs ≡ ys) → x ∷ xs ≡ y ∷ ys
    go q f = rw q (ap (λ (l : List ℕ). y ∷ l) (f (λ k. same q k (ltb k (x + 1)) refl)))

either : (s t : Bool) → (s ≡ true → t ≡ true) → (t ≡ true → s ≡ true) → s ≡ t
either true t f g = sym (f refl)
either false true f g = g refl
either false false f g = refl

pub one_list : OneList
one_list file map leaves count xs ys p q =
    one_rising 0 xs ys (list_rising xs p.increasing) (list_rising ys q.increasing)
    (λ k. either (holds k xs) (holds k ys) (λ h. q.all k (p.only k h)) (λ h. p.all k (q.only k h)))
