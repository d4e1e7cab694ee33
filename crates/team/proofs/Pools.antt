-- The pooled list, eight leaves at a time: the leaves of the union of the rows' bytes, and then those of the rows after it, from the next group
-- that a row has a byte for. Assumes nothing.
use borrow.Author.Tests.{leb-true, leb-false, eq-eqb, ne_eqb}
use mathlib.Core.Path.{◌≡◌, refl, sym, ap, ◌∙◌}
use mathlib.Core.Bool.{Bool, true, false, cond}
use mathlib.Core.List.{List, [], ◌∷◌, ◌++◌, append-nil, append_assoc}
use Prim.Native.Nat.{ℕ, zero, suc, ◌+◌, ◌-◌, ◌*◌, ◌<◌, ◌≤◌}
use native.Mathlib.Nat.{add-zero, min-eq_left, min-eq_right}
use native.Mathlib.Omega.{arith}
use lib.Count.{ones, ones-le}
use lib.Dec.{leb}
use lib.ListN.{length, take, drop, length-append}
use lib.Seq.{length-take-le, take_all}
use Rattle.format.specs.Answer.{Answer, answer, refused}
use Rattle.vis.specs.Row.{bits, visible, in_byte, row_from, byte_leaves}
use Rattle.vis.proofs.SetBits.{length_bits, length_visible, ones_in_lem}
use Rattle.vis.proofs.Rows.{kept_leaves}
use Rattle.vis.proofs.Passes.{kept_small}
use Rattle.team.specs.Team.{holds, seen, pooled}
use Rattle.team.specs.Starts.{or_none}
use Rattle.team.specs.SideBySide.{kept_bits, rest_of, rests_of, Cursors, Together}
use Rattle.team.proofs.Ranges.{visible_range, row_range, in_range}

pub pooled_split : (lists : List (List ℕ)) (leaf m n : ℕ) → pooled lists leaf (m + n) ≡ pooled lists leaf m ++ pooled lists (leaf + m) n
unfolding pooled
pooled_split lists leaf zero n = let z : 0 + n ≡ n = omega arith in rw (z, add-zero)
pooled_split lists leaf (suc m) n =
    let z : suc m + n ≡ suc (m + n) = omega arith in
    let y : leaf + 1 + m ≡ leaf + suc m = omega arith in
    rw (z, ← y) (go (seen leaf lists) (pooled_split lists (leaf + 1) m n))
  where
    go : (t : Bool) → pooled lists (leaf + 1) (m + n) ≡ pooled lists (leaf + 1) m ++ pooled lists (leaf + 1 + m) n
        → cond t (leaf ∷ pooled lists (leaf + 1) (m + n)) (pooled lists (leaf + 1) (m + n)) ≡ cond t (leaf ∷ pooled lists (leaf + 1) m) (pooled lists (leaf + 1) m) ++ pooled lists (leaf + 1 + m) n
    go true e = ap (λ (l : List ℕ). leaf ∷ l) e
    go false e = e

-- it goes by which leaves are seen alone
pub pooled_same : (xs ys : List (List ℕ)) (leaf n : ℕ) → ((k : ℕ) → leaf ≤ k → seen k xs ≡ seen k ys) → pooled xs leaf n ≡ pooled ys leaf n
unfolding pooled
pooled_same xs ys leaf zero e = refl
pooled_same xs ys leaf (suc n) e =
    rw (e leaf (omega arith)) (ap (λ (l : List ℕ). cond (seen leaf ys) (leaf ∷ l) l) (pooled_same xs ys (leaf + 1) n (λ k h. e k (omega arith))))

-- leaves that none of the lists holds are not in it
pub pooled_none : (ys : List (List ℕ)) (leaf n : ℕ) → ((k : ℕ) → k < leaf + n → seen k ys ≡ false) → pooled ys leaf n ≡ []
unfolding pooled
pooled_none ys leaf zero e = refl
pooled_none ys leaf (suc n) e = rw (e leaf (omega arith)) (pooled_none ys (leaf + 1) n (λ k h. e k (omega arith)))

none_left_over : (ys : List (List ℕ)) (next n : ℕ) → n ≡ 0 → [] ≡ pooled ys next n
unfolding pooled
none_left_over ys next zero z = refl
none_left_over ys next (suc n) z = absurd (omega arith)

pub pooled_skip : (ys : List (List ℕ)) (count leaf next : ℕ) → leaf ≤ next → ((k : ℕ) → k < next → seen k ys ≡ false)
    → pooled ys leaf (count - leaf) ≡ pooled ys next (count - next)
pooled_skip ys count leaf next h e = go (leb next count) refl
  where
    go : (t : Bool) → leb next count ≡ t → pooled ys leaf (count - leaf) ≡ pooled ys next (count - next)
    go true q =
        let m : next ≤ count = leb-true next count q in
        let n : count - leaf ≡ (next - leaf) + (count - next) = omega arith in
        let l : leaf + (next - leaf) ≡ next = omega arith in
        ap (pooled ys leaf) n ∙ pooled_split ys leaf (next - leaf) (count - next)
        ∙ ap (λ (x : List ℕ). x ++ pooled ys (leaf + (next - leaf)) (count - next)) (pooled_none ys leaf (next - leaf) (λ k p. e k (omega arith)))
        ∙ ap (λ (x : ℕ). pooled ys x (count - next)) l
    go false q =
        let m : count < next = leb-false next count q in
        pooled_none ys leaf (count - leaf) (λ k p. e k (omega arith)) ∙ none_left_over ys next (count - next) (omega arith)

not_held : (k leaf : ℕ) (xs : List Bool) (t : Bool) → holds k (visible leaf xs) ≡ t → (leaf ≤ k → k < leaf + length xs → ⊥) → t ≡ false
not_held k leaf xs true e f = let m = visible_range k leaf xs e in absurd (f m.0 m.1)
not_held k leaf xs false e f = refl

first_held : (leaf : ℕ) (t : Bool) (xs : List Bool) → holds leaf (visible leaf (t ∷ xs)) ≡ t
unfolding visible holds
first_held leaf true xs = rw (eq-eqb leaf leaf refl)
first_held leaf false xs = not_held leaf (leaf + 1) xs (holds leaf (visible (leaf + 1) xs)) refl (λ a b. omega arith)

more_held : (k leaf : ℕ) (t : Bool) (xs : List Bool) → leaf < k → holds k (visible leaf (t ∷ xs)) ≡ holds k (visible (leaf + 1) xs)
unfolding visible holds
more_held k leaf true xs h = let n : leaf ≡ k → ⊥ = λ e. omega arith in rw (ne_eqb leaf k n)
more_held k leaf false xs h = refl

pub pooled_bits : (lists : List (List ℕ)) (leaf : ℕ) (xs : List Bool) → ((k : ℕ) → leaf ≤ k → k < leaf + length xs → seen k lists ≡ holds k (visible leaf xs))
    → pooled lists leaf (length xs) ≡ visible leaf xs
unfolding pooled visible
pooled_bits lists leaf [] e = refl
pooled_bits lists leaf (t ∷ xs) e =
    rw (e leaf (omega arith) (omega arith) ∙ first_held leaf t xs)
    (go t (pooled_bits lists (leaf + 1) xs (λ k a b. e k (omega arith) (omega arith) ∙ more_held k leaf t xs (omega arith))))
  where
    go : (t : Bool) → pooled lists (leaf + 1) (length xs) ≡ visible (leaf + 1) xs
        → cond t (leaf ∷ pooled lists (leaf + 1) (length xs)) (pooled lists (leaf + 1) (length xs)) ≡ visible leaf (t ∷ xs)
    go true q = ap (λ (l : List ℕ). leaf ∷ l) q
    go false q = q

-- the rows from their cursors on list no leaf before the group that no cursor has passed
rest_ahead : (k leaf count : ℕ) (a : Answer (List ℕ)) (t : Bool) → in_range leaf count a → k < leaf → holds k (or_none a) ≡ t → t ≡ false
unfolding holds
rest_ahead k leaf count (answer l) true r h e = let m = r k e in absurd (omega (arith, m.0))
rest_ahead k leaf count (answer l) false r h e = refl
rest_ahead k leaf count (refused n) t r h e = sym e

pub rests_ahead : (s : List ℕ) (count least k : ℕ) (ats groups : List ℕ) → Cursors s count least ats groups → k < 1 + 8 * least → seen k (rests_of s count ats groups) ≡ false
unfolding rests_of seen
rests_ahead s count least k [] groups c h = refl
rests_ahead s count least k (at ∷ ats) [] c h = refl
rests_ahead s count least k (at ∷ ats) (group ∷ groups) c h =
    let w = c 0 (omega arith) in
    let l : k < 1 + 8 * group = omega (arith, w.2) in
    rw (rest_ahead k (1 + 8 * group) count (row_from count (1 + 8 * group) (drop at s)) (holds k (rest_of s count at group)) (row_range count (1 + 8 * group) (drop at s)) l refl)
    (rests_ahead s count least k ats groups (λ i q. c (suc i) (omega arith)) h)

any_false : (a : Bool) → cond a true false ≡ a
any_false true = refl
any_false false = refl

-- one step, over plain lists
module _ (count leaf byte : ℕ) (xs ys : List (List ℕ)) where
  abbrev these : List ℕ
  these = byte_leaves leaf (kept_bits count leaf byte)

  module _ (h : leaf < count) (together : (k : ℕ) → seen k xs ≡ cond (holds k these) true (seen k ys)) (ahead : (k : ℕ) → k < leaf + 8 → seen k ys ≡ false) where
    front : (m : ℕ) → m ≡ in_byte count leaf → m ≤ 8 → pooled xs leaf m ≡ these
    front m e l =
        let n : length (bits (in_byte count leaf) byte) ≡ m = length_bits (in_byte count leaf) byte ∙ sym e in
        let p = pooled_bits xs leaf (bits (in_byte count leaf) byte) (λ k a b. same k a (omega (arith, n))) in
        sym (ap (pooled xs leaf) n) ∙ p ∙ sym (kept_leaves count leaf byte)
      where
        same : (k : ℕ) → leaf ≤ k → k < leaf + 8 → seen k xs ≡ holds k (visible leaf (bits (in_byte count leaf) byte))
        same k a b = together k ∙ rw (ahead k b) (any_false (holds k these)) ∙ ap (holds k) (kept_leaves count leaf byte)

    past : (k : ℕ) → leaf + 8 ≤ k → seen k xs ≡ seen k ys
    past k a =
        let f = not_held k leaf (bits 8 (kept_bits count leaf byte)) (holds k these) refl (λ p q. omega (arith, length_bits 8 (kept_bits count leaf byte))) in
        together k ∙ rw f

    pool_step : pooled xs leaf (count - leaf) ≡ these ++ pooled ys (leaf + 8) (count - (leaf + 8))
    unfolding pooled
    pool_step = go (leb 8 (count - leaf)) refl
      where
        go : (t : Bool) → leb 8 (count - leaf) ≡ t → pooled xs leaf (count - leaf) ≡ these ++ pooled ys (leaf + 8) (count - (leaf + 8))
        go true e =
            let m : 8 ≤ count - leaf = leb-true 8 (count - leaf) e in
            let i : in_byte count leaf ≡ 8 = min-eq_left m in
            let n : count - leaf ≡ 8 + (count - (leaf + 8)) = omega arith in
            ap (pooled xs leaf) n ∙ pooled_split xs leaf 8 (count - (leaf + 8))
            ∙ ap (λ (l : List ℕ). l ++ pooled xs (leaf + 8) (count - (leaf + 8))) (front 8 (sym i) (omega arith))
            ∙ ap (λ (l : List ℕ). these ++ l) (pooled_same xs ys (leaf + 8) (count - (leaf + 8)) past)
        go false e =
            let m : count - leaf < 8 = leb-false 8 (count - leaf) e in
            let m8 : count - leaf ≤ 8 = omega arith in
            let i : in_byte count leaf ≡ count - leaf = min-eq_right m8 in
            let n : count - (leaf + 8) ≡ 0 = omega arith in
            front (count - leaf) (sym i) m8 ∙ rw n (last these (leaf + 8))
          where
            last : (l : List ℕ) (leaf : ℕ) → l ≡ l ++ pooled ys leaf 0
            last l leaf = sym (append-nil l)

  -- and then from the next leaf on that may be seen
  pub pool_leap : leaf < count → ((k : ℕ) → seen k xs ≡ cond (holds k these) true (seen k ys)) → (next : ℕ) → leaf + 8 ≤ next → ((k : ℕ) → k < next → seen k ys ≡ false)
      → pooled xs leaf (count - leaf) ≡ these ++ pooled ys next (count - next)
  pool_leap h together next n ahead =
      pool_step h together (λ k q. ahead k (omega arith))
      ∙ ap (λ (l : List ℕ). these ++ l) (pooled_skip ys count (leaf + 8) next n ahead)

-- What holds while the pool is walked: the group `this` comes next, and its first leaf is `leaf`.
module _ (s : List ℕ) (leaves : ℕ) (ats₀ groups₀ : List ℕ) where
  -- the leaves that the rows list together
  abbrev pub whole : List ℕ
  whole = pooled (rests_of s leaves ats₀ groups₀) 1 (leaves - 1)

  pub record Walking (ats groups : List ℕ) (this leaf : ℕ) : Type 0 where
    pub as_many : length ats ≡ length ats₀
    pub as_many_groups : length groups ≡ length groups₀
    pub first : leaf ≡ 1 + 8 * this
    pub small : this ≤ 267386880
    pub cursors : Cursors s leaves this ats groups

  module _ (ats groups : List ℕ) (this leaf : ℕ) (p : Walking ats groups this leaf) where
    -- the leaves that they list together from here on
    abbrev pub rest : List ℕ
    rest = pooled (rests_of s leaves ats groups) leaf (leaves - leaf)

    pub none_rest : leaves ≤ leaf → rest ≡ []
    none_rest h = sym (none_left_over (rests_of s leaves ats groups) leaf (leaves - leaf) (omega arith))

    module _ (h : leaf < leaves) (some : 0 < length ats₀) (limit : length s ≤ 1048576) (ats' groups' : List ℕ) (byte next : ℕ)
        (l : length ats' ≡ length ats) (g : length groups' ≡ length groups)
        (e : (this < next) × Cursors s leaves next ats' groups' × Together s leaves this ats groups byte ats' groups') where
      pub next_small : next ≤ 267386880
      next_small = let w = e.1 0 (omega (arith, p.as_many)) in omega (arith, w.0, w.1, w.2)

      pub walked : Walking ats' groups' next (1 + 8 * next)
      walked = record { as_many = l ∙ p.as_many; as_many_groups = g ∙ p.as_many_groups; first = refl; small = next_small; cursors = e.1 }

      pub stepped : rest ≡ byte_leaves leaf (kept_bits leaves leaf byte) ++ pooled (rests_of s leaves ats' groups') (1 + 8 * next) (leaves - (1 + 8 * next))
      stepped =
          pool_leap leaves leaf byte (rests_of s leaves ats groups) (rests_of s leaves ats' groups') h (λ k. rw p.first (e.2 k))
          (1 + 8 * next) (omega (arith, p.first, e.0)) (λ k q. rests_ahead s leaves next k ats' groups' e.1 q)

  -- `count` leaves are counted
  pub record Counting (ats groups : List ℕ) (this leaf count : ℕ) : Type 0 where
    pub walking : Walking ats groups this leaf
    pub few : count ≤ 8 * this
    pub total : count + length (pooled (rests_of s leaves ats groups) leaf (leaves - leaf)) ≡ length whole

  module _ (ats groups : List ℕ) (this leaf count : ℕ) (p : Counting ats groups this leaf count) where
    pub count_ends : leaves ≤ leaf → count ≡ length whole
    count_ends h = let t = rw (none_rest ats groups this leaf p.walking h) at p.total in omega (arith, t)

    pub count_next : leaf < leaves → 0 < length ats₀ → length s ≤ 1048576 → (ats' groups' : List ℕ) (byte next : ℕ)
        → length ats' ≡ length ats → length groups' ≡ length groups
        → (this < next) × Cursors s leaves next ats' groups' × Together s leaves this ats groups byte ats' groups'
        → byte < 256 → (kept n : ℕ) → kept ≡ kept_bits leaves leaf byte → n ≡ ones kept → Counting ats' groups' next (1 + 8 * next) (count + n)
    count_next h some limit ats' groups' byte next l g w b kept n x y =
        let k8 = kept_bits leaves leaf byte in
        let u : k8 < 256 = kept_small leaves leaf byte b in
        let v = byte_leaves leaf k8 in
        let o : n ≡ ones k8 = y ∙ ap ones x in
        let e : length v ≡ n = length_visible 8 leaf k8 ∙ ones_in_lem 8 k8 u ∙ sym o in
        let r = pooled (rests_of s leaves ats' groups') (1 + 8 * next) (leaves - (1 + 8 * next)) in
        let q : length (rest ats groups this leaf p.walking) ≡ n + length r = ap length (stepped ats groups this leaf p.walking h some limit ats' groups' byte next l g w) ∙ length-append v r ∙ ap (λ (z : ℕ). z + length r) e in
        record {
          walking = walked ats groups this leaf p.walking h some limit ats' groups' byte next l g w;
          few = omega (arith, p.few, o, ones-le 8 k8 u, w.0);
          total = omega (arith, p.total, q);
        }

  -- `count` leaves are written, and the list has as many entries as the pool has leaves
  pub record Putting (ats groups : List ℕ) (this leaf count : ℕ) (list : List ℕ) : Type 0 where
    pub walking : Walking ats groups this leaf
    pub held : count ≤ length list
    pub front : take count list ++ pooled (rests_of s leaves ats groups) leaf (leaves - leaf) ≡ whole
    pub fits : length whole ≡ length list

  module _ (ats groups : List ℕ) (this leaf count : ℕ) (list : List ℕ) (p : Putting ats groups this leaf count list) where
    pub put_ends : leaves ≤ leaf → list ≡ whole
    put_ends h =
        let e : take count list ≡ whole = simp (none_rest ats groups this leaf p.walking h, append-nil) at p.front in
        let k : length list ≤ count = omega (arith, ap length e, length-take-le count list p.held, p.fits) in
        rw take_all at e

    module _ (h : leaf < leaves) (some : 0 < length ats₀) (limit : length s ≤ 1048576) (ats' groups' : List ℕ) (byte next : ℕ)
        (l : length ats' ≡ length ats) (g : length groups' ≡ length groups)
        (w : (this < next) × Cursors s leaves next ats' groups' × Together s leaves this ats groups byte ats' groups') where
      abbrev after : List ℕ
      after = pooled (rests_of s leaves ats' groups') (1 + 8 * next) (leaves - (1 + 8 * next))

      more_front : (kept : ℕ) → kept ≡ kept_bits leaves leaf byte → (take count list ++ byte_leaves leaf kept) ++ after ≡ whole
      more_front kept x =
          append_assoc (take count list) (byte_leaves leaf kept) after ∙ ap (λ (n : ℕ). take count list ++ (byte_leaves leaf n ++ after)) x
          ∙ ap (λ (r : List ℕ). take count list ++ r) (sym (stepped ats groups this leaf p.walking h some limit ats' groups' byte next l g w)) ∙ p.front

      pub put_room : (kept : ℕ) → kept ≡ kept_bits leaves leaf byte → count + length (byte_leaves leaf kept) ≤ length list
      put_room kept x =
          let v = byte_leaves leaf kept in
          omega (arith, ap length (more_front kept x), length-append (take count list ++ v) after, length-append (take count list) v, length-take-le count list p.held, p.fits)

      pub put_next : (more : List ℕ) (r kept : ℕ) → kept ≡ kept_bits leaves leaf byte → length more ≡ length list → r ≡ count + length (byte_leaves leaf kept)
          → take r more ≡ take count list ++ byte_leaves leaf kept → Putting ats' groups' next (1 + 8 * next) r more
      put_next more r kept x k e q = record {
        walking = walked ats groups this leaf p.walking h some limit ats' groups' byte next l g w;
        held = omega (arith, put_room kept x);
        front = rw q (more_front kept x);
        fits = p.fits ∙ sym k;
      }
