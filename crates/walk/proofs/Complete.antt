-- Where none of the refusals occurs in the tree, the check passes.
use Prim.Native.Nat.{ℕ, zero, suc, ◌+◌, ◌<◌, ◌≤◌, max}
use native.Mathlib.Omega.{arith}
use mathlib.Core.Bool.{Bool, true, false, true≢false}
use mathlib.Core.List.{List, [], ◌∷◌}
use mathlib.Core.Logic.{◌⊎◌, inl, inr}
use mathlib.Core.Path.{◌≡◌, refl, sym, ◌∙◌}
use lib.ListN.{length, set, length-set}
use borrow.Author.Tests.{lt-ltb}
use Rattle.format.specs.Answer.{answer}
use Rattle.math.specs.declared.plane.HyperplaneSide.{HyperplaneSide}
use Rattle.math.specs.declared.plane.HyperplaneSide.TheVariants.{Positive, Negative}
use Rattle.walk.specs.Table.{Child, node, end, Node, Nodes, child_on}
use Rattle.walk.specs.Tree.{ChildOf, Reach, Valid, IsTree}
use Rattle.walk.specs.TreeCheck.{Checked, checked, check_child, check_record, check_node}
use Rattle.walk.proofs.Marks.{fresh, put_only}
use Rattle.walk.proofs.Reached.{reach_in_tree}
use Rattle.walk.proofs.Sound.{answered_same}

front_back : {p q : List HyperplaneSide} → ◌≡◌ {A = List HyperplaneSide} (Positive ∷ p) (Negative ∷ q) → ⊥
front_back {p} {q} e = let z : ◌≡◌ {A = ℕ} 0 1 = cc in omega arith

nil_cons : {sd : HyperplaneSide} {q : List HyperplaneSide} → ◌≡◌ {A = List HyperplaneSide} [] (sd ∷ q) → ⊥
nil_cons {sd} {q} e = let z : ◌≡◌ {A = ℕ} 0 1 = cc in omega arith

is_true : (b : Bool) → (b ≡ false → ⊥) → b ≡ true
is_true true k = refl
is_true false k = absurd (k refl)

module _ {E : Type 0} (N : Nodes E) where
  abbrev Fit : List ℕ → Type 0
  Fit m = N.count ≤ length m

  -- what the check at i wants, with these marks
  record Wants (deep : ℕ) (m : List ℕ) (i : ℕ) : Type 0 where
    valid : (n : ℕ) (p : List HyperplaneSide) → Reach N i p n → Valid N n
    one_way : (n : ℕ) (p q : List HyperplaneSide) → Reach N i p n → Reach N i q n → p ≡ q
    shallow : (n : ℕ) (p : List HyperplaneSide) → Reach N i p n → suc (length p) ≤ deep
    unmarked : (n : ℕ) (p : List HyperplaneSide) → Reach N i p n → fresh m n ≡ true

  -- what it gives: it passes, and marks only nodes of R
  record Gives (m : List ℕ) (R : ℕ → Type 0) (x : Checked) : Type 0 where
    h : ℕ
    m' : List ℕ
    is : x ≡ checked (answer h) m'
    fit : Fit m'
    only : (n : ℕ) → fresh m' n ≡ false → (fresh m n ≡ false) ⊎ R n

  abbrev From : ℕ → ℕ → Type 0
  From i n = (p : List HyperplaneSide) × Reach N i p n

  abbrev FromChild : Child E → ℕ → Type 0
  FromChild c n = (j : ℕ) × (c ≡ node j) × From j n

  abbrev Does : ℕ → (ℕ → List ℕ → Checked) → Type 0
  Does deep go = (m : List ℕ) (i : ℕ) → Fit m → Wants deep m i → Gives m (From i) (go i m)

  child_of_lem : (i : ℕ) (nd : Node E) → N.node_at i ≡ answer nd → (sd : HyperplaneSide) (j : ℕ) → child_on nd sd ≡ node j → ChildOf N i sd j
  child_of_lem i nd e sd j c = record { record_of = nd; read_as = e; is_child = c }

  child_does : (deep : ℕ) (go : ℕ → List ℕ → Checked) → Does deep go → (m : List ℕ) (i : ℕ) → Wants (suc deep) m i
      → (nd : Node E) → N.node_at i ≡ answer nd → (sd : HyperplaneSide) → (mid : List ℕ) → Fit mid
      → ((n : ℕ) → FromChild (child_on nd sd) n → fresh mid n ≡ true)
      → Gives mid (FromChild (child_on nd sd)) (check_child N go (child_on nd sd) mid)
  child_does deep go H m i c nd e sd mid ft fr = step (child_on nd sd) refl fr
    where
      s : Valid N i
      s = c.valid i [] refl

      same : s.record_of ≡ nd
      same = answered_same s.record_of nd (sym s.read_as ∙ e)

      step : (x : Child E) → child_on nd sd ≡ x → ((n : ℕ) → FromChild x n → fresh mid n ≡ true) → Gives mid (FromChild x) (check_child N go x mid)
      step (node j) q fr =
          let lead : (p : List HyperplaneSide) (n : ℕ) → Reach N j p n → Reach N i (sd ∷ p) n = λ p n r. (j, child_of_lem i nd e sd j q, r) in
          let k : Wants deep mid j = record {
            valid = λ n p r. c.valid n (sd ∷ p) (lead p n r);
            one_way = λ n p p' r r'. let g : ◌≡◌ {A = List HyperplaneSide} (sd ∷ p) (sd ∷ p') = c.one_way n (sd ∷ p) (sd ∷ p') (lead p n r) (lead p' n r') in cc;
            shallow = λ n p r. let g : suc (suc (length p)) ≤ suc deep = c.shallow n (sd ∷ p) (lead p n r) in omega arith;
            unmarked = λ n p r. fr n (j, refl, (p, r));
          } in
          let x : Gives mid (From j) (go j mid) = H mid j ft k in
          record { h = x.h; m' = x.m'; is = x.is; fit = x.fit; only = λ n t. late n (x.only n t) }
        where
          late : (n : ℕ) → (fresh mid n ≡ false) ⊎ From j n → (fresh mid n ≡ false) ⊎ FromChild (node j) n
          late n (inl t) = inl t
          late n (inr r) = inr (j, refl, r)
      step (end t) q fr =
          let g : N.leaf_in t ≡ true = s.ends_in sd t (rw same q) in
          record { h = 0; m' = mid; is = rw g; fit = ft; only = λ n h. inl h }

  record_does : (deep : ℕ) (go : ℕ → List ℕ → Checked) → Does deep go → (m : List ℕ) (i : ℕ) → Fit m → Wants (suc deep) m i
      → Gives m (From i) (check_record N go (N.node_at i) (set m i 1))
  record_does deep go H m i ft c =
      record {
        h = max F.h B.h + 1;
        m' = B.m';
        is = rw (s.read_as, lt-ltb nd.plane N.planes s.plane_in, F.is, B.is);
        fit = B.fit;
        only = λ n t. only_b n (B.only n t);
      }
    where
      s : Valid N i
      s = c.valid i [] refl

      nd : Node E
      nd = s.record_of

      hi : i < N.count
      hi = s.in_range

      -- a mark that i's own put made, or an older one, is on no node below i
      old : (n : ℕ) (sd : HyperplaneSide) → FromChild (child_on nd sd) n → fresh (set m i 1) n ≡ false → ⊥
      old n sd r t = cases (put_only m i n t)
        where
          way : Reach N i (sd ∷ r.2.0) n
          way = (r.0, child_of_lem i nd s.read_as sd r.0 r.1, r.2.1)

          cases : (n ≡ i) ⊎ (fresh m n ≡ false) → ⊥
          cases (inl e) = nil_cons (c.one_way n [] (sd ∷ r.2.0) e way)
          cases (inr t) = true≢false (sym (c.unmarked n (sd ∷ r.2.0) way) ∙ t)

      F : Gives (set m i 1) (FromChild nd.front) (check_child N go nd.front (set m i 1))
      F = child_does deep go H m i c nd s.read_as Positive (set m i 1) (rw length-set ft) (λ n r. is_true _ (old n Positive r))

      mixed : (n : ℕ) → FromChild nd.back n → (fresh (set m i 1) n ≡ false) ⊎ FromChild nd.front n → ⊥
      mixed n r (inl t) = old n Negative r t
      mixed n r (inr x) = front_back (c.one_way n (Positive ∷ x.2.0) (Negative ∷ r.2.0)
          (x.0, child_of_lem i nd s.read_as Positive x.0 x.1, x.2.1) (r.0, child_of_lem i nd s.read_as Negative r.0 r.1, r.2.1))

      B : Gives F.m' (FromChild nd.back) (check_child N go nd.back F.m')
      B = child_does deep go H m i c nd s.read_as Negative F.m' F.fit (λ n r. is_true _ (λ t. mixed n r (F.only n t)))

      own : (n : ℕ) → (n ≡ i) ⊎ (fresh m n ≡ false) → (fresh m n ≡ false) ⊎ From i n
      own n (inl e) = inr ([], e)
      own n (inr t) = inl t

      only_f : (n : ℕ) → (fresh (set m i 1) n ≡ false) ⊎ FromChild nd.front n → (fresh m n ≡ false) ⊎ From i n
      only_f n (inl t) = own n (put_only m i n t)
      only_f n (inr x) = inr (Positive ∷ x.2.0, (x.0, child_of_lem i nd s.read_as Positive x.0 x.1, x.2.1))

      only_b : (n : ℕ) → (fresh F.m' n ≡ false) ⊎ FromChild nd.back n → (fresh m n ≡ false) ⊎ From i n
      only_b n (inl t) = only_f n (F.only n t)
      only_b n (inr x) = inr (Negative ∷ x.2.0, (x.0, child_of_lem i nd s.read_as Negative x.0 x.1, x.2.1))

  does : (deep : ℕ) → Does deep (check_node N deep)
  unfolding check_node
  does zero m i ft c = let h : suc (length {A = HyperplaneSide} []) ≤ 0 = c.shallow i [] refl in absurd (omega arith)
  does (suc k) m i ft c =
      let x : Gives m (From i) (check_record N (λ n ms. check_node N k n ms) (N.node_at i) (set m i 1)) = record_does k (λ n ms. check_node N k n ms) (λ m'' j f' c'. does k m'' j f' c') m i ft c in
      record {
        h = x.h;
        m' = x.m';
        fit = x.fit;
        only = x.only;
        is = rw (lt-ltb i N.count (c.valid i [] refl).in_range, c.unmarked i [] refl) x.is;
      }

  pub passes : (m : List ℕ) (i : ℕ) → N.count ≤ length m → ((n : ℕ) → n < N.count → fresh m n ≡ true) → IsTree N i → (h : ℕ) × (m' : List ℕ) × (check_node N 512 i m ≡ checked (answer h) m')
  passes m i ft z t =
      let x : Gives m (From i) (check_node N 512 i m) = does 512 m i ft
      (record { valid = λ n p r. t.valid n (reach_in_tree N i p n r); one_way = t.one_way; shallow = t.shallow; unmarked = λ n p r. z n (t.valid n (reach_in_tree N i p n r)).in_range }) in
      (x.h, x.m', x.is)
