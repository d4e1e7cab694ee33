-- Where the tree check refuses, what it refuses with occurs in the root's tree. With `passes_exactly` of Check: it refuses exactly if something occurs.
use Prim.Native.Nat.{ℕ, zero, suc, ◌+◌, ◌<◌, ◌≤◌}
use native.Mathlib.Omega.{arith}
use mathlib.Core.Bool.{Bool, true, false, cond, true≢false}
use mathlib.Core.List.{List, [], ◌∷◌, ◌++◌, append-nil, append_assoc, append_cancel_left}
use mathlib.Core.Logic.{◌⊎◌, inl, inr}
use mathlib.Core.Path.{◌≡◌, refl, sym, ◌∙◌, ap, subst}
use lib.Dec.{ltb}
use lib.ListN.{length, length-append, set, replicate}
use borrow.Author.Tests.{ltb-true, ltb-false}
use Rattle.format.specs.Answer.{Answer, answer, refused}
use Rattle.math.specs.declared.plane.HyperplaneSide.{HyperplaneSide}
use Rattle.math.specs.declared.plane.HyperplaneSide.TheVariants.{Positive, Negative}
use Rattle.walk.specs.Table.{Child, node, end, Node, Nodes, child_on}
use Rattle.walk.specs.Tree.{Reach, IsTree, Fails, index_outside, reached_twice, too_deep, unreadable, plane_outside, end_outside}
use Rattle.walk.specs.TreeCheck.{Checked, checked, higher, then_back, check_child, check_children, check_record, check_index, check_node, tree_check}
use Rattle.walk.proofs.Marks.{fresh, put_only, all_fresh}
use Rattle.walk.proofs.Reached.{reach_in_tree, reach_snoc}
use Rattle.walk.proofs.Sound.{answered_same}
use Rattle.walk.proofs.Check.{marks_short, answer_is}

abbrev Way : Type 0
Way = List HyperplaneSide

answer_refused : {A : Type 0} (a : A) (r : ℕ) → answer a ≡ refused r → ⊥
answer_refused a r e = let z : ◌≡◌ {A = ℕ} 0 1 = cc in omega arith

which : {A : Type 0} (n r : ℕ) → ◌≡◌ {A = Answer A} (refused n) (refused r) → r ≡ n
which n r e = cc

front_back : (p q : Way) → ◌≡◌ {A = Way} (Positive ∷ p) (Negative ∷ q) → ⊥
front_back p q e = let z : ◌≡◌ {A = ℕ} 0 1 = cc in omega arith

cons_nil : (sd : HyperplaneSide) (q : Way) → ◌≡◌ {A = Way} [] (sd ∷ q) → ⊥
cons_nil sd q e = let z : ◌≡◌ {A = ℕ} 0 1 = cc in omega arith

-- a way one side longer
abbrev then : Way → HyperplaneSide → Way
then w sd = w ++ (sd ∷ [])

module _ {E : Type 0} (N : Nodes E) (root : ℕ) where
  -- each marked node was reached by a way that does not lead through w
  abbrev Elsewhere : List ℕ → Way → Type 0
  Elsewhere m w = (n : ℕ) → fresh m n ≡ false → (q : Way) × Reach N root q n × ((p : Way) → q ≡ w ++ p → ⊥)

  -- a visit by the way w, with the marks m before
  record Visit (m : List ℕ) (w : Way) (x : Checked) : Type 0 where
    why : (r : ℕ) → x.answer ≡ refused r → Fails N root r
    only : (n : ℕ) → fresh x.marks n ≡ false → (fresh m n ≡ false) ⊎ ((p : Way) × Reach N root (w ++ p) n)

  abbrev Visits : ℕ → (ℕ → List ℕ → Checked) → Type 0
  Visits deep go = (i : ℕ) (m : List ℕ) (w : Way) → Reach N root w i → 512 ≤ length w + deep → Elsewhere m w → Visit m w (go i m)

  refuses : (m : List ℕ) (w : Way) (n : ℕ) → ((r : ℕ) → r ≡ n → Fails N root r) → Visit m w (checked (refused n) m)
  refuses m w n k = record { why = λ r e. k r (which n r e); only = λ j t. inl t }

  -- the node's own mark is the only new one
  only_set : (i : ℕ) (m : List ℕ) (w : Way) → Reach N root w i → (n : ℕ) → fresh (set m i 1) n ≡ false → (fresh m n ≡ false) ⊎ ((p : Way) × Reach N root (w ++ p) n)
  only_set i m w here n t = own (put_only m i n t)
    where
      own : (n ≡ i) ⊎ (fresh m n ≡ false) → (fresh m n ≡ false) ⊎ ((p : Way) × Reach N root (w ++ p) n)
      own (inl e) = inr ([], subst (λ (v : Way). Reach N root v n) (sym (append-nil w)) (subst (Reach N root w) (sym e) here))
      own (inr t) = inl t

  module _ (deep : ℕ) (go : ℕ → List ℕ → Checked) (H : Visits deep go) (i : ℕ) (w : Way) (here : Reach N root w i) (far : 512 ≤ length w + suc deep) (nd : Node E) (read : N.node_at i ≡ answer nd) where
    child_visit : (sd : HyperplaneSide) (mid : List ℕ) → Elsewhere mid (then w sd) → Visit mid (then w sd) (check_child N go (child_on nd sd) mid)
    child_visit sd mid el = step (child_on nd sd) refl
      where
        at_end : (e : E) → child_on nd sd ≡ end e → (b : Bool) → N.leaf_in e ≡ b → Visit mid (then w sd) (cond b (checked (answer 0) mid) (checked (refused 30) mid))
        at_end e q true t = record { why = λ r k. absurd (answer_refused 0 r k); only = λ n k. inl k }
        at_end e q false t = refuses mid (then w sd) 30 (λ r z. end_outside i nd sd e z (reach_in_tree N root w i here) read q t)

        step : (c : Child E) → child_on nd sd ≡ c → Visit mid (then w sd) (check_child N go c mid)
        step (node j) q =
            H j mid (then w sd) (reach_snoc N root w i j sd here (record { record_of = nd; read_as = read; is_child = q }))
            (omega (arith, length-append w (sd ∷ []))) el
        step (end e) q = at_end e q (N.leaf_in e) refl

    -- the marks at the node itself, and after its front child
    module _ (m : List ℕ) (el : Elsewhere m w) where
      marked_here : (n : ℕ) → (n ≡ i) ⊎ (fresh m n ≡ false) → (q : Way) × Reach N root q n × ((sd : HyperplaneSide) (p : Way) → q ≡ then w sd ++ p → ⊥)
      marked_here n (inl e) = (w, subst (Reach N root w) (sym e) here, λ sd p k. cons_nil sd p (append_cancel_left w [] (sd ∷ p) (append-nil w ∙ k ∙ append_assoc w (sd ∷ []) p)))
      marked_here n (inr t) = let x : (q : Way) × Reach N root q n × ((p : Way) → q ≡ w ++ p → ⊥) = el n t in (x.0, x.1, λ sd p k. x.2 (sd ∷ p) (k ∙ append_assoc w (sd ∷ []) p))

      before_child : (sd : HyperplaneSide) → Elsewhere (set m i 1) (then w sd)
      before_child sd n t = let x : (q : Way) × Reach N root q n × ((sd : HyperplaneSide) (p : Way) → q ≡ then w sd ++ p → ⊥) = marked_here n (put_only m i n t) in (x.0, x.1, x.2 sd)

      front : Visit (set m i 1) (then w Positive) (check_child N go nd.front (set m i 1))
      front = child_visit Positive (set m i 1) (before_child Positive)

      mid : List ℕ
      mid = (check_child N go nd.front (set m i 1)).marks

      between : Elsewhere mid (then w Negative)
      unfolding mid
      between n t = cases (front.only n t)
        where
          cases : (fresh (set m i 1) n ≡ false) ⊎ ((p : Way) × Reach N root (then w Positive ++ p) n) → (q : Way) × Reach N root q n × ((p : Way) → q ≡ then w Negative ++ p → ⊥)
          cases (inl t) = before_child Negative n t
          cases (inr x) = (then w Positive ++ x.0, x.1, λ p k. front_back x.0 p (append_cancel_left w (Positive ∷ x.0) (Negative ∷ p) (sym (append_assoc w (Positive ∷ []) x.0) ∙ k ∙ append_assoc w (Negative ∷ []) p)))

      back : Visit mid (then w Negative) (check_child N go nd.back mid)
      back = child_visit Negative mid between

      longer : (sd : HyperplaneSide) (n : ℕ) → (p : Way) × Reach N root (then w sd ++ p) n → (p : Way) × Reach N root (w ++ p) n
      longer sd n x = (sd ∷ x.0, subst (λ (v : Way). Reach N root v n) (append_assoc w (sd ∷ []) x.0) x.1)

      only_front : (n : ℕ) → fresh mid n ≡ false → (fresh m n ≡ false) ⊎ ((p : Way) × Reach N root (w ++ p) n)
      unfolding mid
      only_front n t = cases (front.only n t)
        where
          cases : (fresh (set m i 1) n ≡ false) ⊎ ((p : Way) × Reach N root (then w Positive ++ p) n) → (fresh m n ≡ false) ⊎ ((p : Way) × Reach N root (w ++ p) n)
          cases (inl t) = only_set i m w here n t
          cases (inr x) = inr (longer Positive n x)

      only_back : (n : ℕ) → fresh (check_child N go nd.back mid).marks n ≡ false → (fresh m n ≡ false) ⊎ ((p : Way) × Reach N root (w ++ p) n)
      only_back n t = cases (back.only n t)
        where
          cases : (fresh mid n ≡ false) ⊎ ((p : Way) × Reach N root (then w Negative ++ p) n) → (fresh m n ≡ false) ⊎ ((p : Way) × Reach N root (w ++ p) n)
          cases (inl t) = only_front n t
          cases (inr x) = inr (longer Negative n x)

      children_visit : Visit m w (check_children N go nd (set m i 1))
      unfolding mid
      children_visit = go_on (check_child N go nd.front (set m i 1)).answer refl
        where
          why_back : (hf : ℕ) (a : Answer ℕ) → (check_child N go nd.back mid).answer ≡ a → (r : ℕ) → higher hf a ≡ refused r → Fails N root r
          why_back hf (answer hb) q r k = absurd (answer_refused _ r k)
          why_back hf (refused n) q r k = back.why r (q ∙ k)

          go_on : (a : Answer ℕ) → (check_child N go nd.front (set m i 1)).answer ≡ a → Visit m w (then_back a mid (check_child N go nd.back))
          go_on (refused n) q = record { why = λ r k. front.why r (q ∙ k); only = only_front }
          go_on (answer hf) q = record { why = why_back hf (check_child N go nd.back mid).answer refl; only = only_back }

  record_visit : (deep : ℕ) (go : ℕ → List ℕ → Checked) → Visits deep go → (i : ℕ) (m : List ℕ) (w : Way) → Reach N root w i → 512 ≤ length w + suc deep → Elsewhere m w
      → (a : Answer (Node E)) → N.node_at i ≡ a → Visit m w (check_record N go a (set m i 1))
  record_visit deep go H i m w here far el (refused n) q =
      record { why = λ r k. unreadable i (reach_in_tree N root w i here) (q ∙ ap refused (sym (which n r k))); only = only_set i m w here }
  record_visit deep go H i m w here far el (answer nd) q = at_plane (ltb nd.plane N.planes) refl
    where
      at_plane : (b : Bool) → ltb nd.plane N.planes ≡ b → Visit m w (cond b (check_children N go nd (set m i 1)) (checked (refused 30) (set m i 1)))
      at_plane true t = children_visit deep go H i w here far nd q m el
      at_plane false t = record {
        why = λ r k. plane_outside i nd (which 30 r k) (reach_in_tree N root w i here) q (ltb-false _ _ t);
        only = only_set i m w here;
      }

  index_visit : (i : ℕ) (m : List ℕ) (w : Way) → Reach N root w i → Elsewhere m w → (rest : Checked) → Visit m w rest → Visit m w (check_index N i m rest)
  index_visit i m w here el rest v = by_index (ltb i N.count) refl (fresh m i) refl
    where
      another : fresh m i ≡ false → (r : ℕ) → r ≡ 34 → Fails N root r
      another t r z = let x : (q : Way) × Reach N root q i × ((p : Way) → q ≡ w ++ p → ⊥) = el i t in reached_twice i x.0 w z x.1 here (λ k. x.2 [] (k ∙ sym (append-nil w)))

      by_index : (b : Bool) → ltb i N.count ≡ b → (c : Bool) → fresh m i ≡ c → Visit m w (cond b (cond c rest (checked (refused 34) m)) (checked (refused 30) m))
      by_index true t true u = v
      by_index true t false u = refuses m w 34 (another u)
      by_index false t c u = refuses m w 30 (λ r z. index_outside i z (reach_in_tree N root w i here) (ltb-false _ _ t))

  visits : (deep : ℕ) → Visits deep (check_node N deep)
  unfolding check_node
  visits zero i m w here far el = index_visit i m w here el (checked (refused 32) m) (refuses m w 32 (λ r z. too_deep i w z here (omega arith)))
  visits (suc k) i m w here far el =
      index_visit i m w here el (check_record N (λ n ms. check_node N k n ms) (N.node_at i) (set m i 1))
      (record_visit k (λ n ms. check_node N k n ms) (λ j m' w' h' f' e'. visits k j m' w' h' f' e') i m w here far el (N.node_at i) refl)

  -- where the check refuses, with enough marks, it does so for something in the root's tree
  pub refused_for : (ms : List ℕ) (r : ℕ) → N.count ≤ length ms → (tree_check N ms root).answer ≡ refused r → Fails N root r
  refused_for ms r l e =
      (visits 512 root (replicate N.count 0) [] refl (omega arith) (λ n t. absurd (true≢false (sym (all_fresh N.count n) ∙ t)))).why r (sym (answer_is N ms root l) ∙ e)

  -- where none occurs, as `IsTree` says, none occurs
  pub tree_has_none : IsTree N root → (r : ℕ) → Fails N root r → ⊥
  tree_has_none t r (index_outside n e i k) = let h : n < N.count = (t.valid n i).in_range in omega arith
  tree_has_none t r (reached_twice n p q e a b k) = k (t.one_way n p q a b)
  tree_has_none t r (too_deep n p e a k) = let h : suc (length p) ≤ 512 = t.shallow n p a in omega arith
  tree_has_none t r (unreadable n i k) = answer_refused (t.valid n i).record_of r (sym (t.valid n i).read_as ∙ k)
  tree_has_none t r (plane_outside n nd e i k l) =
      let q : (t.valid n i).record_of ≡ nd = answered_same _ _ (sym (t.valid n i).read_as ∙ k) in
      let h : nd.plane < N.planes = subst (λ (x : Node E). x.plane < N.planes) q (t.valid n i).plane_in in
      omega arith
  tree_has_none t r (end_outside n nd sd x e i k c l) =
      let q : (t.valid n i).record_of ≡ nd = answered_same _ _ (sym (t.valid n i).read_as ∙ k) in
      true≢false (sym ((t.valid n i).ends_in sd x (ap (λ (y : Node E). child_on y sd) q ∙ c)) ∙ l)

  -- so it refuses with 22, 30, 32, 34 or what reading a node refuses with
  pub check_refuses : (P : ℕ → Type 0) → P 22 → P 30 → P 32 → P 34 → ((n r : ℕ) → N.node_at n ≡ refused r → P r) → (ms : List ℕ) (r : ℕ) → (tree_check N ms root).answer ≡ refused r → P r
  check_refuses P p22 p30 p32 p34 own ms r e = go (ltb (length ms) N.count) refl
    where
      by_reason : Fails N root r → P r
      by_reason (index_outside n q i k) = subst P (sym q) p30
      by_reason (reached_twice n p p' q a b k) = subst P (sym q) p34
      by_reason (too_deep n p q a k) = subst P (sym q) p32
      by_reason (unreadable n i k) = own n r k
      by_reason (plane_outside n nd q i k l) = subst P (sym q) p30
      by_reason (end_outside n nd sd x q i k c l) = subst P (sym q) p30

      go : (b : Bool) → ltb (length ms) N.count ≡ b → P r
      go true t = subst P (sym (which 22 r (sym (ap (λ (c : Checked). c.answer) (marks_short N ms root (ltb-true _ _ t))) ∙ e))) p22
      go false t = by_reason (refused_for ms r (ltb-false _ _ t) e)
