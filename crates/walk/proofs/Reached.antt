-- A drawn shape, and the root's tree: the same nodes, each reached by one way, none deeper than the height.
use mathlib.Core.Bool.{Bool, true, false}
use mathlib.Core.List.Memᴰ
use mathlib.Core.List.{List, [], ◌∷◌, ◌++◌, Memᴰ}
use mathlib.Core.Logic.{◌⊎◌, inl, inr, ◌↔◌}
use mathlib.Core.Path.{◌≡◌, refl, sym, ◌∙◌, ap, subst}
use Prim.Native.Nat.{ℕ, suc, ◌<◌, ◌≤◌, max}
use native.Mathlib.Omega.{arith}
use lib.Dec.{leb}
use borrow.Author.Tests.{leb-true, leb-false}
use lib.ListN.{length}
use Rattle.format.specs.Answer.{Answer, answer}
use Rattle.math.specs.declared.plane.HyperplaneSide.{HyperplaneSide}
use Rattle.math.specs.declared.plane.HyperplaneSide.TheVariants.{Positive, Negative}
use Rattle.walk.specs.Table.{Child, node, end, Node, Nodes, child_on}
use Rattle.walk.specs.Tree.{NoTwice, ChildOf, InTree, at_root, below, Reach, Valid, IsTree, Height}
use Rattle.walk.proofs.Lists.{once_left, once_right, once_apart}
use Rattle.walk.proofs.Shape.{Shape, tip, fork, top, height, nodes_of, record_of, Drawn, part, on_part, part_within, part_drawn, each_node}

end_node : {E : Type 0} {e : E} {j : ℕ} → end e ≡ node j → ⊥
end_node {e} {j} q = let z : ◌≡◌ {A = ℕ} 0 1 = cc in omega arith

node_node : {E : Type 0} {i j : ℕ} → ◌≡◌ {A = Child E} (node i) (node j) → i ≡ j
node_node q = cc

module _ {E : Type 0} (N : Nodes E) where
  -- from Reach to InTree, for any table
  pub reach_from : (root : ℕ) (p : List HyperplaneSide) (i n : ℕ) → InTree N root i → Reach N i p n → InTree N root n
  reach_from root [] i n t r = subst (InTree N root) (sym r) t
  reach_from root (sd ∷ p) i n t r = reach_from root p r.0 n (below sd t r.1) r.2

  pub reach_in_tree : (i : ℕ) (p : List HyperplaneSide) (n : ℕ) → Reach N i p n → InTree N i n
  reach_in_tree i p n r = reach_from i p i n (at_root refl) r

  pub reach_snoc : (i : ℕ) (p : List HyperplaneSide) (m n : ℕ) (sd : HyperplaneSide) → Reach N i p m → ChildOf N m sd n → Reach N i (p ++ (sd ∷ [])) n
  reach_snoc i [] m n sd r c = (n, rw r at c, refl)
  reach_snoc i (x ∷ p) m n sd r c = (r.0, r.1, reach_snoc r.0 p m n sd r.2 c)

  pub in_tree_reach : (i n : ℕ) → InTree N i n → (p : List HyperplaneSide) × Reach N i p n
  in_tree_reach i n (at_root e) = ([], e)
  in_tree_reach i n (below {m = m} sd t c) =
      let r : (p : List HyperplaneSide) × Reach N i p m = in_tree_reach i m t in
      (r.0 ++ (sd ∷ []), reach_snoc i r.0 m n sd r.1 c)

  abbrev Height' : ℕ → ℕ → Type 0
  Height' i h = (n : ℕ) × (p : List HyperplaneSide) × Reach N i p n × (suc (length p) ≡ h)

  child_part : (i : ℕ) (sd : HyperplaneSide) (k q : ℕ) (f b : Shape E) → N.node_at i ≡ answer (record_of q f b) → ChildOf N i sd k → top (part sd f b) ≡ node k
  child_part i sd k q f b e c =
      let g : ◌≡◌ {A = Answer (Node E)} (answer (record_of q f b)) (answer c.record_of) = sym e ∙ c.read_as in
      let h : record_of q f b ≡ c.record_of = cc in
      sym (on_part sd q f b) ∙ ap (λ (nd : Node E). child_on nd sd) h ∙ c.is_child

  part_child : (i : ℕ) (sd : HyperplaneSide) (k q : ℕ) (f b : Shape E) → N.node_at i ≡ answer (record_of q f b) → top (part sd f b) ≡ node k → ChildOf N i sd k
  part_child i sd k q f b e t = record { record_of = record_of q f b; read_as = e; is_child = on_part sd q f b ∙ t }

  -- a node of the shape is reached
  pub member_reach : (s : Shape E) → Drawn N s → (n : ℕ) → Memᴰ n (nodes_of s) → (j : ℕ) × (top s ≡ node j) × ((p : List HyperplaneSide) × Reach N j p n)
  member_reach (tip e) d n m = absurd (Memᴰ.not-nil m)
  member_reach (fork i q f b) d n m = cases (λ k. member_reach f d.3 n k) (λ k. member_reach b d.4 n k) (Memᴰ.cases_cons m)
    where
      Goal : Shape E → Type 0
      Goal s = (j : ℕ) × (top s ≡ node j) × ((p : List HyperplaneSide) × Reach N j p n)

      split : (Memᴰ n (nodes_of f) → Goal f) → (Memᴰ n (nodes_of b) → Goal b) → Memᴰ n (nodes_of f) ⊎ Memᴰ n (nodes_of b) → Goal (fork i q f b)
      split kf kb (inl k) = let g : Goal f = kf k in (i, refl, (Positive ∷ g.2.0, (g.0, part_child i Positive g.0 q f b d.1 g.1, g.2.1)))
      split kf kb (inr k) = let g : Goal b = kb k in (i, refl, (Negative ∷ g.2.0, (g.0, part_child i Negative g.0 q f b d.1 g.1, g.2.1)))

      cases : (Memᴰ n (nodes_of f) → Goal f) → (Memᴰ n (nodes_of b) → Goal b) → (n ≡ i) ⊎ Memᴰ n (nodes_of f ++ nodes_of b) → Goal (fork i q f b)
      cases kf kb (inl e) = (i, refl, ([], e))
      cases kf kb (inr k) = split kf kb (Memᴰ.append_cases (nodes_of f) k)

  -- a node reached is a node of the shape
  pub reach_member : (s : Shape E) → Drawn N s → (j : ℕ) → top s ≡ node j → (p : List HyperplaneSide) (n : ℕ) → Reach N j p n → Memᴰ n (nodes_of s)
  reach_member (tip e) d j t p n r = absurd (end_node t)
  reach_member (fork i q f b) d j t [] n r = Memᴰ.head (r ∙ sym (node_node t))
  reach_member (fork i q f b) d j t (Positive ∷ p) n r =
      Memᴰ.tail (Memᴰ.append_left (nodes_of b) (reach_member f d.3 r.0 (child_part i Positive r.0 q f b d.1 (rw (← (node_node t)) at r.1)) p n r.2))
  reach_member (fork i q f b) d j t (Negative ∷ p) n r =
      Memᴰ.tail (Memᴰ.append_right (nodes_of f) (reach_member b d.4 r.0 (child_part i Negative r.0 q f b d.1 (rw (← (node_node t)) at r.1)) p n r.2))

  -- each node is reached by one way
  pub reached_once : (s : Shape E) → Drawn N s → NoTwice (nodes_of s) → (j k : ℕ) → top s ≡ node j → top s ≡ node k
      → (p q : List HyperplaneSide) (n : ℕ) → Reach N j p n → Reach N k q n → p ≡ q
  reached_once (tip e) d o j k t u p q n r w = absurd (end_node t)
  reached_once (fork i a f b) d o j k t u [] [] n r w = refl
  reached_once (fork i a f b) d o j k t u [] (sd ∷ q) n r w =
      absurd (o.0 (Memᴰ.cast (node_node t ∙ sym r) (part_within sd f b n
      (reach_member (part sd f b) (part_drawn N sd f b d.3 d.4) w.0 (child_part i sd w.0 a f b d.1 (rw (← (node_node u)) at w.1)) q n w.2))))
  reached_once (fork i a f b) d o j k t u (sd ∷ p) [] n r w =
      absurd (o.0 (Memᴰ.cast (node_node u ∙ sym w) (part_within sd f b n
      (reach_member (part sd f b) (part_drawn N sd f b d.3 d.4) r.0 (child_part i sd r.0 a f b d.1 (rw (← (node_node t)) at r.1)) p n r.2))))
  reached_once (fork i a f b) d o j k t u (Positive ∷ p) (Positive ∷ q) n r w =
      ap (λ x. Positive ∷ x) (reached_once f d.3 (once_left (nodes_of f) (nodes_of b) o.1) r.0 w.0
      (child_part i Positive r.0 a f b d.1 (rw (← (node_node t)) at r.1)) (child_part i Positive w.0 a f b d.1 (rw (← (node_node u)) at w.1)) p q n r.2 w.2)
  reached_once (fork i a f b) d o j k t u (Negative ∷ p) (Negative ∷ q) n r w =
      ap (λ x. Negative ∷ x) (reached_once b d.4 (once_right (nodes_of f) (nodes_of b) o.1) r.0 w.0
      (child_part i Negative r.0 a f b d.1 (rw (← (node_node t)) at r.1)) (child_part i Negative w.0 a f b d.1 (rw (← (node_node u)) at w.1)) p q n r.2 w.2)
  reached_once (fork i a f b) d o j k t u (Positive ∷ p) (Negative ∷ q) n r w =
      absurd (once_apart (nodes_of f) (nodes_of b) o.1 n
      (reach_member f d.3 r.0 (child_part i Positive r.0 a f b d.1 (rw (← (node_node t)) at r.1)) p n r.2)
      (reach_member b d.4 w.0 (child_part i Negative w.0 a f b d.1 (rw (← (node_node u)) at w.1)) q n w.2))
  reached_once (fork i a f b) d o j k t u (Negative ∷ p) (Positive ∷ q) n r w =
      absurd (once_apart (nodes_of f) (nodes_of b) o.1 n
      (reach_member f d.3 w.0 (child_part i Positive w.0 a f b d.1 (rw (← (node_node u)) at w.1)) q n w.2)
      (reach_member b d.4 r.0 (child_part i Negative r.0 a f b d.1 (rw (← (node_node t)) at r.1)) p n r.2))

  -- none is deeper than the height
  pub not_deeper : (s : Shape E) → Drawn N s → (j : ℕ) → top s ≡ node j → (p : List HyperplaneSide) (n : ℕ) → Reach N j p n → suc (length p) ≤ height s
  not_deeper (tip e) d j t p n r = absurd (end_node t)
  not_deeper (fork i a f b) d j t [] n r = omega arith
  not_deeper (fork i a f b) d j t (Positive ∷ p) n r =
      let h : suc (length p) ≤ height f = not_deeper f d.3 r.0 (child_part i Positive r.0 a f b d.1 (rw (← (node_node t)) at r.1)) p n r.2 in omega arith
  not_deeper (fork i a f b) d j t (Negative ∷ p) n r =
      let h : suc (length p) ≤ height b = not_deeper b d.4 r.0 (child_part i Negative r.0 a f b d.1 (rw (← (node_node t)) at r.1)) p n r.2 in omega arith

  -- and one is as deep
  abbrev Deepest : Shape E → Type 0
  Deepest s = (j : ℕ) × (top s ≡ node j) × Height' j (height s)

  pub one_as_deep : (s : Shape E) → Drawn N s → (height s ≡ 0) ⊎ Deepest s
  one_as_deep (tip e) d = inl refl
  one_as_deep (fork i a f b) d = inr (i, refl, go (leb (height b) (height f)) refl (one_as_deep f d.3) (one_as_deep b d.4))
    where
      go : (c : Bool) → leb (height b) (height f) ≡ c → (height f ≡ 0) ⊎ Deepest f → (height b ≡ 0) ⊎ Deepest b → Height' i (suc (max (height f) (height b)))
      go true c (inl z) y = let h : height b ≤ height f = leb-true _ _ c in (i, [], refl, omega arith)
      go true c (inr x) y = let h : height b ≤ height f = leb-true _ _ c in
          let e : suc (length x.2.1) ≡ height f = x.2.3 in
          (x.2.0, Positive ∷ x.2.1, (x.0, part_child i Positive x.0 a f b d.1 x.1, x.2.2), omega arith)
      go false c x (inl z) = let h : height f < height b = leb-false _ _ c in (i, [], refl, absurd (omega arith))
      go false c x (inr y) = let h : height f < height b = leb-false _ _ c in
          let e : suc (length y.2.1) ≡ height b = y.2.3 in
          (y.2.0, Negative ∷ y.2.1, (y.0, part_child i Negative y.0 a f b d.1 y.1, y.2.2), omega arith)

  tip_in : (s : Shape E) → Drawn N s → (e : E) → top s ≡ end e → N.leaf_in e ≡ true
  tip_in (tip x) d e q = let h : x ≡ e = cc in rw h at d
  tip_in (fork i p f b) d e q = absurd (end_node (sym q))

  pub all_valid : (s : Shape E) → Drawn N s → (n : ℕ) → Memᴰ n (nodes_of s) → Valid N n
  all_valid = each_node N (Valid N) (λ i a f b d. record {
    in_range = d.0;
    record_of = record_of a f b;
    read_as = d.1;
    plane_in = d.2;
    ends_in = λ sd e q. tip_in (part sd f b) (part_drawn N sd f b d.3 d.4) e (sym (on_part sd a f b) ∙ q);
  })

  pub shape_is_tree : (s : Shape E) (i : ℕ) → top s ≡ node i → Drawn N s → NoTwice (nodes_of s) → height s ≤ 512 → IsTree N i
  shape_is_tree s i t d o h = record {
    valid = λ n m. let r : (p : List HyperplaneSide) × Reach N i p n = in_tree_reach i n m in all_valid s d n (reach_member s d i t r.0 n r.1);
    one_way = λ n p q r w. reached_once s d o i i t t p q n r w;
    shallow = λ n p r. let a : suc (length p) ≤ height s = not_deeper s d i t p n r in omega arith;
  }

  pub shape_height : (s : Shape E) (i : ℕ) → top s ≡ node i → Drawn N s → Height N i (height s)
  shape_height s i t d = go (one_as_deep s d)
    where
      go : (height s ≡ 0) ⊎ Deepest s → Height N i (height s)
      go (inl z) = let a : suc (length {A = HyperplaneSide} []) ≤ height s = not_deeper s d i t [] i refl in absurd (omega arith)
      go (inr x) = let q : x.0 ≡ i = node_node (sym x.1 ∙ t) in record {
        most = λ n p r. not_deeper s d i t p n r;
        deepest = x.2.0;
        way = x.2.1;
        leads = rw q at x.2.2;
        as_deep = x.2.3;
      }

  -- the shape's nodes are the tree's
  pub tree_nodes : (s : Shape E) (i : ℕ) → top s ≡ node i → Drawn N s → (n : ℕ) → Memᴰ n (nodes_of s) ↔ InTree N i n
  tree_nodes s i t d n = (
    λ m. let r : (j : ℕ) × (top s ≡ node j) × ((p : List HyperplaneSide) × Reach N j p n) = member_reach s d n m in
        subst (λ k. InTree N k n) (node_node (sym r.1 ∙ t)) (reach_in_tree r.0 r.2.0 n r.2.1),
    λ m. let r : (p : List HyperplaneSide) × Reach N i p n = in_tree_reach i n m in reach_member s d i t r.0 n r.1,
  )
