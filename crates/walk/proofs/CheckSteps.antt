-- Each way through a step of the tree check, over plain values: what the code's returns and calls are compared with. And no height is above the levels allowed.
use Prim.Native.Nat.{ℕ, zero, suc, ◌+◌, ◌<◌, ◌≤◌, max}
use native.Mathlib.Omega.{arith}
use mathlib.Core.Bool.{Bool, true, false, cond}
use mathlib.Core.List.{List}
use mathlib.Core.Path.{◌≡◌, refl}
use lib.Dec.{ltb, eqb}
use lib.ListN.{get_or, set}
use borrow.Author.Tests.{lt-ltb, le-ltb, eq-eqb, ne_eqb}
use Rattle.format.specs.Answer.{Answer, answer, refused}
use Rattle.walk.specs.Table.{Child, node, end, Node, Nodes}
use Rattle.walk.specs.TreeCheck.{Checked, checked, higher, then_back, check_child, check_children, check_record, check_index, check_node}
use Rattle.walk.proofs.Sound.{refused_answer, answered_same}

module _ {E : Type 0} (N : Nodes E) where
  pub check_outside : (k i : ℕ) (ms : List ℕ) → N.count ≤ i → check_node N k i ms ≡ checked (refused 30) ms
  unfolding check_node
  check_outside zero i ms h = simp (le-ltb _ _ h)
  check_outside (suc k) i ms h = simp (le-ltb _ _ h)

  module _ (k i : ℕ) (ms : List ℕ) (h : i < N.count) where
    pub check_twice : (get_or ms i 0 ≡ 0 → ⊥) → check_node N k i ms ≡ checked (refused 34) ms
    unfolding check_node
    check_twice m = go k
      where
        go : (k : ℕ) → check_node N k i ms ≡ checked (refused 34) ms
        go zero = simp (lt-ltb _ _ h, ne_eqb (get_or ms i 0) 0 m)
        go (suc k) = simp (lt-ltb _ _ h, ne_eqb (get_or ms i 0) 0 m)

    pub check_deep : k ≡ 0 → get_or ms i 0 ≡ 0 → check_node N k i ms ≡ checked (refused 32) ms
    unfolding check_node
    check_deep z m = rw z (simp (lt-ltb _ _ h, eq-eqb (get_or ms i 0) 0 m))

    pub check_opens : (j : ℕ) → k ≡ suc j → get_or ms i 0 ≡ 0 → check_node N k i ms ≡ check_record N (λ n ms. check_node N j n ms) (N.node_at i) (set ms i 1)
    unfolding check_node
    check_opens j more m = rw more (simp (lt-ltb _ _ h, eq-eqb (get_or ms i 0) 0 m))

  module _ (go : ℕ → List ℕ → Checked) (a : Answer (Node E)) (ms : List ℕ) where
    pub record_unread : (n : ℕ) → a ≡ refused n → check_record N go a ms ≡ checked (refused n) ms
    record_unread n r = rw r

    module _ (nd : Node E) (r : a ≡ answer nd) where
      pub record_outside : N.planes ≤ nd.plane → check_record N go a ms ≡ checked (refused 30) ms
      record_outside h = rw (r, le-ltb _ _ h)

      pub record_children : nd.plane < N.planes → check_record N go a ms ≡ check_children N go nd ms
      record_children h = rw (r, lt-ltb _ _ h)

  -- ---- heights

  abbrev Low : ℕ → Checked → Type 0
  Low k x = (h : ℕ) → x.answer ≡ answer h → h ≤ k

  refused_low : (k n : ℕ) (ms : List ℕ) → Low k (checked (refused n) ms)
  refused_low k n ms h e = absurd (refused_answer n h e)

  test_low : (k : ℕ) (b : Bool) (n : ℕ) (ms : List ℕ) (x : Checked) → Low k x → Low k (cond b x (checked (refused n) ms))
  test_low k true n ms x l = l
  test_low k false n ms x l = refused_low k n ms

  module _ (k : ℕ) (go : ℕ → List ℕ → Checked) (ih : (n : ℕ) (ms : List ℕ) → Low k (go n ms)) where
    child_low : (c : Child E) (ms : List ℕ) → Low k (check_child N go c ms)
    child_low (node n) ms = ih n ms
    child_low (end e) ms = test_low k (N.leaf_in e) 30 ms (checked (answer 0) ms) (λ h q. omega (arith, answered_same 0 h q))

    both_low : (a : Answer ℕ) (ms : List ℕ) (back : List ℕ → Checked) → ((h : ℕ) → a ≡ answer h → h ≤ k) → Low k (back ms) → Low (suc k) (then_back a ms back)
    both_low (refused n) ms back l m h e = refused_low (suc k) n ms h e
    both_low (answer f) ms back l m h e = with_back_lem (back ms).answer refl e
      where
        with_back_lem : (b : Answer ℕ) → (back ms).answer ≡ b → higher f b ≡ answer h → h ≤ suc k
        with_back_lem (refused n) q e = absurd (refused_answer n h e)
        with_back_lem (answer b) q e =
            let s : max f b + 1 ≡ h = answered_same (max f b + 1) h e in
            let x : f ≤ k = l f refl in
            let y : b ≤ k = m b q in
            omega arith

    record_low : (a : Answer (Node E)) (ms : List ℕ) → Low (suc k) (check_record N go a ms)
    record_low (refused n) ms = refused_low (suc k) n ms
    record_low (answer nd) ms =
        let x : Checked = check_child N go nd.front ms in
        test_low (suc k) (ltb nd.plane N.planes) 30 ms (check_children N go nd ms)
        (both_low x.answer x.marks (check_child N go nd.back) (child_low nd.front ms) (child_low nd.back x.marks))

  index_low : (k i : ℕ) (ms : List ℕ) (x : Checked) → Low k x → Low k (check_index N i ms x)
  index_low k i ms x l = test_low k (ltb i N.count) 30 ms (cond (eqb (get_or ms i 0) 0) x (checked (refused 34) ms)) (test_low k (eqb (get_or ms i 0) 0) 34 ms x l)

  -- a height is at most the levels that were allowed
  pub height_low : (k i : ℕ) (ms : List ℕ) (h : ℕ) → (check_node N k i ms).answer ≡ answer h → h ≤ k
  unfolding check_node
  height_low zero i ms = index_low 0 i ms (checked (refused 32) ms) (refused_low 0 32 ms)
  height_low (suc k) i ms = index_low (suc k) i ms (check_record N (λ n ms. check_node N k n ms) (N.node_at i) (set ms i 1)) (record_low k (λ n ms. check_node N k n ms) (height_low k) (N.node_at i) (set ms i 1))
