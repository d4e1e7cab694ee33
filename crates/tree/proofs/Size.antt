-- The number of nodes in a root's tree (specs/Size.antt): there is at most one, and `tree_size` answers it. Assumes nothing.
use Prim.Native.Nat.{ℕ, ◌≤◌}
use native.Mathlib.Omega.{arith}
use mathlib.Core.List.{List}
use mathlib.Core.Path.{◌≡◌, refl, ap}
use lib.ListN.{length}
use Rattle.format.specs.Answer.{Answer, answer, refused, mapped}
use Rattle.walk.specs.Table.{Nodes}
use Rattle.walk.specs.Tree.{Height}
use Rattle.walk.specs.TreeCheck.{tree_check}
use Rattle.walk.specs.Order.{in_order, tree_size, sized_check}
use Rattle.walk.proofs.Check.{passes_only}
use Rattle.walk.proofs.Size.{no_longer, tree_listed}
use Rattle.nodes.specs.Tables.{nodes_of}
use Rattle.tree.specs.Size.{NodeCount, TrueSize}

module _ {E : Type 0} (N : Nodes E) (root : ℕ) where
  pub one_count : (n k : ℕ) → NodeCount N root n → NodeCount N root k → n ≡ k
  one_count n k a b =
      let x : length a.list ≤ length b.list = no_longer a.list b.list a.none_twice (λ i m. (b.exactly i).1 ((a.exactly i).0 m)) in
      let y : length b.list ≤ length a.list = no_longer b.list a.list b.none_twice (λ i m. (a.exactly i).1 ((b.exactly i).0 m)) in
      omega (arith, a.as_many, b.as_many)

  -- a root that passed has as many nodes as stand on the list in walking order, which the check's definition counts
  pub passed_count : (ms : List ℕ) (h : ℕ) → (tree_check N ms root).answer ≡ answer h → NodeCount N root (tree_size N root)
  passed_count ms h e =
      record { list = in_order N root; none_twice = (tree_listed N ms root h e).0; exactly = (tree_listed N ms root h e).1; as_many = refl }

  -- the answer with the number beside the height
  abbrev beside : ℕ → ℕ → ℕ × ℕ
  beside k h = (k, h)

  abbrev pair : Answer (ℕ × ℕ) → ℕ × ℕ
  pair (answer p) = p
  pair (refused r) = (0, 0)

  told : (a : Answer ℕ) (k n h : ℕ) → mapped (beside k) a ≡ answer (beside n h) → (a ≡ answer h) × (k ≡ n)
  told (answer x) k n h e = (ap (λ (p : Answer (ℕ × ℕ)). answer (pair p).1) e, ap (λ (p : Answer (ℕ × ℕ)). (pair p).0) e)
  told (refused r) k n h e = let z : ◌≡◌ {A = ℕ} 0 1 = cc in absurd (omega arith)

  pub size_true : (ms : List ℕ) (n h : ℕ) → (sized_check N ms root).answer ≡ answer (beside n h) → NodeCount N root n × Height N root h
  unfolding sized_check
  size_true ms n h e =
      let t : ((tree_check N ms root).answer ≡ answer h) × (tree_size N root ≡ n) = told (tree_check N ms root).answer (tree_size N root) n h e in
      (rw (← t.1) (passed_count ms h t.0), (passes_only N ms root h t.0).1)

pub true_size : TrueSize
true_size s m table marks root n h e = size_true (nodes_of s m table) root marks n h e
