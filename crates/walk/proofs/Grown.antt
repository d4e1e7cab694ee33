-- The tree of a root that passed the check, as a drawn shape, with what is known of it: one for demand 3, the number of nodes, their order and boxes.
use Prim.Native.Nat.{ℕ, ◌≤◌}
use native.Mathlib.Omega.{arith}
use mathlib.Core.List.{List}
use mathlib.Core.Path.{◌≡◌, refl}
use lib.ListN.{replicate}
use Rattle.format.specs.Answer.{answer}
use Rattle.walk.specs.Table.{node, Nodes}
use Rattle.walk.specs.Tree.{NoTwice}
use Rattle.walk.specs.TreeCheck.{tree_check}
use Rattle.walk.specs.Order.{child_nodes, nodes_below, in_order}
use Rattle.walk.proofs.Shape.{Shape, top, height, nodes_of, Drawn, Hangs, root_hangs, by_shape, height_count}
use Rattle.walk.proofs.Sound.{Found}
use Rattle.walk.proofs.Check.{found}

module _ {E : Type 0} (N : Nodes E) where
  -- the list in walking order is the shape's
  in_order_lem : (s : Shape E) → Drawn N s → (k j : ℕ) → height s ≤ k → height s ≤ j → child_nodes N (λ n. nodes_below N k n) (top s) ≡ nodes_of s
  unfolding nodes_below
  in_order_lem = by_shape N (λ k j s. child_nodes N (λ n. nodes_below N k n) (top s) ≡ nodes_of s) (λ k j e d. refl) (λ k j i q f b d x y. rw (d.1, x, y))

  pub record Grown (root h : ℕ) : Type 0 where
    pub shape : Shape E
    pub top_is : top shape ≡ node root
    pub drawn : Drawn N shape
    pub hangs : Hangs N shape
    pub once : NoTwice (nodes_of shape)
    pub listed : in_order N root ≡ nodes_of shape
    pub high : height shape ≡ h
    pub low : height shape ≤ 512
    pub within : height shape ≤ N.count

  pub grown : (ms : List ℕ) (root h : ℕ) → (tree_check N ms root).answer ≡ answer h → Grown root h
  grown ms root h passed =
      let f : (m' : List ℕ) × Found N (replicate N.count 0) (node root) h m' 512 = found N ms root h passed in
      let F : Found N (replicate N.count 0) (node root) h f.0 512 = f.1 in
      let low : height F.shape ≤ 512 = omega (arith, F.high, F.low) in
      record {
        shape = F.shape;
        top_is = F.top_is;
        drawn = F.drawn;
        hangs = root_hangs N F.shape root F.top_is;
        once = F.once;
        listed = rw F.top_is at (in_order_lem F.shape F.drawn 512 512 low low);
        high = F.high;
        low = low;
        within = height_count N F.shape F.drawn F.once;
      }
