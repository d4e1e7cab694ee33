-- The root's tree, said without the tree check: which nodes are in it, by which ways they are reached, and what the check asks of it.
use Rattle.std.specs.Prelude.{ℕ, suc, ◌<◌, ◌≤◌, true, false, ◌≡◌, T as Holds, length}
use mathlib.Core.List.{List, [], ◌∷◌, Memᴰ}
use Rattle.std.specs.Float.{binary32}
use Rattle.std.specs.Float.Ieee.{fits}
use Rattle.format.specs.Answer.{answer, refused}
use Rattle.math.specs.declared.plane.Hyperplane.{Hyperplane}
use Rattle.math.specs.declared.plane.HyperplaneSide.{HyperplaneSide}
use Rattle.walk.specs.Table.{node, end, Node, Nodes, Table, child_on}

-- no number is on the list twice
abbrev pub NoTwice : List ℕ → Type 0
NoTwice [] = Unit {0}
NoTwice (x ∷ xs) = (¬ Memᴰ x xs) × NoTwice xs

module _ {E : Type 0} (N : Nodes E) where
  -- the node n is the child, on the given side, of the node m
  pub record ChildOf (m : ℕ) (side : HyperplaneSide) (n : ℕ) : Type 0 where
    pub record_of : Node E
    pub read_as : N.node_at m ≡ answer record_of
    pub is_child : child_on record_of side ≡ node n

  -- the root's tree: the root, and every node that is a child, on either side, of a node in it
  pub data InTree (root : ℕ) : ℕ → Type 0 where
    at_root : {n : ℕ} → n ≡ root → InTree root n
    below : {m n : ℕ} (side : HyperplaneSide) → InTree root m → ChildOf m side n → InTree root n

  -- from the node i these sides, one after the other, lead to the node n
  abbrev pub Reach : ℕ → List HyperplaneSide → ℕ → Type 0
  Reach i [] n = n ≡ i
  Reach i (side ∷ way) n = (j : ℕ) × ChildOf i side j × Reach j way n

  -- a node by itself: its index is in range, its record can be read, its plane's number and its ends are in range
  pub record Valid (n : ℕ) : Type 0 where
    pub in_range : n < N.count
    pub record_of : Node E
    pub read_as : N.node_at n ≡ answer record_of
    pub plane_in : record_of.plane < N.planes
    pub ends_in : (side : HyperplaneSide) (e : E) → child_on record_of side ≡ end e → N.leaf_in e ≡ true

  -- none of the check's refusals occurs in the root's tree: each node is valid (30, 23), none is reached by two ways (34), none is deeper than 512, the root's depth being 1 (32)
  pub record IsTree (root : ℕ) : Type 0 where
    pub valid : (n : ℕ) → InTree root n → Valid n
    pub one_way : (n : ℕ) (p q : List HyperplaneSide) → Reach root p n → Reach root q n → p ≡ q
    pub shallow : (n : ℕ) (p : List HyperplaneSide) → Reach root p n → suc (length p) ≤ 512

  -- the check's refusals, by their numbers: one of them occurs somewhere in the root's tree
  pub data Fails (root r : ℕ) : Type 0 where
    index_outside : (n : ℕ) → r ≡ 30 → InTree root n → N.count ≤ n → Fails root r
    reached_twice : (n : ℕ) (p q : List HyperplaneSide) → r ≡ 34 → Reach root p n → Reach root q n → ¬ (p ≡ q) → Fails root r
    too_deep : (n : ℕ) (p : List HyperplaneSide) → r ≡ 32 → Reach root p n → 512 < suc (length p) → Fails root r
    unreadable : (n : ℕ) → InTree root n → N.node_at n ≡ refused r → Fails root r
    plane_outside : (n : ℕ) (nd : Node E) → r ≡ 30 → InTree root n → N.node_at n ≡ answer nd → N.planes ≤ nd.plane → Fails root r
    end_outside : (n : ℕ) (nd : Node E) (side : HyperplaneSide) (e : E) → r ≡ 30 → InTree root n → N.node_at n ≡ answer nd → child_on nd side ≡ end e → N.leaf_in e ≡ false → Fails root r

  -- the end e stands in a child's place of some node that can be read
  pub record IsEnd (e : E) : Type 0 where
    pub of_node : ℕ
    pub record_of : Node E
    pub read_as : N.node_at of_node ≡ answer record_of
    pub side : HyperplaneSide
    pub is_end : child_on record_of side ≡ end e

  -- the tree's height: the greatest depth of a node in it
  pub record Height (root h : ℕ) : Type 0 where
    pub most : (n : ℕ) (p : List HyperplaneSide) → Reach root p n → suc (length p) ≤ h
    pub deepest : ℕ
    pub way : List HyperplaneSide
    pub leads : Reach root way deepest
    pub as_deep : suc (length way) ≡ h

-- planes in range, and ends of nodes that are in range, can be read, as for every file that loads
pub record Reads {E A : Type 0} (T : Table E A) : Type 0 where
  pub planes_read : (p : ℕ) → p < T.nodes.planes → (h : Hyperplane) × (T.plane_at p ≡ answer h)
  pub leaves_read : (e : E) → IsEnd T.nodes e → T.nodes.leaf_in e ≡ true → (a : A) × (T.leaf_at e ≡ answer a)

-- each plane's distance is an f32, as for every plane made of an f32
abbrev pub PlanesFit : {E A : Type 0} → Table E A → Type 0
PlanesFit T = (p : ℕ) (h : Hyperplane) → T.plane_at p ≡ answer h → Holds (fits binary32 h.dist)
