-- Demand 3's conclusion, for a root that passed the tree check with the height h: point contents, leaf lookup and trace are answered and not refused,
-- every node entered is in the root's tree, none is entered twice, a walk enters no more nodes than the tree is high, and no count of visits is held.
use Rattle.std.specs.Prelude.{ℕ, ◌≤◌, ◌≡◌, length}
use mathlib.Core.List.{List, Memᴰ}
use Rattle.format.specs.Answer.{answer}
use Rattle.walk.specs.Table.{Nodes}
use Rattle.walk.specs.Walk.{Outcome, done, with_visits}
use Rattle.walk.specs.Tree.{NoTwice, InTree}

pub record Answered {E A : Type 0} (N : Nodes E) (root : ℕ) (o : Outcome A) : Type 0 where
  pub value : A
  pub nodes : List ℕ
  -- it is answered and not refused, and enters these nodes, in this order
  pub answered : o ≡ done value nodes
  -- the visits answered are exactly as many: the count is not held
  pub visits : with_visits o ≡ answer (value, length nodes)
  -- each of them is in the root's tree
  pub in_tree : (n : ℕ) → Memᴰ n nodes → InTree N root n
  -- none of them is entered twice
  pub once : NoTwice nodes

-- a walk's nodes are no more than the tree's height h, too
pub record AnsweredWithin {E A : Type 0} (N : Nodes E) (root h : ℕ) (o : Outcome A) : Type 0 where
  pub all : Answered N root o
  pub within : length all.nodes ≤ h
