-- A node table: the nodes of a BSP tree by their index. Clip nodes, render nodes and the six nodes of a box are each such a table, so walks, traces and the
-- tree check are defined once for all of them. A record that cannot be read is `refused`, with document 01's number (23).
use Rattle.std.specs.Prelude.{ℕ, Bool}
use Rattle.format.specs.Answer.{Answer}
use Rattle.math.specs.declared.plane.Hyperplane.{Hyperplane}
use Rattle.math.specs.declared.plane.HyperplaneSide.{HyperplaneSide}
use Rattle.math.specs.declared.plane.HyperplaneSide.TheVariants.{Positive, Negative}

-- a node's child: another node, by its index, or an end: what stands there in place of a node (a contents code or a leaf's number)
pub data Child (E : Type 0) : Type 0 where
  node : ℕ → Child E
  end : E → Child E

-- what is made of a child: by `go` of a node, by `here` of an end
abbrev pub on_child : {E W : Type 0} → (ℕ → W) → (E → W) → Child E → W
on_child go here (node n) = go n
on_child go here (end e) = here e

-- a node's record: the number of its plane and its two children
pub record Node (E : Type 0) : Type 0 where
  pub plane : ℕ
  pub front : Child E
  pub back : Child E

-- the front child is on the positive side: `node.children[side as usize]`
abbrev pub child_on : {E : Type 0} → Node E → HyperplaneSide → Child E
child_on nd Positive = nd.front
child_on nd Negative = nd.back

-- what the tree check reads of a table
pub record Nodes (E : Type 0) : Type 0 where
  -- how many nodes and how many planes there are
  pub count : ℕ
  pub planes : ℕ
  pub node_at : ℕ → Answer (Node E)
  -- is an end in range? A leaf's number may be outside its table; a contents code is always in range
  pub leaf_in : E → Bool

-- what walks and traces read: the planes too, and what an end says (a leaf's number, or contents)
pub record Table (E A : Type 0) : Type 0 where
  pub nodes : Nodes E
  pub plane_at : ℕ → Answer Hyperplane
  pub leaf_at : E → Answer A
