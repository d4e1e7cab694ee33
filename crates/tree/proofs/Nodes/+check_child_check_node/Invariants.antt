-- Twice the levels left is the measure of `check_node`, and one more that of `check_child`, which calls `check_node` with as many.
use Prim.Native.Nat.{◌+◌}
use Rattle.tree.proofs.Nodes.+check_child_check_node.Given as goal

abbrev pub decreases-check_child : goal.decreases-check_child
decreases-check_child l = l.levels + l.levels + 1

abbrev pub decreases-check_node : goal.decreases-check_node
decreases-check_node l = l.levels + l.levels
