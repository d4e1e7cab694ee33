-- Twice the levels left is the measure of `box_node`, and one more that of `box_child`, which calls `box_node` with as many.
use Prim.Native.Nat.{◌+◌}
use Rattle.boxes.proofs.+box_child_box_node.Given as goal

abbrev pub decreases-box_child : goal.decreases-box_child
decreases-box_child l = l.levels + l.levels + 1

abbrev pub decreases-box_node : goal.decreases-box_node
decreases-box_node l = l.levels + l.levels
