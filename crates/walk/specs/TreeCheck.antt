-- The tree check of document 01, over one lent mark byte for each node: 0 where the node was not reached yet.
-- Front before back, each node: its index (30), reached before (34), depth above 512 (32), its record (23), its plane's number (30), and each end when it is met (30).
-- It reads node records alone.
use Rattle.std.specs.Prelude.{ℕ, zero, suc, ◌+◌, max, cond, List, ◌++◌, ltb, eqb, length, get_or, set, replicate, drop}
use Rattle.format.specs.Answer.{Answer, answer, refused, mapped}
use Rattle.walk.specs.Table.{Child, node, end, Node, Nodes}

-- what the check answers, a height or a refusal, and the marks that it leaves
pub record Checked : Type 0 where
  pub answer : Answer ℕ
  pub marks : List ℕ

abbrev pub checked : Answer ℕ → List ℕ → Checked
checked a ms = record { answer = a; marks = ms }

-- a node's height is one more than the greater height of its children
abbrev pub higher : ℕ → Answer ℕ → Answer ℕ
higher front back = mapped (λ height. max front height + 1) back

abbrev pub with_front : ℕ → Checked → Checked
with_front front back = checked (higher front back.answer) back.marks

-- the back child, if the front child passed, with the marks as the front child left them
abbrev pub then_back : Answer ℕ → List ℕ → (List ℕ → Checked) → Checked
then_back (answer front) ms back = with_front front (back ms)
then_back (refused n) ms back = checked (refused n) ms

module _ {E : Type 0} (N : Nodes E) where
  -- a child: a node is visited by `go`; an end has no height
  abbrev pub check_child : (ℕ → List ℕ → Checked) → Child E → List ℕ → Checked
  check_child go (node n) ms = go n ms
  check_child go (end e) ms = cond (N.leaf_in e) (checked (answer 0) ms) (checked (refused 30) ms)

  abbrev pub check_children : (ℕ → List ℕ → Checked) → Node E → List ℕ → Checked
  check_children go nd ms =
      let front : Checked = check_child go nd.front ms in
      then_back front.answer front.marks (check_child go nd.back)

  -- a node's record: its plane's number, its front child, its back child
  abbrev pub check_record : (ℕ → List ℕ → Checked) → Answer (Node E) → List ℕ → Checked
  check_record go (answer nd) ms = cond (ltb nd.plane N.planes) (check_children go nd ms) (checked (refused 30) ms)
  check_record go (refused n) ms = checked (refused n) ms

  -- a node's index, then whether it was reached before, then the rest
  abbrev pub check_index : ℕ → List ℕ → Checked → Checked
  check_index i ms rest =
      cond (ltb i N.count)
      (cond (eqb (get_or ms i 0) 0) rest (checked (refused 34) ms))
      (checked (refused 30) ms)

  -- the node i, with k levels left
  unfoldable pub check_node : ℕ → ℕ → List ℕ → Checked
  check_node zero i ms = check_index i ms (checked (refused 32) ms)
  check_node (suc k) i ms = check_index i ms (check_record (λ n ms. check_node k n ms) (N.node_at i) (set ms i 1))

  -- one mark for each node, else 22 with the marks untouched. The root has depth 1, so its height is the tree's.
  -- Afterwards the first marks, one for each node, are zero, and later ones are kept.
  unfoldable pub tree_check : List ℕ → ℕ → Checked
  tree_check ms root =
      cond (ltb (length ms) N.count)
      (checked (refused 22) ms)
      (checked (check_node 512 root (replicate N.count 0)).answer (replicate N.count 0 ++ drop N.count ms))
