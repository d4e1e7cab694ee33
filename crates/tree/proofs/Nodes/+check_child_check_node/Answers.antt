-- The proof of the cycle of calls {check_child, check_node}. At each place that several goals follow, a lemma says what the check comes to
-- from there.
-- Assumes nothing.
use Prim.Native.Nat.{ℕ, ◌+◌, ◌-◌, ◌<◌, ◌≤◌}
use mathlib.Core.Path.{◌≡◌, sym, ap, ◌∙◌}
use mathlib.Core.List.{List}
use native.Mathlib.Omega.{arith}
use lib.ListN.{length, get_or, set, length-set}
use Rattle.format.specs.Answer.{Answer, answer, refused}
use Rattle.walk.specs.Table.{Node, Nodes}
use Rattle.walk.specs.TreeCheck.{Checked, checked, with_front, then_back, check_child, check_record, check_node}
use Rattle.walk.proofs.CheckSteps.{check_outside, check_twice, check_deep, record_unread, record_outside, record_children}
use Rattle.nodes.specs.Tables.{End}
use Rattle.nodes.specs.Fast as Fast
use Rattle.nodes.specs.declared.table.Tables.{Tables}
use Rattle.nodes.specs.declared.read.Words.{Words}
use Rattle.tree.specs.Check.{check_word}
use Rattle.tree.proofs.Laws.{opens, child_low}
use Rattle.tree.proofs.Nodes.+check_child_check_node.Goals.{check_node-After-check_child, check_node-After-check_child-2}
use Rattle.tree.proofs.Nodes.+check_child_check_node.Goals as goal
use Rattle.format.proofs.Answers.{handed_on}

module _ (s : List ℕ) (t : Tables) (node levels : ℕ) (ms : List ℕ) where
  abbrev nodes : Nodes End
  nodes = Fast.nodes s t

  -- the check of the node, and of one below it
  abbrev whole : Checked
  whole = check_node nodes levels node ms

  abbrev deeper : ℕ → List ℕ → Checked
  deeper = λ n l. check_node nodes (levels - 1) n l

  -- a child's check by its word, from the given marks
  abbrev of_word : List ℕ → ℕ → Checked
  of_word l = λ k. check_word nodes t.table (levels - 1) k l

  module _ (inside : node < t.nodes.count) (fresh : get_or ms node 0 ≡ 0) (some : levels ≡ 0 → ⊥) where
    -- the node is not reached before, and not too deep
    at_marked : check_record nodes deeper (nodes.node_at node) (set ms node 1) ≡ whole
    at_marked = opens nodes levels node ms inside fresh some

    unread : (n : ℕ) → refused n ≡ nodes.node_at node → checked (refused n) (set ms node 1) ≡ whole
    unread n read = sym (record_unread nodes deeper (nodes.node_at node) (set ms node 1) n (sym read)) ∙ at_marked

    -- the node's record, once it is read
    module _ (w : Words) (read : answer (Fast.node_of t.table w) ≡ nodes.node_at node) where
      abbrev record_of : Node End
      record_of = Fast.node_of t.table w

      no_plane : t.planes.count ≤ w.plane → checked (refused 30) (set ms node 1) ≡ whole
      no_plane h = sym (record_outside nodes deeper (nodes.node_at node) (set ms node 1) record_of (sym read) h) ∙ at_marked

      -- the plane is there: the front child, and then the back child
      module _ (planed : w.plane < t.planes.count) (a : Answer ℕ) (l : List ℕ) (front : checked a l ≡ check_child nodes deeper record_of.front (set ms node 1)) where
        at_front : then_back a l (check_child nodes deeper record_of.back) ≡ whole
        at_front =
            ap (λ (v : Checked). then_back v.answer v.marks (check_child nodes deeper record_of.back)) front
            ∙ sym (record_children nodes deeper (nodes.node_at node) (set ms node 1) record_of (sym read) planed) ∙ at_marked

-- the front child was checked, with the answer x
front_checked : (t : ℕ) (c : check_node-After-check_child t) (x : Answer ℕ) →
    let a = c.args in
    checked x c.check_child.new.marks ≡ check_word (Fast.nodes a.self.now.file.now a.self.now.tables) a.self.now.tables.table (a.levels - 1) c.on.result (set a.marks.now a.node 1)
    → checked x c.check_child.new.marks
    ≡ check_child (Fast.nodes a.self.now.file.now a.self.now.tables) (λ n l. check_node (Fast.nodes a.self.now.file.now a.self.now.tables) (a.levels - 1) n l) (Fast.node_of a.self.now.tables.table c.in_ok-words.words).front (set a.marks.now a.node 1)
front_checked t c x e =
    let a = c.args in
    e ∙ ap (of_word a.self.now.file.now a.self.now.tables a.node a.levels a.marks.now (set a.marks.now a.node 1)) c.on.ensures

front_done : (t : ℕ) (c : check_node-After-check_child t) (x : Answer ℕ) →
    let a = c.args in
    checked x c.check_child.new.marks ≡ check_word (Fast.nodes a.self.now.file.now a.self.now.tables) a.self.now.tables.table (a.levels - 1) c.on.result (set a.marks.now a.node 1)
    → then_back x c.check_child.new.marks (check_child (Fast.nodes a.self.now.file.now a.self.now.tables) (λ n l. check_node (Fast.nodes a.self.now.file.now a.self.now.tables) (a.levels - 1) n l) (Fast.node_of a.self.now.tables.table c.in_ok-words.words).back)
    ≡ check_node (Fast.nodes a.self.now.file.now a.self.now.tables) a.levels a.node a.marks.now
front_done t c x e =
    let a = c.args in
    at_front a.self.now.file.now a.self.now.tables a.node a.levels a.marks.now c.if-nodes-node.false c.if-mark-ne0.false c.if-levels-eq0.false c.in_ok-words.words c.in_ok-words.ensures c.if-planes-words.false
    x _ (front_checked t c x e)

kept_front : (t : ℕ) (c : check_node-After-check_child t) → length c.check_child.new.marks ≡ length c.args.marks.now
kept_front t c = c.check_child.auto.marks ∙ simp length-set

-- the measure of a call of `check_child`
fewer : (k t : ℕ) → k + k ≡ t → (k ≡ 0 → ⊥) → k - 1 + (k - 1) + 1 < t
fewer k t e z = omega arith

-- the back child was checked, with the answer x
back_checked : (t : ℕ) (c : check_node-After-check_child-2 t) (x : Answer ℕ) →
    let a = c.args in
    checked x c.check_child-2.new.marks ≡ check_word (Fast.nodes a.self.now.file.now a.self.now.tables) a.self.now.tables.table (a.levels - 1) c.on-2.result c.check_child.new.marks
    → checked x c.check_child-2.new.marks
    ≡ check_child (Fast.nodes a.self.now.file.now a.self.now.tables) (λ n l. check_node (Fast.nodes a.self.now.file.now a.self.now.tables) (a.levels - 1) n l) (Fast.node_of a.self.now.tables.table c.in_ok-words.words).back c.check_child.new.marks
back_checked t c x e =
    let a = c.args in
    e ∙ ap (of_word a.self.now.file.now a.self.now.tables a.node a.levels a.marks.now c.check_child.new.marks) c.on-2.ensures

back_done : (t : ℕ) (c : check_node-After-check_child-2 t) (x : Answer ℕ) →
    let a = c.args in
    then_back (answer c.in_ok-front.front) c.check_child.new.marks (check_child (Fast.nodes a.self.now.file.now a.self.now.tables) (λ n l. check_node (Fast.nodes a.self.now.file.now a.self.now.tables) (a.levels - 1) n l) (Fast.node_of a.self.now.tables.table c.in_ok-words.words).back)
    ≡ check_node (Fast.nodes a.self.now.file.now a.self.now.tables) a.levels a.node a.marks.now
    → checked x c.check_child-2.new.marks ≡ check_word (Fast.nodes a.self.now.file.now a.self.now.tables) a.self.now.tables.table (a.levels - 1) c.on-2.result c.check_child.new.marks
    → with_front c.in_ok-front.front (checked x c.check_child-2.new.marks) ≡ check_node (Fast.nodes a.self.now.file.now a.self.now.tables) a.levels a.node a.marks.now
back_done t c x front e = ap (with_front c.in_ok-front.front) (back_checked t c x e) ∙ front

pub check_node-returns-then-nodes-node : goal.check_node-returns-then-nodes-node
check_node-returns-then-nodes-node t c = sym (check_outside _ c.args.levels c.args.node c.args.marks.now c.if-nodes-node.true)

pub check_node-returns-then-mark-ne0 : goal.check_node-returns-then-mark-ne0
check_node-returns-then-mark-ne0 t c = sym (check_twice _ c.args.levels c.args.node c.args.marks.now c.if-nodes-node.false c.if-mark-ne0.true)

pub check_node-returns-then-levels-eq0 : goal.check_node-returns-then-levels-eq0
check_node-returns-then-levels-eq0 t c = sym (check_deep _ c.args.levels c.args.node c.args.marks.now c.if-nodes-node.false c.if-levels-eq0.true c.if-mark-ne0.false)

pub check_node-returns-in_err-words : goal.check_node-returns-in_err-words
check_node-returns-in_err-words t c =
    let a = c.args in
    rw (handed_on c.from_residual.ensures.1) (unread a.self.now.file.now a.self.now.tables a.node a.levels a.marks.now c.if-nodes-node.false c.if-mark-ne0.false c.if-levels-eq0.false _ c.in_err-words.ensures)

pub check_node-returns-then-planes-words : goal.check_node-returns-then-planes-words
check_node-returns-then-planes-words t c =
    let a = c.args in
    no_plane a.self.now.file.now a.self.now.tables a.node a.levels a.marks.now c.if-nodes-node.false c.if-mark-ne0.false c.if-levels-eq0.false _ c.in_ok-words.ensures c.if-planes-words.true

pub check_node-returns-in_err-front : goal.check_node-returns-in_err-front
check_node-returns-in_err-front t c =
    rw (handed_on c.from_residual-in_err-front.ensures.1) (front_done t (goal.at.check_node-returns-in_err-front t c).After-check_child _ c.in_err-front.ensures)

pub check_node-returns-in_err-back : goal.check_node-returns-in_err-back
check_node-returns-in_err-back t c =
    let at = goal.at.check_node-returns-in_err-back t c in
    rw (handed_on c.from_residual-in_err-back.ensures.1) (back_done t at.After-check_child-2 _ (front_done t at.After-check_child _ c.in_ok-front.ensures) c.in_err-back.ensures)

pub check_node-overflow_add-result : goal.check_node-overflow_add-result
check_node-overflow_add-result t c =
    let a = c.args in
    let at = goal.at.check_node-overflow_add-result t c in
    let f = front_checked t at.After-check_child _ c.in_ok-front.ensures in
    let b = back_checked t at.After-check_child-2 _ c.in_ok-back.ensures in
    let l : c.in_ok-front.front ≤ a.levels - 1 = child_low (Fast.nodes a.self.now.file.now a.self.now.tables) (a.levels - 1) (Fast.node_of a.self.now.tables.table c.in_ok-words.words).front (set a.marks.now a.node 1) _ (sym (ap (λ (x : Checked). x.answer) f)) in
    let m : c.in_ok-back.back ≤ a.levels - 1 = child_low (Fast.nodes a.self.now.file.now a.self.now.tables) (a.levels - 1) (Fast.node_of a.self.now.tables.table c.in_ok-words.words).back c.check_child.new.marks _ (sym (ap (λ (x : Checked). x.answer) b)) in
    omega (arith, c.ranges.levels.fits, c.max.ensures)

pub check_node-returns : goal.check_node-returns
check_node-returns t c =
    let at = goal.at.check_node-returns t c in
    ap (λ h. checked (answer (h + 1)) c.check_child-2.new.marks) c.max.ensures ∙ back_done t at.After-check_child-2 _ (front_done t at.After-check_child _ c.in_ok-front.ensures) c.in_ok-back.ensures
