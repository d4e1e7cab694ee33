-- A node table that is a chain passes the tree check from its first node, and its tree has as many nodes and is as high as the table has nodes: the front of
-- each node is an end, the back is the next node, and an end at the last.
-- Assumes nothing.
use Prim.Native.Nat.{ℕ, zero, suc, ◌+◌, ◌-◌, ◌<◌, ◌≤◌}
use mathlib.Core.Path.{◌≡◌, refl, sym, ap, ◌∙◌}
use mathlib.Core.Bool.{Bool, true, false, cond}
use mathlib.Core.List.{List, [], ◌∷◌}
use native.Mathlib.Omega.{arith}
use borrow.Author.Tests.{eqb-true, eqb-false, ne_eqb}
use lib.Dec.{eqb}
use lib.ListN.{length, replicate, length-replicate}
use Rattle.format.specs.Answer.{Answer, answer}
use Rattle.math.specs.declared.plane.HyperplaneSide.{HyperplaneSide}
use Rattle.math.specs.declared.plane.HyperplaneSide.TheVariants.{Positive, Negative}
use Rattle.walk.specs.Order.{child_nodes, nodes_below, tree_size}
use Rattle.walk.specs.Table.{Child, node, end, Node, Nodes, child_on}
use Rattle.walk.specs.Tree.{ChildOf, InTree, at_root, below, Reach, Valid, IsTree, Height}
use Rattle.walk.specs.TreeCheck.{tree_check}
use Rattle.walk.proofs.Check.{passes_only, passes_if}

-- two heights of one tree are the same
one_height : {E : Type 0} (N : Nodes E) (root h k : ℕ) → Height N root h → Height N root k → h ≡ k
one_height N root h k a b =
    let x = a.most b.deepest b.way b.leads in
    let y = b.most a.deepest a.way a.leads in
    omega (arith, a.as_deep, b.as_deep)

-- from node 0 on the table is one tree, of n nodes and as high as that, and the tree check says so
pub record Chained {E : Type 0} (N : Nodes E) (n : ℕ) : Type 0 where
  pub tree : IsTree N 0
  pub height : Height N 0 n
  pub size : tree_size N 0 ≡ n
  pub passes : (marks : List ℕ) → n ≤ length marks → (tree_check N marks 0).answer ≡ answer n

-- what is behind node i of n
abbrev pub behind : {E : Type 0} → E → ℕ → ℕ → Child E
behind stop n i = cond (eqb (i + 1) n) (end stop) (node (i + 1))

-- so many steps to the back
abbrev backs : ℕ → List HyperplaneSide
backs k = replicate k Negative

module _ {E : Type 0} (plane : ℕ → ℕ) (front : ℕ → E) (stop : E) (N : Nodes E) (n : ℕ) (all : N.count ≡ n)
    (reads : (i : ℕ) → i < n → N.node_at i ≡ answer (record { plane = plane i; front = end (front i); back = behind stop n i }))
    (planes : (i : ℕ) → i < n → plane i < N.planes) (fronts : (i : ℕ) → i < n → N.leaf_in (front i) ≡ true) (stops : N.leaf_in stop ≡ true) where
  abbrev record_at : ℕ → Node E
  record_at i = record { plane = plane i; front = end (front i); back = behind stop n i }

  no_node : {X : Type 0} (e : E) (j : ℕ) → ◌≡◌ {A = Child E} (end e) (node j) → X
  no_node e j q = let z : ◌≡◌ {A = ℕ} 0 1 = cc in absurd (omega arith)

  -- the child of a node is the next one, behind it
  next_child : (i j : ℕ) (side : HyperplaneSide) → i < n → child_on (record_at i) side ≡ node j → (side ≡ Negative) × (j ≡ i + 1) × (j < n)
  next_child i j Positive h q = no_node (front i) j q
  next_child i j Negative h q = by (eqb (i + 1) n) refl q
    where
      by : (t : Bool) → eqb (i + 1) n ≡ t → cond t (end stop) (node (i + 1)) ≡ node j → (Negative ≡ Negative) × (j ≡ i + 1) × (j < n)
      by true e q = no_node stop j q
      by false e q = let z : i + 1 ≡ j = cc in let d = eqb-false (i + 1) n e in (refl, sym z, omega arith)

  child_is : (i j : ℕ) (side : HyperplaneSide) → i < n → ChildOf N i side j → (side ≡ Negative) × (j ≡ i + 1) × (j < n)
  child_is i j side h c =
      let r : record_at i ≡ c.record_of = same (record_at i) c.record_of (sym (reads i h) ∙ c.read_as) in
      next_child i j side h (ap (λ (x : Node E). child_on x side) r ∙ c.is_child)
    where
      same : (x y : Node E) → ◌≡◌ {A = Answer (Node E)} (answer x) (answer y) → x ≡ y
      same x y e = cc

  -- so a way leads back and back only
  along : (p : List HyperplaneSide) (i m : ℕ) → i < n → Reach N i p m → (p ≡ backs (length p)) × (m ≡ i + length p) × (m < n)
  along [] i m h r = (refl, omega arith, omega arith)
  along (side ∷ p) i m h r =
      let c = child_is i r.0 side h r.1 in
      let a = along p r.0 m c.2 r.2 in
      (ap (λ (x : HyperplaneSide). x ∷ p) c.0 ∙ ap (λ (q : List HyperplaneSide). Negative ∷ q) a.0, omega (arith, c.1, a.1), a.2)

  -- and each node but the first is behind the one before it
  next_is : (i : ℕ) → i + 1 < n → ChildOf N i Negative (i + 1)
  next_is i h = record { record_of = record_at i; read_as = reads i (omega arith); is_child = rw (ne_eqb (i + 1) n (λ q. omega arith)) refl }

  leads_back : (k i : ℕ) → i + k < n → Reach N i (backs k) (i + k)
  leads_back zero i h = omega arith
  leads_back (suc k) i h =
      let z : i + 1 + k ≡ i + suc k = omega arith in
      (i + 1, next_is i (omega arith), rw z at (leads_back k (i + 1) (omega arith)))

  ends_in : (i : ℕ) (side : HyperplaneSide) (e : E) → i < n → child_on (record_at i) side ≡ end e → N.leaf_in e ≡ true
  ends_in i Positive e h q = let z : front i ≡ e = cc in rw z at (fronts i h)
  ends_in i Negative e h q = by (eqb (i + 1) n) q
    where
      by : (t : Bool) → cond t (end stop) (node (i + 1)) ≡ end e → N.leaf_in e ≡ true
      by true q = let z : stop ≡ e = cc in rw z at stops
      by false q = no_node e (i + 1) (sym q)

  -- the nodes below node i are those from i on
  nodes_from : (k i : ℕ) → i < n → n ≤ i + k → length (nodes_below N k i) + i ≡ n
  unfolding nodes_below
  nodes_from zero i h l = absurd (omega arith)
  nodes_from (suc k) i h l = rw (reads i h) (by (λ j. nodes_from k (i + 1) j (omega arith)) (eqb (i + 1) n) refl)
    where
      by : (i + 1 < n → length (nodes_below N k (i + 1)) + (i + 1) ≡ n) → (t : Bool) → eqb (i + 1) n ≡ t
          → suc (length (child_nodes N (λ m. nodes_below N k m) (cond t (end stop) (node (i + 1))))) + i ≡ n
      by again true e = let z = eqb-true (i + 1) n e in omega arith
      by again false e =
          let d = eqb-false (i + 1) n e in
          let a = again (omega arith) in
          omega arith

  module _ (low : 1 ≤ n) (high : n ≤ 512) where
    in_chain : (m : ℕ) → InTree N 0 m → m < n
    in_chain m (at_root e) = omega arith
    in_chain m (below {m = k} side t c) = (child_is k m side (in_chain k t) c).2

    valid : (m : ℕ) → m < n → Valid N m
    valid m h = record { in_range = omega arith; record_of = record_at m; read_as = reads m h; plane_in = planes m h; ends_in = λ side e q. ends_in m side e h q }

    one_way : (m : ℕ) (p q : List HyperplaneSide) → Reach N 0 p m → Reach N 0 q m → p ≡ q
    one_way m p q r w =
        let a = along p 0 m low r in
        let b = along q 0 m low w in
        let z : length p ≡ length q = omega (arith, a.1, b.1) in
        a.0 ∙ ap backs z ∙ sym b.0

    is_tree : IsTree N 0
    is_tree = record {
      valid = λ m t. valid m (in_chain m t);
      one_way = one_way;
      shallow = λ m p r. let a = along p 0 m low r in omega (arith, a.1, a.2);
    }

    is_high : Height N 0 n
    is_high =
        let z : length (backs (n - 1)) ≡ n - 1 = length-replicate (n - 1) Negative in
        record {
          most = λ m p r. let a = along p 0 m low r in omega (arith, a.1, a.2);
          deepest = 0 + (n - 1);
          way = backs (n - 1);
          leads = leads_back (n - 1) 0 (omega arith);
          as_deep = omega arith;
        }

    check_passes : (marks : List ℕ) → n ≤ length marks → (tree_check N marks 0).answer ≡ answer n
    check_passes marks room =
        let p = passes_if N marks 0 (omega arith) is_tree in
        p.1 ∙ ap answer (one_height N 0 p.0 n (passes_only N marks 0 p.0 p.1).1 is_high)

    pub chain : Chained N n
    chain =
        let a = nodes_from 512 0 low (omega arith) in
        record { tree = is_tree; height = is_high; size = omega arith; passes = check_passes }
