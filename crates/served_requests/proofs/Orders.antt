-- What writing the rows of a root's tree is refused with, and what walks and traces by rows are: what the file's own records refuse, and the numbers of a
-- list that is too short and of the tree check. None of them is 0. Assumes nothing.
use Rattle.std.specs.Prelude.{Option, Some, None}
use Prim.Native.Nat.{ℕ, zero, suc, ◌+◌, ◌*◌}
use mathlib.Core.Bool.{Bool, true, false, cond}
use mathlib.Core.List.{List, [], ◌++◌}
use mathlib.Core.Path.{refl}
use native.Mathlib.Omega.{arith}
use lib.Dec.{ltb}
use lib.IntN.{ℤ, pos, negsuc}
use lib.ListN.{length, get_or, drop}
use Rattle.format.specs.Answer as Ans
use Rattle.format.specs.Answer.{Answer, answer, mapped, then_answer}
use Rattle.format.specs.Code.{contents_of}
use Rattle.format.specs.declared.contents.BspLeafContents.{BspLeafContents}
use Rattle.format.specs.declared.section.BspData.{BspData}
use Rattle.format.specs.declared.section.BspFileSectionId.TheVariants.{Planes, RenderNodes, CollisionNodes, Leaves}
use Rattle.records.specs.Leaf.{leaf_at, leaf_of}
use Rattle.records.specs.Node.{render_node_at, render_node_of, collision_node_at, collision_node_of}
use Rattle.records.specs.Plane.{plane_at}
use Rattle.walk.specs.Table.{Child, node, end, Node, Table}
use Rattle.walk.specs.TreeCheck.{tree_check}
use Rattle.walk.specs.Ordered.{Row, Part, node_part, end_part, over, part_below, rows_at, rows_below, rows_of, words_of, coded, child_of, row_with, row_at}
use Rattle.walk.specs.Writing.{in_order, put_rows, after_check, order_nodes}
use Rattle.walk.proofs.NoPanic.{Own}
use Rattle.nodes.specs.Tables.{End, contents, leaf, nothing, render_node, clip_node, nodes_of, leaf_contents, contents_of_end, table_of, file_table}
use Rattle.nodes.specs.declared.table.HullTable.TheVariants.{Render, Clip}
use Rattle.loaded.specs.Refusals.{RefusedOnly}
use Rattle.loaded.proofs.Refusals.{answers, refuses, of_mapped, of_record}
use Rattle.ordered.specs.Same.{file_nodes, file_rows}
use Rattle.served.proofs.Refusals.{of_check}

module _ (P : ℕ → Type 0) where
  pub of_then : {A B : Type 0} (x : Answer A) (k : A → Answer B) → RefusedOnly P x → ((a : A) → RefusedOnly P (k a)) → RefusedOnly P (then_answer x k)
  of_then (answer a) k f g = g a
  of_then {B = B} (Ans.refused n) k f g = refuses P {A = B} n (f n refl)

  -- ---- the rows of a tree

  module _ {E : Type 0} (T : Table E BspLeafContents) (nodes : (i : ℕ) → RefusedOnly P (T.nodes.node_at i)) (leaves : (e : E) → RefusedOnly P (T.leaf_at e)) where
    of_part : (go : ℕ → ℕ → Answer (List Row)) → ((n q : ℕ) → RefusedOnly P (go n q)) → (q : ℕ) (c : Child E) → RefusedOnly P (part_below T go q c)
    of_part go f q (node n) = of_mapped P (node_part q) (go n q) (f n q)
    of_part go f q (end e) = of_mapped P end_part (T.leaf_at e) (leaves e)

    of_row : (go : ℕ → ℕ → Answer (List Row)) → ((n q : ℕ) → RefusedOnly P (go n q)) → (q : ℕ) (x : Answer (Node E)) → RefusedOnly P x → RefusedOnly P (rows_at T go q x)
    of_row go f q (answer nd) r =
        of_then (part_below T go (suc q) nd.front) (λ (a : Part). mapped (over nd.plane a) (part_below T go (suc q + length a.1) nd.back)) (of_part go f (suc q) nd.front)
        (λ (a : Part). of_mapped P (over nd.plane a) (part_below T go (suc q + length a.1) nd.back) (of_part go f (suc q + length a.1) nd.back))
    of_row go f q (Ans.refused n) r = refuses P {A = List Row} n (r n refl)

    of_rows : (k i q : ℕ) → RefusedOnly P (rows_below T k i q)
    unfolding rows_below
    of_rows zero i q = answers P {A = List Row} []
    of_rows (suc k) i q = of_row (λ n q. rows_below T k n q) (λ n q. of_rows k n q) q (T.nodes.node_at i) (nodes i)

    module _ (p22 : P 22) where
      of_put : (ms : List ℕ) (rs : List Row) (ws : List ℤ) → RefusedOnly P (put_rows ms rs ws).answer
      of_put ms rs ws = by (ltb (length ws) (3 * length rs))
        where
          by : (b : Bool) → RefusedOnly P (cond b (in_order (Ans.refused 22) ms ws) (in_order (answer (length rs)) ms (words_of rs ++ drop (3 * length rs) ws))).answer
          by true = refuses P {A = ℕ} 22 p22
          by false = answers P (length rs)

      of_both : (a : Answer ℕ) (ms : List ℕ) (rows : Answer (List Row)) (ws : List ℤ) → RefusedOnly P a → RefusedOnly P rows → RefusedOnly P (after_check a ms rows ws).answer
      of_both (answer h) ms (answer rs) ws f g = of_put ms rs ws
      of_both (answer h) ms (Ans.refused n) ws f g = refuses P {A = ℕ} n (g n refl)
      of_both (Ans.refused n) ms rows ws f g = refuses P {A = ℕ} n (f n refl)

      of_writing : (ms : List ℕ) (root : ℕ) (ws : List ℤ) → RefusedOnly P (tree_check T.nodes ms root).answer → RefusedOnly P (order_nodes T ms root ws).answer
      unfolding order_nodes
      of_writing ms root ws f = of_both (tree_check T.nodes ms root).answer (tree_check T.nodes ms root).marks (rows_of T root) ws f (of_rows 512 root 0)

  -- ---- those of a file

  module _ (p23 : P 23) (s : List ℕ) (m : BspData) where
    module _ (p20 : P 20) (p22 : P 22) (p30 : P 30) (p32 : P 32) (p34 : P 34) where
      of_end : (e : End) → RefusedOnly P (contents_of_end s m e)
      of_end (contents c) = answers P c
      of_end (leaf n) = of_mapped P leaf_contents (leaf_of s m n) (of_record P p23 Leaves leaf_at s m n (λ l. p20))
      of_end nothing = refuses P {A = BspLeafContents} 23 p23

      of_node : (render : Bool) (i : ℕ) → RefusedOnly P ((nodes_of s m (file_table render)).node_at i)
      of_node true i = of_mapped P render_node (render_node_of s m i) (of_record P p23 RenderNodes render_node_at s m i (λ l. p20))
      of_node false i = of_mapped P clip_node (collision_node_of s m i) (of_record P p23 CollisionNodes collision_node_at s m i (λ l. p20))

      pub of_order : (render : Bool) (ms : List ℕ) (root : ℕ) (ws : List ℤ) → RefusedOnly P (order_nodes (file_nodes s m render) ms root ws).answer
      unfolding table_of
      of_order true ms root ws = of_writing (file_nodes s m true) (of_node true) of_end p22 ms root ws (of_check P p20 p22 p23 p30 p32 p34 s m Render ms root)
      of_order false ms root ws = of_writing (file_nodes s m false) (of_node false) of_end p22 ms root ws (of_check P p20 p22 p23 p30 p32 p34 s m Clip ms root)

    -- ---- rows that a caller lends

    of_coded : (c : Option BspLeafContents) → RefusedOnly P (coded c)
    of_coded (Some c) = answers P {A = Child BspLeafContents} (end c)
    of_coded None = refuses P {A = Child BspLeafContents} 23 p23

    of_child : (w : ℤ) → RefusedOnly P (child_of w)
    of_child (pos n) = answers P {A = Child BspLeafContents} (node n)
    of_child (negsuc n) = of_coded (contents_of (suc n))

    of_words : (p f b : ℤ) → RefusedOnly P (row_with p f b)
    of_words (pos p) f b =
        of_then (child_of f) (λ (x : Child BspLeafContents). mapped (λ (y : Child BspLeafContents). record { plane = p; front = x; back = y }) (child_of b)) (of_child f)
        (λ (x : Child BspLeafContents). of_mapped P (λ (y : Child BspLeafContents). record { plane = p; front = x; back = y }) (child_of b) (of_child b))
    of_words (negsuc p) f b = refuses P {A = Row} 23 p23

    of_row_at : (ws : List ℤ) (i : ℕ) → RefusedOnly P (row_at ws i)
    unfolding row_at
    of_row_at ws i = of_words (get_or ws (3 * i) (pos 0)) (get_or ws (3 * i + 1) (pos 0)) (get_or ws (3 * i + 2) (pos 0))

    pub own_rows : (ws : List ℤ) → Own P (file_rows s m ws)
    unfolding file_rows table_of
    own_rows ws = record {
      nodes_refuse = λ i n h. of_row_at ws i n;
      planes_refuse = λ i n h. of_record P p23 Planes plane_at s m i (λ l. absurd (omega (arith, h, l))) n;
      leaves_refuse = λ e n h. answers P e n;
    }
