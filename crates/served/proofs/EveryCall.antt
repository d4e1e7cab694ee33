-- Demand 3 at the calls that a server makes (specs/EveryCall.antt says it): what bsp_load wrote is read back as the map record of a file that loads, what
-- bsp_tree_check passed is a root that passed the tree check, and `every_table` of loaded/proofs/EveryFile.antt does the rest. Assumes nothing.

use Rattle.std.specs.Prelude as Std
use Prim.Native.Nat.{ℕ, ◌≤◌}
use native.Mathlib.Omega.{arith}
use mathlib.Core.Bool.{Bool, true, false, cond}
use mathlib.Core.List.{List, [], ◌∷◌, ◌++◌, Memᴰ}
use mathlib.Core.Path.{◌≡◌, refl, sym, ap, subst, ◌∙◌}
use borrow.Author.Tests.{le-ltb, eqb-true}
use lib.Dec.{ltb, eqb}
use lib.Ieee.{Float}
use lib.ListN.{length, take, drop, get_or}
use Rattle.format.specs.Answer.{Answer, answer, refused, mapped, then_answer}
use Rattle.format.specs.Listed.{into}
use Rattle.format.specs.declared.contents.BspLeafContents.{BspLeafContents}
use Rattle.format.specs.declared.section.BspData.{BspData}
use Rattle.phys.specs.declared.Trace.{Trace}
use Rattle.walk.specs.Table.{Nodes, Table as WalkTable}
use Rattle.walk.specs.Walk.{Outcome, with_visits, point_walk}
use Rattle.walk.specs.Tracing as Tracing
use Rattle.walk.specs.Tree.{NoTwice, InTree}
use Rattle.walk.specs.TreeCheck.{tree_check}
use Rattle.walk.specs.Demand3.{Answered, AnsweredWithin}
use Rattle.walk.specs.Order.{in_order}
use Rattle.walk.proofs.Size.{no_longer, tree_listed, size_low}
use Rattle.nodes.specs.Tables.{End, nodes_of, leaf_table}
use Rattle.nodes.specs.declared.table.HullTable.{HullTable}
use Rattle.nodes.specs.declared.table.HullTable.TheVariants.{Render, Clip, Box}
use Rattle.hull.specs.Hull as Hull
use Rattle.hull.specs.declared.collision.BspCollisionHull.{BspCollisionHull}
use Rattle.entered.specs.Lists.{nodes_entered}
use Rattle.tree.specs.Readable.{Floats}
use Rattle.loaded.specs.Demand3.{Demand3}
use Rattle.load.specs.Load.{load_of}
use Rattle.loaded.specs.Refusals.{RefusedOnly}
use Rattle.loaded.proofs.EveryFile.{every_table}
use Rattle.loaded.proofs.Loading.{loading_refuses}
use Rattle.words.specs.Words.{Written, written, given, put, Left, left, enough, listed_in, number_words, map_words, map_of}
use Rattle.served.specs.Cited.{bsp_load, bsp_tree_check, bsp_contents, bsp_find_leaf, bsp_trace, bsp_contents_nodes, bsp_find_leaf_nodes, bsp_trace_nodes, point_at, table_numbered, check_of, hull_from, vector_at, hull_in, table_word, contents_words, leaf_words, trace_words}
use Rattle.served.specs.NamedWords.{map_length, hull_asked, contents_length, leaf_length, trace_length, hull_table, hull_root, contents_visits, leaf_visits, trace_visits, tree_height, render_table}
use Rattle.served.specs.EveryCall.{nodes_in, Lists, Served, Calls, map_written, EveryCall}
use Rattle.served.proofs.Refusals.{of_check}
use Rattle.served.proofs.Statuses.{Some, long, long_both, were_long, from_words, word_floats}

-- ---- bsp_load

pub record Loads (s map : List ℕ) : Type 0 where
  pub room : map_length ≤ length map
  pub loads : load_of s ≡ answer (map_of map)

some_number : (s : List ℕ) → RefusedOnly Some (load_of s)
some_number s n e = (loading_refuses s n e).0

pub load_passed : (s lent : List ℕ) → (bsp_load s lent).status ≡ 0 → Loads s (map_written s lent)
unfolding bsp_load
load_passed s lent e = by (load_of s) refl (ltb (length lent) 31) e
  where
    by : (x : Answer BspData) → load_of s ≡ x → (b : Bool) → (cond b (written 22 lent) (given (mapped map_words x) lent)).status ≡ 0
        → Loads s (cond b (written 22 lent) (given (mapped map_words x) lent)).list
    by x q true e = absurd (omega (arith, e))
    by (answer m) q false e = record { room = omega arith; loads = q }
    by (refused n) q false e = let l : 1 ≤ n = some_number s n q in absurd (omega (arith, e, l))

-- ---- bsp_tree_check

pub record Checked (s map : List ℕ) (table root height : ℕ) : Type 0 where
  pub t : HullTable
  pub is_table : table ≡ table_word t
  pub marks : List ℕ
  pub passed : (tree_check (nodes_of s (map_of map) t) marks root).answer ≡ answer height

is_word : (n : ℕ) (t : HullTable) → table_numbered n ≡ Std.Some t → n ≡ table_word t
unfolding table_numbered
is_word n t e = by (eqb n 0) (eqb n 1) (eqb n 2) refl refl refl t e
  where
    by : (a b c : Bool) → eqb n 0 ≡ a → eqb n 1 ≡ b → eqb n 2 ≡ c → (t : HullTable) → cond a (Std.Some Render) (cond b (Std.Some Clip) (cond c (Std.Some Box) Std.None)) ≡ Std.Some t → n ≡ table_word t
    by true b c p q r t e = let z : t ≡ Render = cc in rw z (eqb-true n 0 p)
    by false true c p q r t e = let z : t ≡ Clip = cc in rw z (eqb-true n 1 q)
    by false false true p q r t e = let z : t ≡ Box = cc in rw z (eqb-true n 2 r)
    by false false false p q r t e = let z : ◌≡◌ {A = ℕ} 0 1 = cc in absurd (omega arith)

module _ (s map : List ℕ) (table root : ℕ) (marks out : List ℕ) where
  at_table : (x : Std.Option HullTable) → table_numbered table ≡ x → (check_of x s map root marks out).status ≡ 0 → Checked s map table root (tree_height (check_of x s map root marks out).out)
  at_table Std.None q e = absurd (omega (arith, e))
  at_table (Std.Some t) q e = by (tree_check (nodes_of s (map_of map) t) marks root).answer refl e
    where
      by : (x : Answer ℕ) → (tree_check (nodes_of s (map_of map) t) marks root).answer ≡ x → (given (mapped number_words x) out).status ≡ 0
          → Checked s map table root (tree_height (given (mapped number_words x) out).list)
      by (answer h) p e = record { t = t; is_table = is_word table t q; marks = marks; passed = p }
      by (refused n) p e = let l : 1 ≤ n = of_check Some (omega arith) (omega arith) (omega arith) (omega arith) (omega arith) (omega arith) s (map_of map) t marks root n p in absurd (omega (arith, e, l))

  pub check_passed : (bsp_tree_check s map table root marks out).status ≡ 0 → Checked s map table root (tree_height (bsp_tree_check s map table root marks out).out)
  unfolding bsp_tree_check
  check_passed e =
      let a = were_long 31 map marks out (enough 1 out marks out (check_of (table_numbered table) s map root marks out)) e in
      let b = were_long 1 out marks out (check_of (table_numbered table) s map root marks out) a.1 in
      subst (λ (x : Left). Checked s map table root (tree_height x.out))
      (sym (long_both 31 map marks out _ a.0 ∙ long_both 1 out marks out (check_of (table_numbered table) s map root marks out) b.0))
      (at_table (table_numbered table) refl b.1)

-- ---- one law for every call with its list

taken : (a b : List ℕ) → take (length a) (a ++ b) ≡ a
taken [] b = refl
taken (x ∷ a) b = ap (λ (l : List ℕ). x ∷ l) (taken a b)

module _ (s map : List ℕ) (table root : ℕ) {A : Type 0} (o : Outcome A) (R : Answered (nodes_in s map table) root o) where
  lists : (list out : List ℕ) (l : Left) → length R.nodes ≤ length list → l ≡ listed_in (into (nodes_entered o) list) out → Lists s map table root (length R.nodes) l
  lists list out l h e =
      let is : l ≡ left 0 (R.nodes ++ drop (length R.nodes) list) (put (number_words (length R.nodes)) out) =
      e ∙ ap (λ (x : Outcome A). listed_in (into (nodes_entered x) list) out) R.answered ∙ simp (le-ltb (length list) (length R.nodes) h) in
      let front : take (length R.nodes) l.list ≡ R.nodes = ap (λ (x : Left). take (length R.nodes) x.list) is ∙ taken R.nodes _ in
      record {
        answers = ap (λ (x : Left). x.status) is;
        counted = ap (λ (x : Left). get_or x.out 0 0) is;
        in_tree = λ n m. R.in_tree n (subst (λ (x : List ℕ). Memᴰ n x) front m);
        once = subst NoTwice (sym front) R.once;
      }

  module _ (words : A × ℕ → List ℕ) (visits : List ℕ → ℕ) (most : ℕ) (few : length R.nodes ≤ most) (out : List ℕ)
      (at-word : (v : A) (n : ℕ) → visits (put (words (v, n)) out) ≡ n) where
    served : (call : Written) → call ≡ given (mapped words (with_visits o)) out
        → (nodes : List ℕ → List ℕ → Left) → ((list out : List ℕ) → 1 ≤ length out → nodes list out ≡ listed_in (into (nodes_entered o) list) out)
        → Served s map table root call (visits call.list) most nodes
    served call e nodes f =
        let is : call ≡ written 0 (put (words (R.value, length R.nodes)) out) = e ∙ ap (λ (x : Answer (A × ℕ)). given (mapped words x) out) R.visits in
        let v : visits call.list ≡ length R.nodes = ap (λ (x : Written). visits x.list) is ∙ at-word R.value (length R.nodes) in
        record {
          answers = ap (λ (x : Written). x.status) is;
          within = omega (arith, v, few);
          lists = λ list out h k. subst (λ (n : ℕ). Lists s map table root n (nodes list out)) (sym v) (lists list out (nodes list out) (omega (arith, v, h)) (f list out k));
        }

-- ---- the calls

module _ (s map : List ℕ) (L : Loads s map) (t : HullTable) (root height : ℕ) (marks : List ℕ) (passed : (tree_check (nodes_of s (map_of map) t) marks root).answer ≡ answer height) where
  abbrev m : BspData
  m = map_of map

  D : Demand3 s m t root height
  D = every_table s m L.loads t marks root height passed

  -- the nodes of the table's number are the table's
  abbrev Same : HullTable → Type 0
  Same t = nodes_in s map (table_word t) ≡ nodes_of s m t

  same : (t : HullTable) → Same t
  same Render = refl
  same Clip = refl
  same Box = refl

  here : {A : Type 0} (o : Outcome A) → Answered (nodes_of s m t) root o → Answered (nodes_in s map (table_word t)) root o
  here o R = subst (λ (N : Nodes End). Answered N root o) (sym (same t)) R

  here_within : {A : Type 0} (o : Outcome A) → AnsweredWithin (nodes_of s m t) root height o → AnsweredWithin (nodes_in s map (table_word t)) root height o
  here_within o R = subst (λ (N : Nodes End). AnsweredWithin N root height o) (sym (same t)) R

  -- a trace enters each node of the tree once at most, and these are no more than the table's
  as_many : (ns : List ℕ) → NoTwice ns → ((n : ℕ) → Memᴰ n ns → InTree (nodes_of s m t) root n) → length ns ≤ (nodes_of s m t).count
  as_many ns o w =
      let a : length ns ≤ length (in_order (nodes_of s m t) root) = no_longer ns (in_order (nodes_of s m t) root) o (λ n k. ((tree_listed (nodes_of s m t) marks root height passed).1 n).1 (w n k)) in
      let b : length (in_order (nodes_of s m t) root) ≤ (nodes_of s m t).count = size_low (nodes_of s m t) marks root height passed in
      omega arith

  as_many_here : {A : Type 0} (o : Outcome A) (R : Answered (nodes_in s map (table_word t)) root o) → length R.nodes ≤ (nodes_in s map (table_word t)).count
  as_many_here o R =
      let q : (nodes_in s map (table_word t)).count ≡ (nodes_of s m t).count = ap (λ (N : Nodes End). N.count) (same t) in
      let k : length R.nodes ≤ (nodes_of s m t).count = as_many R.nodes R.once (λ n k. subst (λ (N : Nodes End). InTree N root n) (same t) (R.in_tree n k)) in
      omega arith

  module _ (hull : List ℕ) (words : hull_asked ≤ length hull) (is-t : hull_table hull ≡ table_word t) (is_root : hull_root hull ≡ root) where
    -- the walk or trace of the hull, from words or from the record
    with_hull : {A : Type 0} (k : BspCollisionHull → Answer A) → then_answer (hull_from hull) k ≡ k (hull_in t hull)
    with_hull k = ap (λ x. then_answer x k) (from_words t hull is-t)

    abbrev T : WalkTable End BspLeafContents
    T = Hull.hull_table s m (hull_in t hull)

    contents_served : (point : List Float) → 3 ≤ length point → (out : List ℕ) → contents_length ≤ length out
        → Served s map (table_word t) root (bsp_contents s map hull point out) (contents_visits (bsp_contents s map hull point out).list) height (bsp_contents_nodes s map hull point)
    unfolding bsp_contents bsp_contents_nodes
    contents_served point h out l =
        let o : Outcome BspLeafContents = point_walk T root (point_at point 0) in
        let W = here_within o (D.contents (vector_at hull 3) (vector_at hull 6) (point_at point 0)) in
        served s map (table_word t) root o W.all contents_words contents_visits height W.within out (λ v n. refl) _
        (long 31 map out _ L.room ∙ long 9 hull out _ words ∙ long 3 point out _ h ∙ long 2 out out _ l
        ∙ ap (λ x. given (mapped contents_words x) out) (with_hull _ ∙ ap (λ r. with_visits (point_walk T r (point_at point 0))) is_root)) _
        (λ list out k.
        long_both 31 map list out _ L.room ∙ long_both 9 hull list out _ words ∙ long_both 3 point list out _ h ∙ long_both 1 out list out _ k
        ∙ ap (λ x. listed_in (into x list) out) (with_hull _ ∙ ap (λ r. nodes_entered (point_walk T r (point_at point 0))) is_root))

    trace_served : (segment : List Float) → 6 ≤ length segment → Floats (point_at segment 0) → Floats (point_at segment 3) → (out : List ℕ) → trace_length ≤ length out
        → Served s map (table_word t) root (bsp_trace s map hull segment out) (trace_visits (bsp_trace s map hull segment out).list) (nodes_in s map (table_word t)).count (bsp_trace_nodes s map hull segment)
    unfolding bsp_trace bsp_trace_nodes
    trace_served segment h F G out l =
        let o : Outcome Trace = Tracing.trace T root (point_at segment 0) (point_at segment 3) in
        let R = here o (D.trace (vector_at hull 3) (vector_at hull 6) (point_at segment 0) (point_at segment 3) (word_floats hull 3) (word_floats hull 6) F G) in
        served s map (table_word t) root o R trace_words trace_visits (nodes_in s map (table_word t)).count (as_many_here o R) out (λ v n. refl) _
        (long 31 map out _ L.room ∙ long 9 hull out _ words ∙ long 6 segment out _ h ∙ long 17 out out _ l
        ∙ ap (λ x. given (mapped trace_words x) out) (with_hull _ ∙ ap (λ r. with_visits (Tracing.trace T r (point_at segment 0) (point_at segment 3))) is_root)) _
        (λ list out k.
        long_both 31 map list out _ L.room ∙ long_both 9 hull list out _ words ∙ long_both 6 segment list out _ h ∙ long_both 1 out list out _ k
        ∙ ap (λ x. listed_in (into x list) out) (with_hull _ ∙ ap (λ r. nodes_entered (Tracing.trace T r (point_at segment 0) (point_at segment 3))) is_root))

  is_render_lem : (t : HullTable) → table_word t ≡ render_table → t ≡ Render
  is_render_lem Render e = refl
  is_render_lem Clip e = absurd (omega (arith, e))
  is_render_lem Box e = absurd (omega (arith, e))

  leaf_served : table_word t ≡ render_table → (point : List Float) → 3 ≤ length point → (out : List ℕ) → leaf_length ≤ length out
      → Served s map (table_word t) root (bsp_find_leaf s map root point out) (leaf_visits (bsp_find_leaf s map root point out).list) height (bsp_find_leaf_nodes s map root point)
  unfolding bsp_find_leaf bsp_find_leaf_nodes
  leaf_served e point h out l =
      let o : Outcome ℕ = point_walk (leaf_table s m) root (point_at point 0) in
      let W = here_within o (D.leaf (is_render_lem t e) (point_at point 0)) in
      served s map (table_word t) root o W.all leaf_words leaf_visits height W.within out (λ v n. refl) _
      (long 31 map out _ L.room ∙ long 3 point out _ h ∙ long 2 out out _ l) _
      (λ list out k. long_both 31 map list out _ L.room ∙ long_both 3 point list out _ h ∙ long_both 1 out list out _ k)

  all_served : Calls s map (table_word t) root height
  all_served = record { contents = contents_served; find_leaf = leaf_served; trace = trace_served }

pub every_call : EveryCall
every_call s lent e table root marks out c =
    let map = map_written s lent in
    let L : Loads s map = load_passed s lent e in
    let C : Checked s map table root (tree_height (bsp_tree_check s map table root marks out).out) = check_passed s map table root marks out c in
    subst (λ (n : ℕ). Calls s map n root (tree_height (bsp_tree_check s map table root marks out).out)) (sym C.is_table)
    (all_served s map L C.t root (tree_height (bsp_tree_check s map table root marks out).out) C.marks C.passed)
