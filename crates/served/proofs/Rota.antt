-- The promise of acceptance about the calls for C (specs/Rota.antt says it): what bsp_accept passed is a map that `accept` passed, of which rota/proofs/Promise.antt
-- says it, and demand 3 at the calls (proofs/EveryCall.antt) does the rest. Assumes nothing.

use Rattle.std.specs.Prelude as Std
use Prim.Native.Nat.{ℕ, zero, suc, ◌-◌, ◌<◌, ◌≤◌}
use mathlib.Core.Path.{◌≡◌, refl, sym, ap, subst, ◌∙◌}
use mathlib.Core.Bool.{Bool, true, false, cond}
use mathlib.Core.List.{List, [], ◌∷◌}
use native.Mathlib.Omega.{arith}
use borrow.Author.Tests.{le-ltb}
use lib.Dec.{ltb}
use lib.Ieee.{Float}
use lib.ListN.{length}
use Rattle.format.specs.Answer.{Answer, answer, refused, mapped, then_answer}
use Rattle.format.specs.Listed.{into}
use Rattle.format.specs.Section.{record_count}
use Rattle.format.specs.declared.section.BspFileSectionId.TheVariants.{Leaves, Models, CollisionNodes}
use Rattle.models.specs.Model.{file_model_at, file_model_of}
use Rattle.models.specs.declared.model.BspFileModel.{BspFileModel}
use Rattle.walk.specs.TreeCheck.{tree_check}
use Rattle.nodes.specs.Tables.{nodes_of}
use Rattle.nodes.specs.declared.table.HullTable.{HullTable}
use Rattle.nodes.specs.declared.table.HullTable.TheVariants.{Render, Clip, Box}
use Rattle.hull.specs.Hull as Hull
use Rattle.hull.specs.Hull.{own_hull}
use Rattle.hull.specs.declared.collision.BspCollisionHull.{BspCollisionHull}
use Rattle.tree.specs.Readable.{Floats}
use Rattle.vis.specs.Pvs.{pvs_of}
use Rattle.vis.proofs.Fits.{at_most, pvs_fits}
use Rattle.loaded.specs.Refusals.{RefusedOnly}
use Rattle.loaded.proofs.Refusals.{answers, refuses, of_record}
use Rattle.accept.specs.Accept.{Check, passes, accept}
use Rattle.accept.proofs.Numbers.{Known, known_accept}
use Rattle.rota.specs.Promise as Promise
use Rattle.rota.specs.Promise.{Queries, Walks}
use Rattle.rota.proofs.Promise as Promised
use Rattle.words.specs.Words.{Written, written, given, put, at_least, Left, listed_in, number_words, map_of}
use Rattle.served.specs.Cited.{bsp_hull, bsp_tree_check, bsp_contents, bsp_find_leaf, bsp_trace, bsp_pvs, bsp_accept, point_at, table_numbered, check_of, hull_from, hull_in, hull_words, table_word, contents_words, leaf_words, trace_words, status_of, judged_in}
use Rattle.served.specs.NamedWords.{hull_table, hull_root, tree_height, render_table}
use Rattle.served.specs.EveryCall.{nodes_in, map_written}
use Rattle.served.specs.Rota.{NotByShape, Roots, Passed, EveryMap, EveryFile}
use Rattle.served.proofs.EveryCall.{Loads, load_passed, Checked, check_passed, every_call}
use Rattle.served.proofs.Statuses.{Some, long, long_both, was_long, was_answered, from_words, word_floats, of_given, at_least_lem, both, of_listed}

-- ---- statuses

zero_fine : NotByShape 0
zero_fine l h = omega arith

short_fine : NotByShape 22
short_fine l h = omega arith

-- a list too short is 22
fine : {A : Type 0} (n : ℕ) (ws : List A) (out : List ℕ) (rest : Written) → NotByShape rest.status → NotByShape (at_least n ws out rest).status
fine n ws out rest f = at_least_lem NotByShape zero_fine short_fine n ws out rest f

-- the numbers that an answer is refused with
not_by : {A : Type 0} (x : Answer A) → Promise.NotByShape A x → RefusedOnly NotByShape x
not_by x f n e l h = f n l h e

then_fine : {A B : Type 0} (x : Answer A) (k : A → Answer B) (v : A) → x ≡ answer v → Promise.NotByShape B (k v) → Promise.NotByShape B (then_answer x k)
then_fine {B = B} x k v e f = subst (λ (y : Answer _). Promise.NotByShape B (then_answer y k)) (sym e) f

-- ---- bsp_accept

-- a status of 0 says that the check passed, since every refusal is 20 or more
status_zero : (c : Check) → Known c → status_of c ≡ 0 → c ≡ passes
status_zero (answer tt) k q = refl
status_zero (refused n) k q = absurd (omega (arith, k.least n refl, q))

accept_passed : (s map marks : List ℕ) → (bsp_accept s map marks).status ≡ 0 → (31 ≤ length map) × ((accept s (map_of map) marks).answered ≡ passes)
unfolding bsp_accept
accept_passed s map marks e =
    let a = was_long 31 map marks (judged_in (accept s (map_of map) marks)) e in
    (a.0, status_zero (accept s (map_of map) marks).answered (known_accept s (map_of map) marks) a.1)

-- ---- bsp_tree_check, from the tree check

numbered : (t : HullTable) → table_numbered (table_word t) ≡ Std.Some t
unfolding table_numbered
numbered Render = refl
numbered Clip = refl
numbered Box = refl

same_nodes : (s map : List ℕ) (t : HullTable) → (nodes_in s map (table_word t)).count ≡ (nodes_of s (map_of map) t).count
same_nodes s map Render = refl
same_nodes s map Clip = refl
same_nodes s map Box = refl

module _ (s map : List ℕ) (room : 31 ≤ length map) where
  check_answers : (t : HullTable) (root : ℕ) (marks out : List ℕ) (height : ℕ) → 1 ≤ length out → (tree_check (nodes_of s (map_of map) t) marks root).answer ≡ answer height
      → (bsp_tree_check s map (table_word t) root marks out).status ≡ 0
  unfolding bsp_tree_check
  check_answers t root marks out height h e =
      ap (λ (l : Left). l.status) (long_both 31 map marks out _ room ∙ long_both 1 out marks out _ h ∙ ap (λ (x : Std.Option HullTable). check_of x s map root marks out) (numbered t))
      ∙ ap (λ (x : Answer ℕ). (given (mapped number_words x) out).status) e

  -- ---- bsp_hull

  hull_refuses : (i j : ℕ) → RefusedOnly Some (Hull.hull s (map_of map) i j)
  unfolding Hull.hull
  hull_refuses i j = by (ltb j 3) (file_model_of s (map_of map) i) (of_record Some (omega arith) Models file_model_at s (map_of map) i (λ l. omega arith))
    where
      own : (j : ℕ) (f : BspFileModel) → RefusedOnly Some (own_hull (record_count CollisionNodes (map_of map).collision_nodes) j f)
      own zero f = answers Some _
      own (suc zero) f = answers Some _
      own (suc (suc zero)) f = answers Some _
      own (suc (suc (suc j))) f = refuses Some 20 (omega arith)

      by : (b : Bool) (x : Answer BspFileModel) → RefusedOnly Some x
          → RefusedOnly Some (cond b (then_answer x (own_hull (record_count CollisionNodes (map_of map).collision_nodes) j)) (refused 20))
      by true (answer f) r = own j f
      by true (refused n) r = refuses Some n (r n refl)
      by false x r = refuses Some 20 (omega arith)

  pub record Given (i j : ℕ) (lent : List ℕ) : Type 0 where
    pub h : BspCollisionHull
    pub is_hull : Hull.hull s (map_of map) i j ≡ answer h
    pub is_table : hull_table (bsp_hull s map i j lent).list ≡ table_word h.table
    pub is_root : hull_root (bsp_hull s map i j lent).list ≡ h.node_id

  hull_given : (i j : ℕ) (lent : List ℕ) → (bsp_hull s map i j lent).status ≡ 0 → Given i j lent
  unfolding bsp_hull
  hull_given i j lent e =
      let a = was_long 31 map lent (at_least 11 lent lent (given (mapped hull_words (Hull.hull s (map_of map) i j)) lent)) e in
      let b = was_long 11 lent lent (given (mapped hull_words (Hull.hull s (map_of map) i j)) lent) a.1 in
      let w = was_answered hull_words (Hull.hull s (map_of map) i j) lent (hull_refuses i j) b.1 in
      let is : bsp_hull s map i j lent ≡ written 0 (put (hull_words w.0) lent) =
      long 31 map lent _ a.0 ∙ long 11 lent lent _ b.0 ∙ ap (λ (x : Answer BspCollisionHull). given (mapped hull_words x) lent) w.1 in
      record {
        h = w.0;
        is_hull = w.1;
        is_table = ap (λ (x : Written). hull_table x.list) is;
        is_root = ap (λ (x : Written). hull_root x.list) is;
      }

-- ---- the calls on a map that passed

module _ (s map : List ℕ) (room : 31 ≤ length map) (Q : Queries Promise.NotByShape s (map_of map)) where
  roots_pass : ((marks : List ℕ) → (nodes_of s (map_of map) Render).count ≤ length marks → (height : ℕ) × ((tree_check (nodes_of s (map_of map) Render) marks 0).answer ≡ answer height)) → Roots s map
  roots_pass zeroth = record {
    hulls = λ i j lent e marks l out k.
        let G = hull_given s map room i j lent e in
        let c = Q.hull_checks i j G.h G.is_hull marks (subst (λ (n : ℕ). n ≤ length marks) (ap (λ (w : ℕ). (nodes_in s map w).count) G.is_table ∙ same_nodes s map G.h.table) l) in
        ap (λ (w : ℕ). (bsp_tree_check s map w (hull_root (bsp_hull s map i j lent).list) marks out).status) G.is_table
        ∙ ap (λ (r : ℕ). (bsp_tree_check s map (table_word G.h.table) r marks out).status) G.is_root
        ∙ check_answers s map room G.h.table G.h.node_id marks out c.0 k c.1;
    node_0 = λ marks l out k. let c = zeroth marks l in check_answers s map room Render 0 marks out c.0 k c.1;
  }

  module _ (table root : ℕ) (marks height : List ℕ) (passed : Passed s map table root marks height) where
    C : Checked s map table root (tree_height (bsp_tree_check s map table root marks height).out)
    C = check_passed s map table root marks height passed

    module _ (hull : List ℕ) (is_table : hull_table hull ≡ table) (is_root : hull_root hull ≡ root) where
      abbrev h : BspCollisionHull
      h = hull_in C.t hull

      walks : Walks Promise.NotByShape s (map_of map) h
      walks =
          Q.checked_walks h C.marks (tree_height (bsp_tree_check s map table root marks height).out)
          (ap (λ (r : ℕ). (tree_check (nodes_of s (map_of map) C.t) C.marks r).answer) is_root ∙ C.passed)

      from : hull_from hull ≡ answer h
      from = from_words C.t hull (is_table ∙ C.is_table)

      contents_fine : (point : List Float) (out : List ℕ) → NotByShape (bsp_contents s map hull point out).status
      unfolding bsp_contents
      contents_fine point out =
          fine 31 map out _ (fine 9 hull out _ (fine 3 point out _ (fine 2 out out _
          (of_given NotByShape zero_fine contents_words _ out (not_by _ (then_fine (hull_from hull) _ h from (walks.contents (point_at point 0))))))))

      trace_fine : (segment : List Float) → Floats (point_at segment 0) → Floats (point_at segment 3) → (out : List ℕ) → NotByShape (bsp_trace s map hull segment out).status
      unfolding bsp_trace
      trace_fine segment F G out =
          fine 31 map out _ (fine 9 hull out _ (fine 6 segment out _ (fine 17 out out _
          (of_given NotByShape zero_fine trace_words _ out
          (not_by _ (then_fine (hull_from hull) _ h from (walks.trace (word_floats hull 3) (word_floats hull 6) (point_at segment 0) (point_at segment 3) F G)))))))

  leaf_fine : (root : ℕ) (marks height : List ℕ) → Passed s map render_table root marks height → (point : List Float) (out : List ℕ) → NotByShape (bsp_find_leaf s map root point out).status
  unfolding bsp_find_leaf
  leaf_fine root marks height passed point out =
      let c = C render_table root marks height passed in
      fine 31 map out _ (fine 3 point out _ (fine 2 out out _
      (of_given NotByShape zero_fine leaf_words _ out (not_by _ ((walks render_table root marks height passed (0 ∷ root ∷ []) refl refl).leaf (render c.t c.is_table) (point_at point 0))))))
    where
      render : (t : HullTable) → render_table ≡ table_word t → t ≡ Render
      render Render e = refl
      render Clip e = absurd (omega (arith, e))
      render Box e = absurd (omega (arith, e))

  pvs_fine : (leaf count : ℕ) → leaf < record_count Leaves (map_of map).leaves → count ≤ record_count Leaves (map_of map).leaves
      → (list out : List ℕ) → NotByShape (bsp_pvs s map leaf count list out).status
  unfolding bsp_pvs
  pvs_fine leaf count h l list out = both NotByShape zero_fine short_fine 31 map list out _ (both NotByShape zero_fine short_fine 1 out list out _ (of_listed NotByShape zero_fine short_fine (pvs_of s (map_of map) leaf count) list out (not_by _ (Q.visibility leaf count h l))))

-- ---- visibility, answered

pvs_answers : (s map : List ℕ) → 31 ≤ length map → (leaf count : ℕ) (l : List ℕ) → pvs_of s (map_of map) leaf count ≡ answer l
    → (list : List ℕ) → count ≤ length list → (out : List ℕ) → 1 ≤ length out → (bsp_pvs s map leaf count list out).status ≡ 0
unfolding bsp_pvs
pvs_answers s map room leaf count l e list few out k =
    let a : length l ≤ count - 1 = subst (at_most (count - 1)) e (pvs_fits s (map_of map) leaf count) in
    ap (λ (x : Left). x.status) (long_both 31 map list out _ room ∙ long_both 1 out list out _ k)
    ∙ ap (λ (x : Answer (List ℕ)). (listed_in (into x list) out).status) e
    ∙ simp (le-ltb (length list) (length l) (omega arith))

pub every_map : EveryMap
every_map s map marks e =
    let a = accept_passed s map marks e in
    let Q = Promised.every_map s (map_of map) marks a.1 in
    record {
      roots = roots_pass s map a.0 Q (Promised.node_0_checks s (map_of map) marks a.1);
      contents = contents_fine s map a.0 Q;
      find_leaf = leaf_fine s map a.0 Q;
      trace = trace_fine s map a.0 Q;
      visibility = pvs_fine s map a.0 Q;
    }

pub every_file : EveryFile
every_file s lent marks loaded e =
    let map = map_written s lent in
    let L : Loads s map = load_passed s lent loaded in
    let a = accept_passed s map marks e in
    let Q = Promised.every_file s (map_of map) marks L.loads a.1 in
    record {
      roots = (every_map s map marks e).roots;
      calls = λ table root marks height c. every_call s lent loaded table root marks height c;
      visibility = λ leaf count h l list few out k. let w = Q.visibility leaf count h l in pvs_answers s map L.room leaf count w.0 w.1 list few out k;
    }
