-- The ways through acceptance's code, over plain values: a range, the leaves of the models before a model, the roots that are remembered, and the marks.
-- Assumes nothing.
use Prim.Native.Nat.{ℕ, zero, suc, ◌+◌, ◌<◌, ◌≤◌, ◌^◌}
use mathlib.Core.Path.{◌≡◌, refl, sym, ap, subst, ◌∙◌}
use mathlib.Core.List.{List, ◌++◌}
use native.Mathlib.Decide.{ℕ_discrete}
use native.Mathlib.Omega.{arith}
use borrow.Author.Tests.{lt-ltb, le-ltb}
use lib.ListN.{length, get_or, set, drop, replicate, length-replicate}
use lib.Seq.{get_or-set_other}
use Rattle.format.specs.Answer.{Answer, answer, refused, mapped}
use Rattle.format.specs.Section.{record_count}
use Rattle.format.specs.declared.section.BspData.{BspData}
use Rattle.format.specs.declared.section.BspFileSectionId.TheVariants.{RenderNodes, CollisionNodes, Leaves}
use Rattle.models.specs.Model.{file_model_of, leaf_id_of, with_rest, model_of}
use Rattle.models.specs.declared.model.BspFileModel.{BspFileModel}
use Rattle.models.specs.declared.model.LeafRange.{LeafRange}
use Rattle.models.proofs.Models.{no_wrap}
use Rattle.walk.specs.TreeCheck.{Checked, checked, tree_check}
use Rattle.walk.proofs.Check.{answer_is}
use Rattle.nodes.specs.Tables.{nodes_of}
use Rattle.nodes.specs.declared.table.HullTable.{HullTable}
use Rattle.accept.specs.Accept.{Check, passes, inside, within, model_leaves, tree_from, marks_for, accept_of, accept, judged, Judged}
use Rattle.accept.specs.Fast.{Remembered}
use Rattle.accept.proofs.Checks as Checks

-- ---- the leaves of a model, where those of the models before it are added up

module _ (s : List ℕ) (m : BspData) (i first : ℕ) (own : BspFileModel) (before : leaf_id_of s m i ≡ answer first) (read : file_model_of s m i ≡ answer own) where
  made : model_of s m i ≡ answer (with_rest (record_count CollisionNodes m.collision_nodes) first own)
  unfolding model_of
  made = rw (read, before)

  pub last_leaf : {a : Check} {n : ℕ} → n ≡ record_count Leaves m.leaves → a ≡ inside (first + own.leaf_count) n → a ≡ model_leaves s m i
  unfolding model_leaves
  last_leaf q e = rw made (e ∙ ap (inside (first + own.leaf_count)) q ∙ sym (ap (λ (r : LeafRange). inside r.last (record_count Leaves m.leaves)) (no_wrap s m i _ made)))

pub no_model : (s : List ℕ) (m : BspData) (i n : ℕ) → file_model_of s m i ≡ refused n → model_leaves s m i ≡ refused n
unfolding model_leaves model_of
no_model s m i n e = rw e

-- the range lies in a table, so its end is small
pub end_small : (first count n : ℕ) → passes ≡ within first count n → n < 2 ^ 32 → first + count < 2 ^ 63
end_small first count n e h = let l : first + count ≤ n = Checks.within_only first count n (sym e) in omega arith

-- the last leaf is one, so the sum is small
pub sum_small : (last n : ℕ) → passes ≡ inside last n → n < 2 ^ 32 → last < 2 ^ 32
sum_small last n e h = let l : last < n = Checks.inside_only last n (sym e) in omega arith

-- ---- roots that are remembered

zeros_there : (n i : ℕ) → get_or {A = ℕ} (replicate n 0) i 0 ≡ 0
zeros_there zero i = refl
zeros_there (suc n) zero = refl
zeros_there (suc n) (suc i) = zeros_there n i

module _ (s : List ℕ) (m : BspData) (table : HullTable) where
  -- zeros remember none
  pub none_yet : (n : ℕ) → Remembered s m table (replicate n 0)
  none_yet n root f = absurd (f (zeros_there n root))

  -- a root that passed is remembered with the others
  pub one_more : (bytes : List ℕ) (root : ℕ) → tree_from s m table root ≡ passes → Remembered s m table bytes → Remembered s m table (set bytes root 1)
  one_more bytes root e known k f = by (ℕ_discrete k root)
    where
      by : Dec (k ≡ root) → tree_from s m table k ≡ passes
      by (yes q) = rw q e
      by (no d) = known k (λ z. f (get_or-set_other bytes root k 1 0 d ∙ z))

-- ---- trees and marks

module _ (m : BspData) {n : ℕ} (e : n ≡ marks_for m) where
  pub render_fits : record_count RenderNodes m.render_nodes ≤ n
  unfolding marks_for
  render_fits = omega (arith, e)

  pub clip_fits : record_count CollisionNodes m.collision_nodes ≤ n
  unfolding marks_for
  clip_fits = omega (arith, e)

module _ (s : List ℕ) (m : BspData) (table : HullTable) (root : ℕ) (ms l : List ℕ) (few : (nodes_of s m table).count ≤ length ms) where
  -- what the check answers does not depend on what the marks hold
  pub whatever_marks : (a : Answer ℕ) → checked a l ≡ tree_check (nodes_of s m table) ms root → mapped (λ h. tt) a ≡ tree_from s m table root
  unfolding tree_from
  whatever_marks a e =
      let k : length {A = ℕ} (replicate (nodes_of s m table).count 0) ≡ (nodes_of s m table).count = length-replicate (nodes_of s m table).count 0 in
      ap (λ (c : Checked). mapped (λ h. tt) c.answer) e
      ∙ ap (mapped (λ h. tt)) (answer_is (nodes_of s m table) ms root few ∙ sym (answer_is (nodes_of s m table) (replicate (nodes_of s m table).count 0) root (omega arith)))

pub both : {a b : Check} {l k : List ℕ} → a ≡ b → l ≡ k → judged a l ≡ judged b k
both e f = rw (e, f)

module _ (s : List ℕ) (m : BspData) (ms : List ℕ) (n : ℕ) (is : n ≡ marks_for m) where
  pub too_few : length ms < n → judged (refused 22) ms ≡ accept s m ms
  unfolding accept
  too_few h = let k : length ms < marks_for m = subst (λ (j : ℕ). length ms < j) is h in rw (lt-ltb (length ms) (marks_for m) k)

  pub enough : n ≤ length ms → (a : Check) (l : List ℕ) → judged a l ≡ judged (accept_of s m) (replicate (marks_for m) 0) → judged a (l ++ drop n ms) ≡ accept s m ms
  unfolding accept
  enough h a l e =
      let k : marks_for m ≤ length ms = subst (λ (j : ℕ). j ≤ length ms) is h in
      rw (le-ltb (length ms) (marks_for m) k)
      (both (ap (λ (j : Judged). j.answered) e) (ap (λ (j : Judged). j.marks ++ drop n ms) e ∙ ap (λ (j : ℕ). replicate (marks_for m) 0 ++ drop j ms) is))
