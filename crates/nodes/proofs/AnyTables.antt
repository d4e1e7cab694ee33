-- A walk by numbers alone says what the walk over any table says that is whole and has these numbers.
-- Assumes nothing.
use Rattle.std.proofs.Common.{◌≡◌, ℕ, zero, suc, ◌+◌, ◌*◌, ◌<◌, Bool, true, false, cond, ltb, List, length, sym, refl, ap, ◌∙◌, arith, ltb-true, ne_eqb}
use Rattle.format.specs.Answer as Ans
use Rattle.format.specs.Answer.{Answer, answer, mapped}
use Rattle.math.specs.Plane as Pl
use Rattle.math.specs.declared.vector.Vector3.{Vector3}
use Rattle.walk.specs.Table.{Child, node, end, Table, child_on}
use Rattle.walk.specs.Walk.{Outcome, refused, Entered, entered, with_visits, ended, enter, meet, onto, walk, walk_at, point_walk}
use Rattle.nodes.specs.Tables.{End, file_table}
use Rattle.nodes.specs.Fast.{is_render, node_size, table}
use Rattle.nodes.specs.Walks.{are_whole, ends, made_at}
use Rattle.nodes.specs.Quick.{end_and_visits, or_nothing, quick_answer, quick_in, quick_walk, tables_by}
use Rattle.nodes.specs.declared.table.HullTable.{HullTable}
use Rattle.nodes.specs.declared.table.Tables.{Tables}
use Rattle.nodes.proofs.Making.{made_is}
use Rattle.nodes.proofs.Quicks.{is_render_of}
use Rattle.nodes.proofs.Readers.{in_file}
use Rattle.nodes.proofs.Wholes.{all_whole}

-- ---- tables of as many nodes, which are entered alike and have the same ends

module _ {E : Type 0} (S T : Table E E) (counts : S.nodes.count ≡ T.nodes.count) (enters : (i : ℕ) → i < T.nodes.count → enter S i ≡ enter T i) (meets : (e : E) → meet S e ≡ meet T e) (p : Vector3) where
  onto_same : (go on : ℕ → Outcome E) → ((n : ℕ) → go n ≡ on n) → (c : Child E) → onto S go (λ a. a) c ≡ onto T on (λ a. a) c
  onto_same go on h (node n) = h n
  onto_same go on h (end e) = ap (λ (x : Answer E). ended T (λ a. a) x) (meets e)

  at_same : (k : ℕ) → ((n : ℕ) → walk S k n p ≡ walk T k n p) → (i : ℕ) (x : Answer (Entered E)) → walk_at S (λ n. walk S k n p) i p x ≡ walk_at T (λ n. walk T k n p) i p x
  at_same k h i (answer m) = ap (entered i) (onto_same (λ n. walk S k n p) (λ n. walk T k n p) h (child_on m.nd (Pl.point_side m.plane p)))
  at_same k h i (Ans.refused n) = refl

  step_same : (k : ℕ) → ((n : ℕ) → walk S k n p ≡ walk T k n p) → (i : ℕ) (b : Bool) → ltb i T.nodes.count ≡ b
      → cond b (walk_at S (λ n. walk S k n p) i p (enter S i)) (refused 30) ≡ cond b (walk_at T (λ n. walk T k n p) i p (enter T i)) (refused 30)
  step_same k h i true e =
      ap (walk_at S (λ n. walk S k n p) i p) (enters i (ltb-true i T.nodes.count e)) ∙ at_same k h i (enter T i)
  step_same k h i false e = refl

  pub same_walk : (k i : ℕ) → walk S k i p ≡ walk T k i p
  unfolding walk
  same_walk zero i = ap (λ (c : ℕ). cond (ltb i c) (refused 31) (refused 30)) counts
  same_walk (suc k) i =
      ap (λ (c : ℕ). cond (ltb i c) (walk_at S (λ n. walk S k n p) i p (enter S i)) (refused 30)) counts
      ∙ step_same k (same_walk k) i (ltb i T.nodes.count) refl

-- ---- what a walk by numbers says, where it says something

pub is_said : (tab : HullTable) (r : ℕ) → (r ≡ 0 → ⊥) → quick_answer tab r ≡ end_and_visits tab r
is_said tab r some = rw (ne_eqb r 0 some)

-- what was said was answered
answered : {A : Type 0} (x : Answer A) (b : Bool) (a : A) → answer a ≡ cond b (or_nothing x) (Ans.refused 0) → answer a ≡ x
answered (answer y) true a e = e
answered (Ans.refused n) true a e = let z : ◌≡◌ {A = ℕ} 0 1 = cc in absurd (omega arith)
answered x false a e = let z : ◌≡◌ {A = ℕ} 0 1 = cc in absurd (omega arith)

whole_if : {A : Type 0} (b : Bool) (x : Answer A) (a : A) → answer a ≡ cond b x (Ans.refused 0) → b ≡ true
whole_if true x a e = refl
whole_if false x a e = let z : ◌≡◌ {A = ℕ} 0 1 = cc in absurd (omega arith)

module _ (s : List ℕ) (tab : HullTable) (root : ℕ) (p : Vector3) (r : ℕ) (some : r ≡ 0 → ⊥) (t : Tables) (e : quick_answer tab r ≡ quick_walk s t root p) where
  pub by_numbers : end_and_visits tab r ≡ with_visits (point_walk (ends (table s t)) root p)
  unfolding quick_walk
  by_numbers = answered (with_visits (point_walk (ends (table s t)) root p)) (are_whole t (length s)) _ (sym (is_said tab r some) ∙ e)

  whole_then : are_whole t (length s) ≡ true
  unfolding quick_walk
  whole_then = whole_if (are_whole t (length s)) (quick_in s t root p) _ (sym (is_said tab r some) ∙ e)

-- ---- the tables of a table's own numbers

as_it_is : {A : Type 0} (x : Answer A) → mapped (λ a. a) x ≡ x
as_it_is (answer a) = refl
as_it_is (Ans.refused n) = refl

module _ (s : List ℕ) (t : Tables) (whole : are_whole t (length s) ≡ true) (root : ℕ) (p : Vector3) where
  abbrev k : Bool
  k = is_render t.table

  abbrev u : Tables
  u = tables_by k t.nodes.at t.nodes.count t.planes.at t.planes.count

  module _ (whole-u : are_whole u (length s) ≡ true) where
    enter_same : (i : ℕ) → i < t.nodes.count → enter (table s u) i ≡ enter (table s t) i
    enter_same i l =
        sym (as_it_is (enter (table s u) i))
        ∙ sym (made_is s u whole-u i l (λ m. m))
        ∙ ap (λ (b : Bool). made_at (λ m. m) b s (t.nodes.at + i * node_size b) t.planes.at t.planes.count) (is_render_of k)
        ∙ made_is s t whole i l (λ m. m)
        ∙ as_it_is (enter (table s t) i)

    ends_same : (i : ℕ) → i < t.nodes.count → enter (ends (table s u)) i ≡ enter (ends (table s t)) i
    unfolding enter
    ends_same i l = enter_same i l

    meets_same : (e : End) → meet (ends (table s u)) e ≡ meet (ends (table s t)) e
    unfolding meet
    meets_same e = refl

    walks_same : point_walk (ends (table s u)) root p ≡ point_walk (ends (table s t)) root p
    walks_same = same_walk (ends (table s u)) (ends (table s t)) refl ends_same meets_same p t.nodes.count root

  -- what the walk by numbers says is so of the table itself
  pub quick_of_any : (r : ℕ) → (r ≡ 0 → ⊥) → quick_answer (file_table k) r ≡ quick_walk s u root p → end_and_visits t.table r ≡ with_visits (point_walk (ends (table s t)) root p)
  quick_of_any r some e =
      ap (λ (x : HullTable). end_and_visits x r) (sym (in_file t.table (all_whole t (length s) whole).0))
      ∙ by_numbers s (file_table k) root p r some u e
      ∙ ap with_visits (walks_same (whole_then s (file_table k) root p r some u e))
