-- Each way through a step of the walk to an end, by the child that the point goes on to.
-- Assumes nothing.
use Rattle.std.proofs.Common.{Ok, Err}
use Rattle.std.specs.Prelude.{Result}
use Rattle.std.proofs.Common.{◌≡◌, ℕ, suc, ◌+◌, ◌-◌, ◌^◌, ◌<◌, ◌≤◌, List, sym, refl, ap, ◌∙◌, arith, le-ltb, lt-ltb}
use native.Mathlib.Nat.{sub-zero}
use Rattle.format.proofs.Answers.{mapped_answer, mapped_refused}
use Rattle.format.specs.Answer as Ans
use Rattle.format.specs.Answer.{answer}
use Rattle.format.specs.Refusal.{number_of}
use Rattle.format.specs.declared.refusal.Refusal.{Refusal}
use Rattle.math.specs.declared.vector.Vector3.{Vector3}
use Rattle.walk.specs.Table.{node, end, Table}
use Rattle.walk.specs.Walk.{held, with_visits, Entered, enter, meet, walk}
use Rattle.walk.specs.Private.{after}
use Rattle.walk.proofs.Steps.{after_none, walk_unread, walk_node, walk_end}
use Rattle.nodes.specs.Tables.{End}
use Rattle.nodes.specs.Fast.{child_of, end_of, table}
use Rattle.nodes.specs.Walks.{ends, made_from, child_toward, onward_answer}
use Rattle.nodes.specs.declared.table.HullTable.{HullTable}
use Rattle.nodes.specs.declared.table.Tables.{Tables}

-- the child of a word, by its half
below : (tab : HullTable) (w : ℕ) → w < 32768 → child_of tab w ≡ node w
below tab w h = simp (lt-ltb w 32768 h)

above : (tab : HullTable) (w : ℕ) → 32768 ≤ w → child_of tab w ≡ end (end_of tab w)
above tab w h = simp (le-ltb w 32768 h)

module _ (s : List ℕ) (t : Tables) (p : Vector3) (v k j i : ℕ) (more : k ≡ suc j) (h : i < t.nodes.count) (r : Result ℕ Refusal) (is-r : onward_answer t.table r ≡ made_from (child_toward p) s t i) where
  abbrev T : Table End End
  T = ends (table s t)

  same_enter : enter T i ≡ enter (table s t) i
  unfolding enter
  same_enter = refl

  pub step_refused : (x : Refusal) → r ≡ Err x → after v (walk T k i p) ≡ Ans.refused (number_of x)
  step_refused x q =
      ap (after v) (walk_unread T p k j i more h (number_of x) (same_enter ∙ mapped_refused (child_toward p) (enter (table s t) i) (number_of x) (sym is-r ∙ ap (onward_answer t.table) q)))

  module _ (w : ℕ) (q : r ≡ Ok w) where
    met : (m : Entered End) × (enter (table s t) i ≡ answer m) × (child_toward p m ≡ child_of t.table w)
    met = mapped_answer (child_toward p) (enter (table s t) i) (child_of t.table w) (sym is-r ∙ ap (onward_answer t.table) q)

    pub step_node : w < 32768 → after v (walk T k i p) ≡ after (v + 1) (walk T j w p)
    step_node l =
        walk_node T p k j i more h met.0.nd met.0.plane (same_enter ∙ met.1) v w (met.2 ∙ below t.table w l)

    pub step_end : (n : ℕ) → 32768 ≤ w → v < n → n < 2 ^ 64 → after v (walk T k i p) ≡ answer (end_of t.table w, v + 1)
    unfolding meet
    step_end n l f g =
        walk_end T p k j i more h met.0.nd met.0.plane (same_enter ∙ met.1) v (end_of t.table w) (met.2 ∙ above t.table w l) (end_of t.table w) refl
        ∙ ap (λ (m : ℕ). answer (end_of t.table w, m)) {x = held (v + 1)} {y = v + 1} (omega arith)

pub at_first : {A : Type 0} (T : Table End A) (p : Vector3) (n root : ℕ) → with_visits (walk T n root p) ≡ after 0 (walk T (n - 0) root p)
at_first T p n root = rw sub-zero (after_none (walk T n root p))
