-- A walk is the walk to its end, and then the end is met.
-- Assumes nothing.
use Prim.Native.Nat.{ℕ, zero, suc}
use mathlib.Core.Path.{◌≡◌, refl, sym, ap, ◌∙◌}
use mathlib.Core.Bool.{Bool, true, false, cond}
use mathlib.Core.List.{List, [], ◌∷◌}
use native.Mathlib.Omega.{arith}
use lib.Dec.{ltb}
use lib.ListN.{length}
use Rattle.format.specs.Answer as Ans
use Rattle.format.specs.Answer.{Answer, answer}
use Rattle.math.specs.Plane as Pl
use Rattle.math.specs.declared.vector.Vector3.{Vector3}
use Rattle.walk.specs.Table.{Child, node, end, Table, child_on}
use Rattle.walk.specs.Walk.{Outcome, done, refused, entered, held, with_visits, Entered, enter, meet, ended, onto, walk_at, walk, point_walk}
use Rattle.nodes.specs.Walks.{ends}

-- what was met, with the nodes entered
abbrev pub met_with : {A : Type 0} → List ℕ → Answer A → Outcome A
met_with ns (answer a) = done a ns
met_with ns (Ans.refused n) = refused n

abbrev pub then_meet : {E A : Type 0} → Table E A → Outcome E → Outcome A
then_meet T (done e ns) = met_with ns (meet T e)
then_meet T (refused n) = refused n

module _ {E A : Type 0} (T : Table E A) (p : Vector3) where
  one_more : (i : ℕ) (ns : List ℕ) (a : Answer A) → entered i (met_with ns a) ≡ met_with (i ∷ ns) a
  one_more i ns (answer a) = refl
  one_more i ns (Ans.refused n) = refl

  entered_then : (i : ℕ) (o : Outcome E) → entered i (then_meet T o) ≡ then_meet T (entered i o)
  entered_then i (done e ns) = one_more i ns (meet T e)
  entered_then i (refused n) = refl

  an_end : (i : ℕ) (a : Answer A) → entered i (ended T (λ x. x) a) ≡ met_with (i ∷ []) a
  an_end i (answer a) = refl
  an_end i (Ans.refused n) = refl

  module _ (go : ℕ → Outcome A) (go' : ℕ → Outcome E) (same : (n : ℕ) → go n ≡ then_meet T (go' n)) (i : ℕ) where
    at_child : (c : Child E) → entered i (onto T go (λ x. x) c) ≡ then_meet T (entered i (onto (ends T) go' (λ x. x) c))
    unfolding meet
    at_child (node n) = ap (entered i) (same n) ∙ entered_then i (go' n)
    at_child (end e) = an_end i (meet T e)

    at_node_lem : (m : Answer (Entered E)) → walk_at T go i p m ≡ then_meet T (walk_at (ends T) go' i p m)
    at_node_lem (answer m) = at_child (child_on m.nd (Pl.point_side m.plane p))
    at_node_lem (Ans.refused n) = refl

  by_index : (b : Bool) (x : Outcome A) (y : Outcome E) → x ≡ then_meet T y → cond b x (refused 30) ≡ then_meet T (cond b y (refused 30))
  by_index true x y e = e
  by_index false x y e = refl

  pub walk_meets : (k i : ℕ) → walk T k i p ≡ then_meet T (walk (ends T) k i p)
  unfolding walk enter
  walk_meets zero i = by_index (ltb i T.nodes.count) (refused 31) (refused 31) refl
  walk_meets (suc k) i =
      by_index (ltb i T.nodes.count) (walk_at T (λ n. walk T k n p) i p (enter T i)) (walk_at (ends T) (λ n. walk (ends T) k n p) i p (enter (ends T) i))
      (at_node_lem (λ n. walk T k n p) (λ n. walk (ends T) k n p) (λ n. walk_meets k n) i (enter T i))

  -- ---- the answer, from the answer of the walk to the end

  met_answer_lem : (o : Outcome E) (e : E) (v : ℕ) (a : A) → answer (e, v) ≡ with_visits o → meet T e ≡ answer a → answer (a, v) ≡ with_visits (then_meet T o)
  met_answer_lem (done x ns) e v a q m =
      let d : ◌≡◌ {A = E × ℕ} (x, held (length ns)) (e, v) = cc in
      rw (ap (λ (y : E × ℕ). y.0) d, m) (ap (λ (n : ℕ). answer (a, n)) (sym (ap (λ (y : E × ℕ). y.1) d)))
  met_answer_lem (refused n) e v a q m = let z : ◌≡◌ {A = ℕ} 0 1 = cc in absurd (omega arith)

  met_refused_lem : (o : Outcome E) (e : E) (v n : ℕ) → answer (e, v) ≡ with_visits o → meet T e ≡ Ans.refused n → Ans.refused n ≡ with_visits (then_meet T o)
  met_refused_lem (done x ns) e v n q m =
      let d : ◌≡◌ {A = E × ℕ} (x, held (length ns)) (e, v) = cc in
      rw (ap (λ (y : E × ℕ). y.0) d, m)
  met_refused_lem (refused k) e v n q m = let z : ◌≡◌ {A = ℕ} 0 1 = cc in absurd (omega arith)

  walk_refused : (o : Outcome E) (n : ℕ) → Ans.refused n ≡ with_visits o → Ans.refused n ≡ with_visits (then_meet T o)
  walk_refused (done x ns) n q = let z : ◌≡◌ {A = ℕ} 0 1 = cc in absurd (omega arith)
  walk_refused (refused k) n q = let z : n ≡ k = cc in rw z

  module _ (root : ℕ) where
    whole : with_visits (then_meet T (point_walk (ends T) root p)) ≡ with_visits (point_walk T root p)
    whole = ap with_visits (sym (walk_meets T.nodes.count root))

    pub point_refused : (n : ℕ) → Ans.refused n ≡ with_visits (point_walk (ends T) root p) → Ans.refused n ≡ with_visits (point_walk T root p)
    point_refused n q = walk_refused (point_walk (ends T) root p) n q ∙ whole

    pub point_met : (e : E) (v : ℕ) (a : A) → answer (e, v) ≡ with_visits (point_walk (ends T) root p) → meet T e ≡ answer a → answer (a, v) ≡ with_visits (point_walk T root p)
    point_met e v a q m = met_answer_lem (point_walk (ends T) root p) e v a q m ∙ whole

    pub point_unmet : (e : E) (v n : ℕ) → answer (e, v) ≡ with_visits (point_walk (ends T) root p) → meet T e ≡ Ans.refused n → Ans.refused n ≡ with_visits (point_walk T root p)
    point_unmet e v n q m = met_refused_lem (point_walk (ends T) root p) e v n q m ∙ whole
