-- What the reader of a node says of it, as it is entered; and the child that a word stands for. Assumes nothing.
use Rattle.std.specs.Prelude.{Ok, Err}
use Prim.Native.Nat.{ℕ, ◌<◌, ◌≤◌}
use mathlib.Core.Path.{◌≡◌, refl, sym, ap, ◌∙◌}
use mathlib.Core.Bool.{Bool, true, false, cond}
use native.Mathlib.Omega.{arith}
use borrow.Author.Tests.{lt-ltb, ne_eqb, ltb-true, ltb-false, eqb-true, eqb-false}
use lib.Dec.{ltb, eqb}
use mathlib.Core.List.{List}
use lib.Ieee as Ieee
use lib.Ieee.{Float}
use Rattle.format.proofs.Answers.{mapped_answer, mapped_refused}
use Rattle.format.specs.Answer as Ans
use Rattle.format.specs.Answer.{Answer, answer, mapped}
use Rattle.format.specs.Refusal.{number_of}
use Rattle.format.specs.declared.refusal.Refusal.{Refusal}
use Rattle.math.specs.Plane as Pl
use Rattle.math.specs.declared.vector.Vector3.{Vector3}
use Rattle.math.specs.declared.plane.Hyperplane.{Hyperplane}
use Rattle.math.specs.Vector.{zero32}
use Rattle.walk.specs.Table.{Node, child_on}
use Rattle.walk.specs.Walk.{Entered, enter}
use Rattle.nodes.specs.Tables.{End}
use Rattle.nodes.specs.Fast.{node_of, child_of, word_on, plane_in}
use Rattle.nodes.specs.Fast as Fast
use Rattle.nodes.specs.declared.table.Tables.{Tables}
use Rattle.nodes.specs.declared.read.Words.{Words as WordsT}
use Rattle.nodes.specs.Walks.{made_from, child_by_distance, node_and_dists}
use Rattle.nodes.proofs.Entering.{planed, child_is, enter_not, enter_is, enter_no_plane}
use Rattle.line.specs.Private.{node_for}

-- ---- the child on a point's side, by what the readers say of a node

module _ (f : List ℕ) (t : Tables) (i : ℕ) (p : Vector3) where
  pub no_node : (x : Refusal) → Ans.refused (number_of x) ≡ Fast.node_at f t i → Ans.refused (number_of x) ≡ made_from (child_by_distance p) f t i
  no_node x e = sym (ap (mapped (child_by_distance p)) (enter_not f t (Fast.table f t) refl refl refl i (Err x) e x refl))

  module _ (w : WordsT) (is-w : answer (node_of t.table w) ≡ Fast.node_at f t i) where
    pub no_side : (x : Refusal) → Ans.refused (number_of x) ≡ plane_in f t w.plane → Ans.refused (number_of x) ≡ made_from (child_by_distance p) f t i
    no_side x e = sym (ap (mapped (child_by_distance p)) (enter_no_plane f t (Fast.table f t) refl refl refl i (Ok w) is-w w refl (number_of x) (sym e)))

    pub one_side : (h : Hyperplane) → answer h ≡ plane_in f t w.plane → (d : Float) → d ≡ Pl.point_dist h p → (word : ℕ) → word ≡ word_on w (Ieee.le zero32 d) → answer (child_of t.table word) ≡ made_from (child_by_distance p) f t i
    one_side h e d is-d word is_word =
        ap (λ (n : ℕ). answer (child_of t.table n)) is_word ∙ ap answer (sym (child_is t.table w (Ieee.le zero32 d)))
        ∙ ap (λ (x : Float). answer (child_on (node_of t.table w) (Pl.from_dist x))) is-d
        ∙ sym (ap (mapped (child_by_distance p)) (enter_is f t (Fast.table f t) refl refl refl i (Ok w) is-w w refl h (sym e)))

-- the same point
pub same_point : (f : List ℕ) (t : Tables) (i : ℕ) (p x : Vector3) → x ≡ p → made_from (child_by_distance x) f t i ≡ made_from (child_by_distance p) f t i
same_point f t i p x d = rw d

-- ---- with the calls left

-- a node's refusal, in order
pub data Closed (f : List ℕ) (t : Tables) (i k n : ℕ) : Type 0 where
  outside : t.nodes.count ≤ i → n ≡ 30 → Closed f t i k n
  spent : i < t.nodes.count → k ≡ 0 → n ≡ 32 → Closed f t i k n
  unread : i < t.nodes.count → (k ≡ 0 → ⊥) → enter (Fast.table f t) i ≡ Ans.refused n → Closed f t i k n

-- the node is in range, a call is left, and x is made of it
pub record Made {X : Type 0} (make : Entered End → X) (f : List ℕ) (t : Tables) (i k : ℕ) (x : X) : Type 0 where
  pub in_range : i < t.nodes.count
  pub left : k ≡ 0 → ⊥
  pub node : Entered End
  pub entered : enter (Fast.table f t) i ≡ answer node
  pub is_made : make node ≡ x

module _ {X : Type 0} (make : Entered End → X) (f : List ℕ) (t : Tables) (i k : ℕ) where
  abbrev note : Bool → Bool → Answer X
  note b z = cond b (cond z (Ans.refused 32) (made_from make f t i)) (Ans.refused 30)

  -- in range, with a call left
  pub note_read : i < t.nodes.count → (k ≡ 0 → ⊥) → made_from make f t i ≡ node_for make f t i k
  unfolding node_for
  note_read h z = simp (lt-ltb _ _ h, ne_eqb k 0 z)

  -- and what an answer tells
  module _ (y : Answer X) (is_y : y ≡ node_for make f t i k) where
    noted : y ≡ note (ltb i t.nodes.count) (eqb k 0)
    unfolding node_for
    noted = is_y

    make_by : (b z : Bool) → ltb i t.nodes.count ≡ b → eqb k 0 ≡ z → (x : X) → y ≡ answer x → y ≡ note b z → Made make f t i k x
    make_by true true u v x e n = let d : answer x ≡ Ans.refused 32 = sym e ∙ n in cc
    make_by true false u v x e n =
        let m = mapped_answer make (enter (Fast.table f t) i) x (sym n ∙ e) in
        record { in_range = ltb-true _ _ u; left = eqb-false _ _ v; node = m.0; entered = m.1; is_made = m.2 }
    make_by false z u v x e n = let d : answer x ≡ Ans.refused 30 = sym e ∙ n in cc

    pub made : (x : X) → y ≡ answer x → Made make f t i k x
    made x e = make_by (ltb i t.nodes.count) (eqb k 0) refl refl x e noted

    close_by : (b z : Bool) → ltb i t.nodes.count ≡ b → eqb k 0 ≡ z → (x : ℕ) → y ≡ Ans.refused x → y ≡ note b z → Closed f t i k x
    close_by true true u v x e n = spent (ltb-true _ _ u) (eqb-true _ _ v) (let r : Ans.refused x ≡ Ans.refused 32 = sym e ∙ n in cc)
    close_by true false u v x e n = unread (ltb-true _ _ u) (eqb-false _ _ v) (mapped_refused make (enter (Fast.table f t) i) x (sym n ∙ e))
    close_by false z u v x e n = outside (ltb-false _ _ u) (let r : Ans.refused x ≡ Ans.refused 30 = sym e ∙ n in cc)

    pub closes : (x : ℕ) → y ≡ Ans.refused x → Closed f t i k x
    closes x e = close_by (ltb i t.nodes.count) (eqb k 0) refl refl x e noted

-- ---- a node with the distances of two points

-- the node is in range, a call is left, it has these words, and its plane these distances from the two points
pub record Opened (f : List ℕ) (t : Tables) (i k : ℕ) (p q : Vector3) (w : WordsT) (a b : Float) : Type 0 where
  pub in_range : i < t.nodes.count
  pub left : k ≡ 0 → ⊥
  pub plane : Hyperplane
  pub entered : enter (Fast.table f t) i ≡ answer (record { nd = node_of t.table w; plane = plane })
  pub first : Pl.point_dist plane p ≡ a
  pub second : Pl.point_dist plane q ≡ b
  pub read : plane_in f t w.plane ≡ answer plane

pub opened : {f : List ℕ} {t : Tables} {i k : ℕ} {p q : Vector3} {w : WordsT} {a b : Float} → answer (node_of t.table w, (a, b)) ≡ node_for (node_and_dists p q) f t i k → Opened f t i k p q w a b
opened {f} {t} {i} {k} {p} {q} {w} {a} {b} e =
    let m : Made (node_and_dists p q) f t i k (node_of t.table w, (a, b)) = made (node_and_dists p q) f t i k _ e (node_of t.table w, (a, b)) refl in
    let its_node : m.node.nd ≡ node_of t.table w = ap (λ (z : Node End × (Float × Float)). z.0) m.is_made in
    record {
      in_range = m.in_range;
      left = m.left;
      plane = m.node.plane;
      entered = m.entered ∙ ap (λ (z : Node End). answer (record { nd = z; plane = m.node.plane })) its_node;
      first = ap (λ (z : Node End × (Float × Float)). z.1.0) m.is_made;
      second = ap (λ (z : Node End × (Float × Float)). z.1.1) m.is_made;
      read = sym (ap (λ (z : Node End). plane_in f t z.plane) its_node) ∙ planed f t i m.node m.entered;
    }

-- a call is left
pub call_left : (f : List ℕ) (t : Tables) (i k : ℕ) (p q : Vector3) (w : WordsT) (a b : Float) → answer (node_of t.table w, (a, b)) ≡ node_for (node_and_dists p q) f t i k → 0 < k
call_left f t i k p q w a b e = let o : Opened f t i k p q w a b = opened e in omega (arith, o.left)

pub closed : {f : List ℕ} {t : Tables} {i k n : ℕ} (p q : Vector3) → Ans.refused n ≡ node_for (node_and_dists p q) f t i k → Closed f t i k n
closed {f} {t} {i} {k} {n} p q e = closes (node_and_dists p q) f t i k _ e n refl

-- ---- a node with the child on a point's side

module _ (f : List ℕ) (t : Tables) (i k : ℕ) (p : Vector3) where
  pub toward : (word : ℕ) → answer (child_of t.table word) ≡ node_for (child_by_distance p) f t i k → Made (child_by_distance p) f t i k (child_of t.table word)
  toward word e = made (child_by_distance p) f t i k _ e (child_of t.table word) refl

  pub not_toward : (n : ℕ) → Ans.refused n ≡ node_for (child_by_distance p) f t i k → Closed f t i k n
  not_toward n e = closes (child_by_distance p) f t i k _ e n refl
