-- On a root whose tree is one (walk/specs/Tree.antt: what the tree check asks) every whole-line trace is answered, whatever the floats, if planes and ends in range can be read.
-- A node that is met lies on a way down from the root, and the way and the calls left are 512 at least. Assumes nothing.
use Prim.Native.Nat.{ℕ, zero, suc, ◌+◌, ◌≤◌}
use native.Mathlib.Omega.{arith}
use mathlib.Core.Bool.{Bool, true, false, cond}
use mathlib.Core.List.{List, [], ◌∷◌, ◌++◌}
use mathlib.Core.Logic.{◌⊎◌, inl, inr}
use mathlib.Core.Path.{◌≡◌, refl, ap, ◌∙◌, subst, subst⁻¹}
use lib.Ieee as Ieee
use lib.Ieee.{Float, binary32}
use lib.ListN.{length, length-append}
use Rattle.format.specs.Answer.{Answer, answer}
use Rattle.format.specs.Contents as Contents
use Rattle.format.specs.declared.contents.BspLeafContents.{BspLeafContents}
use Rattle.format.specs.declared.contents.BspLeafContents.TheVariants.{Solid}
use Rattle.math.specs.Vector.{zero32, one32}
use Rattle.math.specs.Plane as Pl
use Rattle.math.specs.declared.vector.Vector3.{Vector3}
use Rattle.math.specs.declared.plane.Hyperplane.{Hyperplane}
use Rattle.math.specs.declared.plane.HyperplaneSide.{HyperplaneSide}
use Rattle.walk.specs.Table.{Child, node, end, Node, Nodes, Table, child_on}
use Rattle.walk.specs.Walk.{enter, meet}
use Rattle.walk.specs.Tree.{ChildOf, InTree, at_root, below, Reach, Valid, IsTree, Reads}
use Rattle.walk.proofs.Steps.{enter_is}
use Rattle.line.specs.Line.{Went, onward, stopped, line_answer, stretch, near_part, far_part, point_at, crossing, tenth, impact, into, unset, plane_from, with_plane, contents_on, contents_at, contents_from, contents_below, back_off, into_leaf, on_child, blocked, beyond, past, across, line_at, line_from, whole_line}
use Rattle.line.specs.declared.state.Stretch.{Stretch}
use Rattle.line.specs.declared.state.LineTrace.{LineTrace}
use Rattle.line.proofs.Looks.{look_step}
use Rattle.line.proofs.Lines.{line_step}

module _ {E : Type 0} (N : Nodes E) where
  -- a way one node longer
  longer : (i : ℕ) (p : List HyperplaneSide) (n m : ℕ) (side : HyperplaneSide) → Reach N i p n → ChildOf N n side m → Reach N i (p ++ side ∷ []) m
  longer i [] n m side r c = (m, subst (λ (x : ℕ). ChildOf N x side m) r c, refl)
  longer i (s ∷ p) n m side r c = (r.0, r.1, longer r.0 p n m side r.2 c)

  -- what a way leads to is in the tree
  reached : (root i : ℕ) (p : List HyperplaneSide) (n : ℕ) → InTree N root i → Reach N i p n → InTree N root n
  reached root i [] n t r = subst⁻¹ (InTree N root) r t
  reached root i (s ∷ p) n t r = reached root r.0 p n (below s t r.1) r.2

-- it is answered
abbrev Told : Answer BspLeafContents → Type 0
Told a = (c : BspLeafContents) × (a ≡ answer c)

abbrev Goes : Went → Type 0
Goes w = ((l : LineTrace) × (w ≡ onward l)) ⊎ ((l : LineTrace) × (w ≡ stopped l))

module _ {E : Type 0} (T : Table E BspLeafContents) (R : Reads T) (root : ℕ) (I : IsTree T.nodes root) where
  -- a node on a way from the root, with k calls left
  record Met (n k : ℕ) : Type 0 where
    way : List HyperplaneSide
    leads : Reach T.nodes root way n
    room : 512 ≤ length way + k

  at_the_root : Met root 512
  at_the_root = record { way = []; leads = refl; room = omega arith }

  valid : (n k : ℕ) → Met n k → Valid T.nodes n
  valid n k m = I.valid n (reached T.nodes root root m.way n (at_root refl) m.leads)

  -- a child of it, with one call less
  beneath : (n k : ℕ) (m : Met n (suc k)) (side : HyperplaneSide) (x : ℕ) → child_on (valid n (suc k) m).record_of side ≡ node x → Met x k
  beneath n k m side x e = record {
    way = m.way ++ side ∷ [];
    leads = longer T.nodes root m.way n x side m.leads (record { record_of = (valid n (suc k) m).record_of; read_as = (valid n (suc k) m).read_as; is_child = e });
    room = let l : length (m.way ++ side ∷ []) ≡ length m.way + 1 = length-append m.way (side ∷ []) in omega (arith, l, m.room);
  }

  -- the same as a top of its own
  as_top : (n k : ℕ) → Met n k → Met n 512
  as_top n k m = record { way = m.way; leads = m.leads; room = omega arith }

  spent : (n : ℕ) → Met n 0 → ⊥
  spent n m = let s : suc (length m.way) ≤ 512 = I.shallow n m.way m.leads in omega (arith, s, m.room)

  entered : (n k : ℕ) (m : Met n k) → (h : Hyperplane) × (enter T n ≡ answer (record { nd = (valid n k m).record_of; plane = h }))
  entered n k m =
      let v = valid n k m in
      let w : (h : Hyperplane) × (T.plane_at v.record_of.plane ≡ answer h) = R.planes_read v.record_of.plane v.plane_in in
      (w.0, enter_is T n v.record_of v.read_as w.0 v.plane_in w.1)

  end_met : (n k : ℕ) (m : Met n k) (side : HyperplaneSide) (e : E) → child_on (valid n k m).record_of side ≡ end e → Told (meet T e)
  unfolding meet
  end_met n k m side e q =
      let i : T.nodes.leaf_in e ≡ true = (valid n k m).ends_in side e q in
      let a : (c : BspLeafContents) × (T.leaf_at e ≡ answer c) = R.leaves_read e (record { of_node = n; record_of = (valid n k m).record_of; read_as = (valid n k m).read_as; side = side; is_end = q }) i in
      (a.0, rw i a.1)

  -- ---- contents

  on_told : (n k : ℕ) (m : Met n (suc k)) (side : HyperplaneSide) (go : ℕ → Answer BspLeafContents) → ((x : ℕ) → Met x k → Told (go x))
      → (c : Child E) → child_on (valid n (suc k) m).record_of side ≡ c → Told (contents_on T go c)
  on_told n k m side go ih (node x) e = ih x (beneath n k m side x e)
  on_told n k m side go ih (end x) e = end_met n (suc k) m side x e

  told : (k n : ℕ) → Met n k → (p : Vector3) → Told (contents_from T k n p)
  told zero n m p = absurd (spent n m)
  told (suc k) n m p =
      let h = entered n (suc k) m in
      let side : HyperplaneSide = Pl.from_dist (Pl.point_dist h.0 p) in
      subst⁻¹ Told (look_step T p (suc k) k n refl (valid n (suc k) m).in_range ∙ ap (contents_at T (λ x. contents_from T k x p) p) h.1)
      (on_told n k m side (λ x. contents_from T k x p) (λ x b. told k x b p) (child_on (valid n (suc k) m).record_of side) refl)

  beside_told : (n k : ℕ) (m : Met n (suc k)) (side : HyperplaneSide) (p : Vector3) → Told (contents_below T (child_on (valid n (suc k) m).record_of side) p)
  beside_told n k m side p =
      on_told n k m side (λ x. contents_from T 512 x p) (λ x b. told 512 x (as_top x k b) p) (child_on (valid n (suc k) m).record_of side) refl

  -- ---- backing off

  test_goes : (b : Bool) (x y : Went) → Goes x → Goes y → Goes (cond b x y)
  test_goes true x y g h = g
  test_goes false x y g h = h

  back_goes : (n : ℕ) (s : Stretch) (k : Float) (l : LineTrace) → Goes (back_off T n root s k l)
  unfolding back_off
  back_goes zero s k l = inr (impact s k l, refl)
  back_goes (suc n) s k l =
      let c = told 512 root at_the_root (point_at s k) in
      rw c.1
      (test_goes (Contents.equal c.0 Solid) _ _
      (test_goes (Ieee.le zero32 (Ieee.sub binary32 k tenth)) _ _ (back_goes n s (Ieee.sub binary32 k tenth) l) (inr (impact s k l, refl)))
      (inr (impact s k l, refl)))

  -- ---- the trace

  module _ (n k : ℕ) (m : Met n (suc k)) (go : ℕ → Stretch → LineTrace → Went) (ih : (x : ℕ) → Met x k → (s : Stretch) (l : LineTrace) → Goes (go x s l)) where
    abbrev nd : Node E
    nd = (valid n (suc k) m).record_of

    child_goes : (side : HyperplaneSide) (s : Stretch) (l : LineTrace) (c : Child E) → child_on nd side ≡ c → Goes (on_child T go c s l)
    child_goes side s l (node x) e = ih x (beneath n k m side x e) s l
    child_goes side s l (end x) e =
        let a = end_met n (suc k) m side x e in
        subst⁻¹ (λ (y : Answer BspLeafContents). Goes (into_leaf T l y)) a.1 (inl (into a.0 l, refl))

    blocked_goes : (h : Hyperplane) (near : HyperplaneSide) (s : Stretch) (x : Float) (l : LineTrace) → Goes (blocked T root h near s x l)
    blocked_goes h near s x l = test_goes l.all_solid (stopped l) _ (inr (l, refl)) (back_goes 10 s x (with_plane (plane_from near h) l))

    beyond_goes : (h : Hyperplane) (near : HyperplaneSide) (s : Stretch) (x : Float) (l : LineTrace) (a : Answer BspLeafContents) → Told a → Goes (beyond T go root nd h s near x l a)
    beyond_goes h near s x l a c =
        subst⁻¹ (λ (y : Answer BspLeafContents). Goes (beyond T go root nd h s near x l y)) c.1
        (test_goes (Contents.equal c.0 Solid) _ _ (blocked_goes h near s x l) (child_goes (Pl.negated_side near) (far_part s x) l (child_on nd (Pl.negated_side near)) refl))

    past_goes : (h : Hyperplane) (near : HyperplaneSide) (s : Stretch) (x : Float) (w : Went) → Goes w → Goes (past T go root nd h s near x w)
    past_goes h near s x w (inl g) =
        subst⁻¹ (λ (y : Went). Goes (past T go root nd h s near x y)) g.1
        (beyond_goes h near s x g.0 _ (beside_told n k m (Pl.negated_side near) (point_at s x)))
    past_goes h near s x w (inr g) = subst⁻¹ (λ (y : Went). Goes (past T go root nd h s near x y)) g.1 (inr (g.0, refl))

    across_goes : (h : Hyperplane) (s : Stretch) (a b : Float) (l : LineTrace) → Goes (across T go root nd h s a b l)
    across_goes h s a b l =
        test_goes (Pl.same_side (Pl.from_dist a) (Pl.from_dist b)) _ _
        (child_goes (Pl.from_dist a) s l (child_on nd (Pl.from_dist a)) refl)
        (past_goes h (Pl.from_dist a) s (crossing a b) _ (child_goes (Pl.from_dist a) (near_part s (crossing a b)) l (child_on nd (Pl.from_dist a)) refl))

  line_goes : (k n : ℕ) → Met n k → (s : Stretch) (l : LineTrace) → Goes (line_from T root k n s l)
  line_goes zero n m s l = absurd (spent n m)
  line_goes (suc k) n m s l =
      let h = entered n (suc k) m in
      subst⁻¹ Goes (line_step T root s l (suc k) k n refl (valid n (suc k) m).in_range ∙ ap (line_at T (λ x s l. line_from T root k x s l) root s l) h.1)
      (across_goes n k m (λ x s l. line_from T root k x s l) (λ x b s l. line_goes k x b s l) h.0 s (Pl.point_dist h.0 s.start) (Pl.point_dist h.0 s.end) l)

  answers : (w : Went) → Goes w → (l : LineTrace) × (line_answer w ≡ answer l)
  answers w (inl g) = (g.0, ap line_answer g.1)
  answers w (inr g) = (g.0, ap line_answer g.1)

  pub line_answered : (p q : Vector3) → (l : LineTrace) × (whole_line T root p q ≡ answer l)
  line_answered p q = answers _ (line_goes 512 root at_the_root (stretch zero32 one32 p q) (unset q))
