-- Walks and traces where planes and ends that are in range may be unreadable (23), as with a map record made by hand: from a root that passed the tree
-- check they are answered or refused with 23, and so never with 30 to 34. One argument for every table: beside the table stands the one that answers
-- something wherever this one has 23, and Simulates.antt compares the two. Assumes nothing.
use Prim.Native.Nat.{ℕ, ◌^◌, ◌<◌}
use native.Mathlib.Omega.{arith}
use mathlib.Core.Bool.{Bool, true, false, cond}
use mathlib.Core.List.{List}
use mathlib.Core.Logic.{inl}
use mathlib.Core.Path.{◌≡◌, refl, ap, subst}
use borrow.Author.Tests.{ltb-true}
use lib.Dec.{ltb, T as Holds}
use lib.Ieee.{binary32, fits, of_bits}
use lib.Ieee.Bits.{of_bits-fits}
use Rattle.format.specs.Answer as Ans
use Rattle.format.specs.Answer.{Answer, answer}
use Rattle.format.specs.declared.contents.BspLeafContents.{BspLeafContents}
use Rattle.math.specs.Plane as Pl
use Rattle.math.specs.declared.vector.Vector3.{Vector3}
use Rattle.math.specs.declared.plane.Hyperplane.{Hyperplane}
use Rattle.math.proofs.Fits.{Fits3}
use Rattle.walk.specs.Table.{Child, node, end, Node, Table}
use Rattle.walk.specs.Walk.{Outcome, done, refused, with_visits, with_plane, with_node, enter, meet, point_walk}
use Rattle.walk.specs.Tracing.{trace}
use Rattle.walk.specs.Tree.{Reads, PlanesFit}
use Rattle.walk.specs.TreeCheck.{tree_check}
use Rattle.walk.proofs.Answered.{walk_answered, trace_answered}
use Rattle.walk.proofs.Simulates.{Like, Same, Stands, Enters, Simulates, walks_same, traces_same}

-- it is answered, or a record that it needs cannot be read (23): so it is not refused with 30 to 34
pub data Served {A : Type 0} (a : Answer A) : Type 0 where
  answered : (v : A) → a ≡ answer v → Served a
  unreadable : a ≡ Ans.refused 23 → Served a

-- planes and ends in range are answered, or cannot be read
pub record ReadsOrNot {E A : Type 0} (T : Table E A) : Type 0 where
  pub planes_read : (p : ℕ) → p < T.nodes.planes → Served (T.plane_at p)
  pub leaves_read : (e : E) → T.nodes.leaf_in e ≡ true → Served (T.leaf_at e)

-- an answer, or this one in place of a refusal
abbrev or : {A : Type 0} → A → Answer A → Answer A
or d (answer a) = answer a
or d (Ans.refused n) = answer d

or_answers : {A : Type 0} (d : A) (x : Answer A) → (a : A) × (or d x ≡ answer a)
or_answers d (answer a) = (a, refl)
or_answers d (Ans.refused n) = (d, refl)

abbrev By23 : ℕ → Type 0
By23 n = n ≡ 23

abbrev Equal : ℕ → ℕ → Type 0
Equal p n = p ≡ n

by_23 : {A : Type 0} (n : ℕ) → Served {A = A} (Ans.refused n) → By23 n
by_23 n (answered v e) = let z : ◌≡◌ {A = ℕ} 0 1 = cc in absurd (omega arith)
by_23 n (unreadable e) = cc

served_like : {A : Type 0} (d : A) (x : Answer A) → Served x → Like By23 x (or d x)
served_like d (answer a) s = refl
served_like d (Ans.refused n) s = by_23 n s

abbrev plane0 : Hyperplane
plane0 = Pl.axis_x (of_bits binary32 0)

module _ {E A : Type 0} (T : Table E A) (R : ReadsOrNot T) (d : A) where
  -- the table that answers something everywhere
  abbrev all : Table E A
  all = record { nodes = T.nodes; plane_at = λ p. or plane0 (T.plane_at p); leaf_at = λ e. or d (T.leaf_at e) }

  all_reads : Reads all
  all_reads = record { planes_read = λ p l. or_answers plane0 (T.plane_at p); leaves_read = λ e i l. or_answers d (T.leaf_at e) }

  meet_like : (e : E) → Like By23 (meet T e) (meet all e)
  unfolding meet
  meet_like e = by (T.nodes.leaf_in e) refl
    where
      by : (b : Bool) → T.nodes.leaf_in e ≡ b → Like By23 (cond b (T.leaf_at e) (Ans.refused 30)) (cond b (or d (T.leaf_at e)) (Ans.refused 30))
      by true q = served_like d (T.leaf_at e) (R.leaves_read e q)
      by false q = inl refl

  stands : (c : Child E) → Stands By23 T all Equal c c
  stands (node n) = refl
  stands (end e) = meet_like e

  at_plane : (nd : Node E) (x : Answer Hyperplane) → Served x → Enters By23 T all Equal (with_plane T nd x) (with_plane all nd (or plane0 x))
  at_plane nd (answer h) s = (refl, stands nd.front, stands nd.back)
  at_plane nd (Ans.refused n) s = by_23 n s

  at_node_lem : (x : Answer (Node E)) → Enters By23 T all Equal (with_node T x) (with_node all x)
  at_node_lem (answer nd) = by (ltb nd.plane T.nodes.planes) refl
    where
      by : (b : Bool) → ltb nd.plane T.nodes.planes ≡ b
          → Enters By23 T all Equal (cond b (with_plane T nd (T.plane_at nd.plane)) (Ans.refused 30)) (cond b (with_plane all nd (or plane0 (T.plane_at nd.plane))) (Ans.refused 30))
      by true q = at_plane nd (T.plane_at nd.plane) (R.planes_read nd.plane (ltb-true _ _ q))
      by false q = inl refl
  at_node_lem (Ans.refused n) = inl refl

  at_index : (i : ℕ) → Enters By23 T all Equal (enter T i) (enter all i)
  unfolding enter
  at_index i = at_node_lem (T.nodes.node_at i)

  sim : Simulates By23 T all Equal
  sim = record {
    in_range = λ p n e. ap (λ (i : ℕ). ltb i T.nodes.count) e;
    enters = λ p n e. subst (λ (i : ℕ). Enters By23 T all Equal (enter T p) (enter all i)) e (at_index p);
  }

  -- what is answered there is answered here, or 23
  serve : {W : Type 0} (x y : Outcome W) → Same By23 Equal x y → (v : W) (ns : List ℕ) → y ≡ done v ns → Served (with_visits x)
  serve (done a ms) y e v ns q = answered _ refl
  serve (refused n) y e v ns q = unreadable (ap Ans.refused (subst (Same By23 Equal (refused n)) q e))

  pub walk_served : (ms : List ℕ) (root h : ℕ) → (tree_check T.nodes ms root).answer ≡ answer h → (p : Vector3) → Served (with_visits (point_walk T root p))
  walk_served ms root h passed p =
      let a = (walk_answered all all_reads ms root h passed p).all in
      serve (point_walk T root p) (point_walk all root p) (walks_same By23 T all Equal p sim T.nodes.count root root refl) a.value a.nodes a.answered

module _ {E : Type 0} (T : Table E BspLeafContents) (R : ReadsOrNot T) (d : BspLeafContents) where
  same_plane : (g h : Hyperplane) → answer g ≡ answer h → g ≡ h
  same_plane g h e = cc

  or_fits : (x : Answer Hyperplane) → ((h : Hyperplane) → x ≡ answer h → Holds (fits binary32 h.dist)) → (h : Hyperplane) → or plane0 x ≡ answer h → Holds (fits binary32 h.dist)
  or_fits (answer a) F h e = F h e
  or_fits (Ans.refused n) F h e = subst (λ (g : Hyperplane). Holds (fits binary32 g.dist)) (same_plane plane0 h e) (of_bits-fits binary32 0)

  pub trace_served : PlanesFit T → (ms : List ℕ) (root h : ℕ) → (tree_check T.nodes ms root).answer ≡ answer h → T.nodes.count < 2 ^ 64
      → (s e : Vector3) → Fits3 s → Fits3 e → Served (with_visits (trace T root s e))
  trace_served F ms root h passed few s e S G =
      let a = trace_answered (all T R d) (all_reads T R d) (λ p. or_fits (T.plane_at p) (F p)) ms root h passed few s e S G in
      serve T R d (trace T root s e) (trace (all T R d) root s e) (traces_same By23 T (all T R d) Equal (sim T R d) 512 root root refl s e) a.value a.nodes a.answered
