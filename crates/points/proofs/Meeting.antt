-- What a group meets at a child.
use Rattle.nodes.specs.declared.read.Words.{Words}
use Rattle.std.specs.Prelude.{Result, Ok, Err}
use Rattle.std.specs.Borrow.{Bor}
use Prim.Native.Nat.{ℕ, zero, suc, ◌<◌}
use Rattle.format.specs.Answers.{answer_of}
use native.Mathlib.Omega.{arith}
use mathlib.Core.Bool.{Bool, true, false}
use mathlib.Core.List.{List}
use mathlib.Core.Path.{◌≡◌, refl, sym, ◌∙◌, ap}
use borrow.Author.Tests.{lt-ltb}
use Rattle.format.specs.Contents.{code_of}
use Rattle.format.specs.Refusal.{number_of}
use Rattle.format.specs.declared.refusal.Refusal.{Refusal}
use Rattle.format.specs.declared.contents.BspLeafContents.{BspLeafContents}
use Rattle.format.specs.declared.contents.BspLeafContents.TheVariants.{Empty, Solid, Water, Slime, Lava, Sky, Current0, Current90, Current180, Current270, CurrentUp, CurrentDown}
use Rattle.math.specs.Plane as Pl
use Rattle.math.specs.declared.plane.Hyperplane.{Hyperplane}
use Rattle.math.specs.declared.plane.HyperplaneSide.{HyperplaneSide}
use Rattle.format.specs.Answer as Ans
use Rattle.format.specs.Answer.{Answer, answer, mapped}
use Rattle.nodes.specs.Tables.{End}
use Rattle.nodes.specs.Walks.{Read, MadeOf, found_answer}
use Rattle.nodes.specs.Fast.{is_render}
use Rattle.walk.specs.Walk.{Entered, enter}
use Rattle.nodes.specs.Fast.{contents_met, table, node_of, words_answer, plane_here, plane_in}
use Rattle.nodes.specs.Fast as Fast
use Rattle.nodes.proofs.Entering.{enter_not, enter_is, enter_no_plane}
use Rattle.nodes.specs.declared.table.Tables.{Tables}
use Rattle.nodes.specs.Quick.{code_or}
use Rattle.ways.specs.Groups.{byte_of, settled, onward, entering, meets, is_front}
use Rattle.points.specs.Going.{met}
use Rattle.nodes.specs.declared.read.Onto.{Onto}
use Rattle.nodes.specs.declared.read.Onto.TheVariants as O

-- ---- sides and codes

pub front_is : (b : Bool) (side : HyperplaneSide) → Pl.side_if b ≡ side → b ≡ is_front side
front_is true side e = ap is_front e
front_is false side e = ap is_front e

pub code_some : (c : BspLeafContents) → code_of c ≡ 0 → ⊥
code_some Empty e = omega arith
code_some Solid e = omega arith
code_some Water e = omega arith
code_some Slime e = omega arith
code_some Lava e = omega arith
code_some Sky e = omega arith
code_some Current0 e = omega arith
code_some Current90 e = omega arith
code_some Current180 e = omega arith
code_some Current270 e = omega arith
code_some CurrentUp e = omega arith
code_some CurrentDown e = omega arith

-- the number of an end is its byte
module _ (s : List ℕ) (t : Tables) (w n : ℕ) (e : n ≡ code_or (contents_met s t w)) where
  byte_is : (o : Answer BspLeafContents) → n ≡ code_or o → n ≡ byte_of (table s t) code_of o
  byte_is (answer c) h = h
  byte_is (Ans.refused x) h = h

  pub end_settled : settled n ≡ met s t 0 (O.End w)
  unfolding meets contents_met
  end_settled = ap settled (byte_is (contents_met s t w) e)

-- ---- at a node

module _ (s : List ℕ) (t : Tables) where
  module _ (k : ℕ) (c : Onto) (i : ℕ) (q : c ≡ O.Node i) where
    module _ (some : 0 < k) (h : i < t.nodes.count) where
      pub entered_at : met s t k c ≡ entering (table s t) code_of (enter (table s t) i)
      unfolding meets
      entered_at = rw q (by k some)
        where
          by : (k : ℕ) → 0 < k → met s t k (O.Node i) ≡ entering (table s t) code_of (enter (table s t) i)
          by zero n = absurd (omega arith)
          by (suc k) n = simp (lt-ltb i t.nodes.count h)

      module _ (r : Result Words Refusal) (is-r : words_answer t.table r ≡ Fast.node_at s t i) where
        pub not_read : (x : Refusal) → r ≡ Err x → settled 0 ≡ met s t k c
        not_read x e = sym (entered_at ∙ ap (entering (table s t) code_of) (enter_not s t (table s t) refl refl refl i r is-r x e))

        module _ (w : Words) (e : r ≡ Ok w) (a : Result Hyperplane Refusal) (is-a : answer_of a ≡ plane_in s t w.plane) where
          pub no_plane : (x : Refusal) → a ≡ Err x → settled 0 ≡ met s t k c
          no_plane x y = sym (entered_at ∙ ap (entering (table s t) code_of) (enter_no_plane s t (table s t) refl refl refl i r is-r w e (number_of x) (sym is-a ∙ ap answer_of y)))

          pub is_node : (h : Hyperplane) → a ≡ Ok h → onward (record { nd = node_of t.table w; plane = h }) ≡ met s t k c
          is_node h y = sym (entered_at ∙ ap (entering (table s t) code_of) (enter_is s t (table s t) refl refl refl i r is-r w e h (sym is-a ∙ ap answer_of y)))

-- ---- by the nodes' and the planes' own bytes

module _ (s : List ℕ) (t : Tables) (k : ℕ) (c : Onto) (i : ℕ) (q : c ≡ O.Node i) (some : 0 < k) (h : i < t.nodes.count) (n m : List ℕ) (render : Bool) (read : Read s t n m true) (is-r : render ≡ is_render t.table)
    (r : Result (Words × Bor (List ℕ)) Refusal) (g : MadeOf (λ x. x) render n m i (λ u. found_answer u r)) where
  met_in : met s t k c ≡ entering (table s t) code_of (enter (table s t) i)
  met_in = entered_at s t k c i q some h

  found_is : found_answer t.table r ≡ mapped (λ x. x) (enter (table s t) i)
  found_is = g.1 s t true read refl is-r

  pub unread_in : (e : Refusal) → r ≡ Err e → settled 0 ≡ met s t k c
  unread_in e y = go (enter (table s t) i) refl (sym (ap (found_answer t.table) y) ∙ found_is)
    where
      go : (a : Answer (Entered End)) → enter (table s t) i ≡ a → Ans.refused (number_of e) ≡ mapped (λ x. x) a → settled 0 ≡ met s t k c
      go (answer x) u v = let z : ◌≡◌ {A = ℕ} 0 1 = cc in absurd (omega arith)
      go (Ans.refused x) u v = sym (met_in ∙ ap (entering (table s t) code_of) u)

  pub node_in : (w : Words) (p : Bor (List ℕ)) → r ≡ Ok (w, p) → onward (record { nd = node_of t.table w; plane = plane_here p.now 0 }) ≡ met s t k c
  node_in w p y = go (enter (table s t) i) refl (sym (ap (found_answer t.table) y) ∙ found_is)
    where
      go : (a : Answer (Entered End)) → enter (table s t) i ≡ a → answer (record { nd = node_of t.table w; plane = plane_here p.now 0 }) ≡ mapped (λ x. x) a → onward (record { nd = node_of t.table w; plane = plane_here p.now 0 }) ≡ met s t k c
      go (answer x) u v =
          let z : ◌≡◌ {A = Entered End} (record { nd = node_of t.table w; plane = plane_here p.now 0 }) x = cc in
          sym (met_in ∙ ap (entering (table s t) code_of) u ∙ sym (ap onward z))
      go (Ans.refused x) u v = let z : ◌≡◌ {A = ℕ} 0 1 = cc in absurd (omega arith)
