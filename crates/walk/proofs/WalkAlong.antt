-- A walk along a drawn shape is answered within its height.
use Prim.Native.Nat.{ℕ, suc, ◌≤◌}
use native.Mathlib.Omega.{arith}
use mathlib.Core.List.{◌++◌}
use mathlib.Core.Path.{◌≡◌}
use lib.ListN.{length}
use borrow.Author.Tests.{lt-ltb}
use Rattle.format.specs.Answer.{answer}
use Rattle.math.specs.Plane as Pl
use Rattle.math.specs.declared.plane.Hyperplane.{Hyperplane}
use Rattle.math.specs.declared.plane.HyperplaneSide.{HyperplaneSide}
use Rattle.math.specs.declared.vector.Vector3.{Vector3}
use Rattle.walk.specs.Table.{Child, Table}
use Rattle.walk.specs.Walk.{Outcome, enter, onto, walk}
use Rattle.walk.specs.Tree.{NoTwice, Reads}
use Rattle.walk.proofs.Lists.{once_left, once_right}
use Rattle.walk.proofs.Shape.{Shape, fork, top, height, nodes_of, record_of, Drawn, Hangs, front_hangs, back_hangs, part, on_part, on_sides, part_within, part_height, by_shape}
use Rattle.walk.proofs.AnsweredIn.{AnsweredIn, wider, entered_in, enters, end_in}

module _ {E A : Type 0} (T : Table E A) (R : Reads T) (p : Vector3) where
  abbrev pub walk_on : ℕ → Child E → Outcome A
  walk_on k c = onto T (λ n. walk T k n p) (λ a. a) c

  abbrev pub Short : Shape E → Outcome A → Type 0
  Short s o = (g : AnsweredIn (nodes_of s) o) × (length g.nodes ≤ height s)

  fork_short : (k i q : ℕ) (f b : Shape E) → Drawn T.nodes (fork i q f b) → NoTwice (nodes_of (fork i q f b))
      → ((sd : HyperplaneSide) → Short (part sd f b) (walk_on k (top (part sd f b)))) → Short (fork i q f b) (walk T (suc k) i p)
  unfolding walk wider entered_in
  fork_short k i q f b d o ih =
      let w : (h : Hyperplane) × (T.plane_at q ≡ answer h) × (enter T i ≡ answer (record { nd = record_of q f b; plane = h })) = enters T R i q f b d in
      let sd : HyperplaneSide = Pl.point_side w.0 p in
      let g : Short (part sd f b) (walk_on k (top (part sd f b))) = ih sd in
      rw (lt-ltb i T.nodes.count d.0, w.2, on_part sd q f b)
      (entered_in i (nodes_of f ++ nodes_of b) (walk_on k (top (part sd f b))) o (wider (nodes_of f ++ nodes_of b) (part_within sd f b) g.0), omega (arith, g.1, part_height sd f b))

  pub along : (s : Shape E) → Drawn T.nodes s → (k j : ℕ) → height s ≤ k → height s ≤ j → Hangs T.nodes s → NoTwice (nodes_of s) → Short s (walk_on k (top s))
  unfolding end_in
  along =
      by_shape T.nodes (λ k j s. Hangs T.nodes s → NoTwice (nodes_of s) → Short s (walk_on k (top s)))
      (λ k j e d i o. (end_in T R (λ n. walk T k n p) (λ a. a) e d i, omega arith))
      (λ k j i q f b d x y u o. fork_short k i q f b d o (on_sides (λ s. Short s (walk_on k (top s))) f b
      (x (front_hangs T.nodes i q f b d.1) (once_left (nodes_of f) (nodes_of b) o.1)) (y (back_hangs T.nodes i q f b d.1) (once_right (nodes_of f) (nodes_of b) o.1))))
