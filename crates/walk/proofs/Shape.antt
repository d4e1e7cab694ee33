-- A finite shape drawn from a table: what a passing check finds, and what walks and traces are followed along.
use mathlib.Core.Bool.{true}
use mathlib.Core.List.Memᴰ
use mathlib.Core.List.{List, [], ◌∷◌, ◌++◌, Memᴰ}
use mathlib.Core.Logic.{◌⊎◌, inl, inr}
use mathlib.Core.Path.{◌≡◌, refl}
use Prim.Native.Nat.{ℕ, zero, suc, ◌+◌, ◌<◌, ◌≤◌, max}
use native.Mathlib.Omega.{arith}
use lib.ListN.{length, length-append}
use Rattle.format.specs.Answer.{answer}
use Rattle.math.specs.declared.plane.HyperplaneSide.{HyperplaneSide}
use Rattle.math.specs.declared.plane.HyperplaneSide.TheVariants.{Positive, Negative}
use Rattle.walk.specs.Table.{Child, node, end, Node, Nodes, child_on}
use Rattle.walk.specs.Tree.{NoTwice, IsEnd}
use Rattle.walk.proofs.Lists.{room, once_apart}

pub data Shape (E : Type 0) : Type 0 where
  tip : E → Shape E
  -- a node's number, its plane's number, what is in front and what is behind
  fork : ℕ → ℕ → Shape E → Shape E → Shape E

module _ {E : Type 0} where
  abbrev pub top : Shape E → Child E
  top (tip e) = end e
  top (fork i p f b) = node i

  abbrev pub height : Shape E → ℕ
  height (tip e) = 0
  height (fork i p f b) = suc (max (height f) (height b))

  abbrev pub nodes_of : Shape E → List ℕ
  nodes_of (tip e) = []
  nodes_of (fork i p f b) = i ∷ (nodes_of f ++ nodes_of b)

  abbrev pub part : HyperplaneSide → Shape E → Shape E → Shape E
  part Positive f b = f
  part Negative f b = b

  abbrev pub record_of : ℕ → Shape E → Shape E → Node E
  record_of p f b = record { plane = p; front = top f; back = top b }

module _ {E : Type 0} (N : Nodes E) where
  -- the shape is drawn from the table
  abbrev pub Drawn : Shape E → Type 0
  Drawn (tip e) = N.leaf_in e ≡ true
  Drawn (fork i p f b) = (i < N.count) × (N.node_at i ≡ answer (record_of p f b)) × (p < N.planes) × Drawn f × Drawn b

  -- if the shape is an end, some node has it
  abbrev pub Hangs : Shape E → Type 0
  Hangs (tip e) = IsEnd N e
  Hangs (fork i p f b) = Unit {0}

  pub front_hangs : (i p : ℕ) (f b : Shape E) → N.node_at i ≡ answer (record_of p f b) → Hangs f
  front_hangs i p (tip e) b q = record { of_node = i; record_of = record_of p (tip e) b; read_as = q; side = Positive; is_end = refl }
  front_hangs i p (fork j r g h) b q = tt

  pub back_hangs : (i p : ℕ) (f b : Shape E) → N.node_at i ≡ answer (record_of p f b) → Hangs b
  back_hangs i p f (tip e) q = record { of_node = i; record_of = record_of p f (tip e); read_as = q; side = Negative; is_end = refl }
  back_hangs i p f (fork j r g h) q = tt

  pub root_hangs : (s : Shape E) (n : ℕ) → top s ≡ node n → Hangs s
  root_hangs (tip e) n q = let z : ◌≡◌ {A = ℕ} 0 1 = cc in absurd (omega arith)
  root_hangs (fork i p f b) n q = tt

pub height_nodes : {E : Type 0} (s : Shape E) → height s ≤ length (nodes_of s)
height_nodes (tip e) = omega arith
height_nodes (fork i p f b) =
    let hf : height f ≤ length (nodes_of f) = height_nodes f in
    let hb : height b ≤ length (nodes_of b) = height_nodes b in
    let e : length (nodes_of f ++ nodes_of b) ≡ length (nodes_of f) + length (nodes_of b) = length-append (nodes_of f) (nodes_of b) in
    omega arith

module _ {E : Type 0} (N : Nodes E) where
  -- what holds of each end, and of each node whose two parts it holds of, holds of the shape, with any two limits that are its height at least
  pub by_shape : (P : ℕ → ℕ → Shape E → Type 0) → ((k j : ℕ) (e : E) → Drawn N (tip e) → P k j (tip e))
      → ((k j i q : ℕ) (f b : Shape E) → Drawn N (fork i q f b) → P k j f → P k j b → P (suc k) (suc j) (fork i q f b))
      → (s : Shape E) → Drawn N s → (k j : ℕ) → height s ≤ k → height s ≤ j → P k j s
  by_shape P t o (tip e) d k j h g = t k j e d
  by_shape P t o (fork i q f b) d zero j h g = absurd (omega arith)
  by_shape P t o (fork i q f b) d (suc k) zero h g = absurd (omega arith)
  by_shape P t o (fork i q f b) d (suc k) (suc j) h g =
      o k j i q f b d (by_shape P t o f d.3 k j (omega arith) (omega arith)) (by_shape P t o b d.4 k j (omega arith) (omega arith))

  -- what holds of each node by itself holds of all on the list
  pub each_node : (P : ℕ → Type 0) → ((i q : ℕ) (f b : Shape E) → Drawn N (fork i q f b) → P i) → (s : Shape E) → Drawn N s → (n : ℕ) → Memᴰ n (nodes_of s) → P n
  each_node P o (tip e) d n m = absurd (Memᴰ.not-nil m)
  each_node P o (fork i q f b) d n m = cases (λ k. each_node P o f d.3 n k) (λ k. each_node P o b d.4 n k) (Memᴰ.cases_cons m)
    where
      split : (Memᴰ n (nodes_of f) → P n) → (Memᴰ n (nodes_of b) → P n) → Memᴰ n (nodes_of f) ⊎ Memᴰ n (nodes_of b) → P n
      split kf kb (inl k) = kf k
      split kf kb (inr k) = kb k

      cases : (Memᴰ n (nodes_of f) → P n) → (Memᴰ n (nodes_of b) → P n) → (n ≡ i) ⊎ Memᴰ n (nodes_of f ++ nodes_of b) → P n
      cases kf kb (inl e) = rw e (o i q f b d)
      cases kf kb (inr k) = split kf kb (Memᴰ.append_cases (nodes_of f) k)

  pub nodes_below_lem : (s : Shape E) → Drawn N s → (n : ℕ) → Memᴰ n (nodes_of s) → n < N.count
  nodes_below_lem s d n m = each_node (λ n. n < N.count) (λ i q f b d. d.0) s d n m

  pub height_count : (s : Shape E) → Drawn N s → NoTwice (nodes_of s) → height s ≤ N.count
  height_count s d o =
      let a : height s ≤ length (nodes_of s) = height_nodes s in
      let b : length (nodes_of s) ≤ N.count = room N.count (nodes_of s) o (nodes_below_lem s d) in
      omega arith

-- a side of a shape
module _ {E : Type 0} where
  pub on_part : (sd : HyperplaneSide) (p : ℕ) (f b : Shape E) → child_on (record_of p f b) sd ≡ top (part sd f b)
  on_part Positive p f b = refl
  on_part Negative p f b = refl

  -- what holds of both parts holds of the one on a side
  pub on_sides : (P : Shape E → Type 0) (f b : Shape E) → P f → P b → (sd : HyperplaneSide) → P (part sd f b)
  on_sides P f b x y Positive = x
  on_sides P f b x y Negative = y

  pub part_within : (sd : HyperplaneSide) (f b : Shape E) (n : ℕ) → Memᴰ n (nodes_of (part sd f b)) → Memᴰ n (nodes_of f ++ nodes_of b)
  part_within Positive f b n m = Memᴰ.append_left (nodes_of b) m
  part_within Negative f b n m = Memᴰ.append_right (nodes_of f) m

  pub part_height : (sd : HyperplaneSide) (f b : Shape E) → height (part sd f b) ≤ max (height f) (height b)
  part_height Positive f b = omega arith
  part_height Negative f b = omega arith

  pub part_drawn : (N : Nodes E) (sd : HyperplaneSide) (f b : Shape E) → Drawn N f → Drawn N b → Drawn N (part sd f b)
  part_drawn N sd f b df db = on_sides (Drawn N) f b df db sd

  -- two different sides have no node in common
  pub parts_apart : (x y : HyperplaneSide) (f b : Shape E) → (x ≡ y → ⊥) → NoTwice (nodes_of f ++ nodes_of b)
      → (n : ℕ) → Memᴰ n (nodes_of (part x f b)) → Memᴰ n (nodes_of (part y f b)) → ⊥
  parts_apart Positive Positive f b h o n p q = h refl
  parts_apart Positive Negative f b h o n p q = once_apart (nodes_of f) (nodes_of b) o n p q
  parts_apart Negative Positive f b h o n p q = once_apart (nodes_of f) (nodes_of b) o n q p
  parts_apart Negative Negative f b h o n p q = h refl
