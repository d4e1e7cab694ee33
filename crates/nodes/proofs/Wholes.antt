-- A file that has all nodes and all planes: the bytes of their sections, and what is read from them.
-- Assumes nothing.
use Rattle.std.proofs.Common.{◌≡◌, ℕ, ◌+◌, ◌-◌, ◌*◌, ◌<◌, ◌≤◌, Bool, true, false, cond, ltb, leb, List, [], length, take, drop, sym, refl, ap, ◌∙◌, mul-le-mul, arith, length-drop, length-take-le, ltb-false, le-ltb, leb-true}
use Rattle.nodes.specs.Fast.{Within, is_render, node_size}
use Rattle.nodes.specs.Tables.{is_box}
use Rattle.nodes.specs.Walks.{is_whole, are_whole, all_bytes, bytes_of}
use Rattle.nodes.specs.declared.table.Part.{Part}
use Rattle.nodes.specs.declared.table.Tables.{Tables}
use Rattle.nodes.proofs.Sections.{part_within}

module _ (p : Part) (size n : ℕ) where
  pub by_end : p.count ≤ p.readable → leb (p.at + p.count * size) n ≡ is_whole p size n
  unfolding is_whole
  by_end h = simp (le-ltb p.readable p.count h)

  by_tests : (a b : Bool) → ltb p.readable p.count ≡ a → leb (p.at + p.count * size) n ≡ b → cond a false b ≡ true → (p.count ≤ p.readable) × (p.at + p.count * size ≤ n)
  by_tests true b q r e = let z : ◌≡◌ {A = ℕ} 0 1 = cc in absurd (omega arith)
  by_tests false true q r e = (ltb-false p.readable p.count q, leb-true (p.at + p.count * size) n r)
  by_tests false false q r e = let z : ◌≡◌ {A = ℕ} 0 1 = cc in absurd (omega arith)

  pub whole_is : is_whole p size n ≡ true → (p.count ≤ p.readable) × (p.at + p.count * size ≤ n)
  unfolding is_whole
  whole_is e = by_tests (ltb p.readable p.count) (leb (p.at + p.count * size) n) refl refl e

module _ (t : Tables) (n : ℕ) where
  abbrev on_nodes : Bool
  on_nodes = is_whole t.nodes (node_size (is_render t.table)) n

  by_three : (a b c : Bool) → is_box t.table ≡ a → on_nodes ≡ b → is_whole t.planes 20 n ≡ c → cond a false (cond b c false) ≡ true → (is_box t.table ≡ false) × (on_nodes ≡ true) × (is_whole t.planes 20 n ≡ true)
  by_three true b c p q r e = let z : ◌≡◌ {A = ℕ} 0 1 = cc in absurd (omega arith)
  by_three false false c p q r e = let z : ◌≡◌ {A = ℕ} 0 1 = cc in absurd (omega arith)
  by_three false true false p q r e = let z : ◌≡◌ {A = ℕ} 0 1 = cc in absurd (omega arith)
  by_three false true true p q r e = (p, q, r)

  pub all_whole : are_whole t n ≡ true → (is_box t.table ≡ false) × (on_nodes ≡ true) × (is_whole t.planes 20 n ≡ true)
  unfolding are_whole
  all_whole e = by_three (is_box t.table) on_nodes (is_whole t.planes 20 n) refl refl refl e

-- the bytes of a part, as they are taken
module _ (s : List ℕ) (p : Part) (size : ℕ) (b : Bool) where
  pub none_asked : b ≡ false → [] ≡ bytes_of b s p size
  unfolding bytes_of
  none_asked e = rw e

  module _ (e : b ≡ true) (k : Bool) (is-k : k ≡ is_whole p size (length s)) where
    pub none_whole : k ≡ false → [] ≡ bytes_of b s p size
    unfolding bytes_of
    none_whole f = rw (e, ← is-k, f)

    pub all_taken : k ≡ true → bytes_of b s p size ≡ all_bytes s p size
    unfolding bytes_of
    all_taken f = rw (e, ← is-k, f)

    pub ends_inside : k ≡ true → p.at + p.count * size ≤ length s
    ends_inside f = (whole_is p size (length s) (sym is-k ∙ f)).1

    pub bytes_are : k ≡ true → (end : ℕ) → end ≡ p.at + p.count * size → take (end - p.at) (drop p.at s) ≡ bytes_of b s p size
    bytes_are f end is_end =
        rw is_end (ap (λ (k : ℕ). take k (drop p.at s)) {x = p.at + p.count * size - p.at} {y = p.count * size} (omega arith)) ∙ sym (all_taken f)

-- the bytes of a part that is whole
module _ (s : List ℕ) (p : Part) (size : ℕ) (h : p.at + p.count * size ≤ length s) where
  pub bytes_length : length (all_bytes s p size) ≡ p.count * size
  bytes_length = length-take-le (p.count * size) (drop p.at s) (rw (length-drop p.at s) (omega arith))

  pub bytes_within : Within (all_bytes s p size) s p.at
  bytes_within = part_within s p.at (p.count * size) h

  -- a record of an index below the count lies in them
  pub record_inside : (i : ℕ) → i < p.count → i * size + size ≤ p.count * size
  record_inside i l = let q : (i + 1) * size ≤ p.count * size = mul-le-mul {n₁ = i + 1} {m₁ = size} {n₂ = p.count} {m₂ = size} (omega arith) (omega arith) in omega (arith, q)
