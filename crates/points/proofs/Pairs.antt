-- A group of two points goes down: what is left to do, and each way out of a node.
-- Assumes nothing.
use Prim.Native.Nat.{ℕ, suc, ◌+◌, ◌-◌, ◌<◌, ◌≤◌}
use native.Mathlib.Omega.{arith}
use mathlib.Core.Bool.{Bool, true, false, beq, cond, not}
use mathlib.Core.List.{List, [], ◌∷◌}
use mathlib.Core.Path.{◌≡◌, refl, sym, ◌∙◌, ap}
use lib.Ieee.{Float}
use lib.ListN.{set}
use Rattle.std.specs.Borrow.{Bor}
use Rattle.format.specs.Contents.{code_of}
use Rattle.math.specs.Plane as Pl
use Rattle.math.specs.declared.plane.Hyperplane.{Hyperplane}
use Rattle.math.specs.declared.vector.Vector3.{Vector3}
use Rattle.walk.specs.Table.{Child}
use Rattle.walk.specs.Walk.{Entered}
use Rattle.nodes.specs.Tables.{End}
use Rattle.nodes.proofs.Entering.{child_of_word}
use Rattle.nodes.specs.Fast.{onto_child, onto_word, table, child_of, node_of, plane_here, word_on}
use Rattle.nodes.specs.declared.table.Tables.{Tables}
use Rattle.nodes.specs.declared.read.Words.{Words as WordsT}
use Rattle.nodes.specs.declared.read.Onto.{Onto}
use Rattle.ways.specs.Groups.{settled, onward, meets, fill, in_front, fronts, backs}
use Rattle.ways.proofs.Divided.{reads_none, settled_reads, settled_bytes, some_left, divided_reads, divided_bytes}
use Rattle.points.specs.Going.{point_at, met_meets, met, reads_of, settled_by, Settles, TwoSettled}
use Rattle.points.specs.declared.few.Met.{Met}
use Rattle.points.specs.declared.few.Met.TheVariants as K
use Rattle.points.proofs.Meeting.{front_is}
use Rattle.points.proofs.Downward.{few_reads}

same_if : (a b : Bool) → beq a b ≡ true → a ≡ b
same_if true true e = refl
same_if false false e = refl
same_if true false e = let z : ◌≡◌ {A = ℕ} 0 1 = cc in absurd (omega arith)
same_if false true e = let z : ◌≡◌ {A = ℕ} 0 1 = cc in absurd (omega arith)

apart_if : (a b : Bool) → beq a b ≡ false → a ≡ b → ⊥
apart_if true true e h = let z : ◌≡◌ {A = ℕ} 0 1 = cc in absurd (omega arith)
apart_if false false e h = let z : ◌≡◌ {A = ℕ} 0 1 = cc in absurd (omega arith)
apart_if true false e h = let z : ◌≡◌ {A = ℕ} 0 1 = cc in absurd (omega arith)
apart_if false true e h = let z : ◌≡◌ {A = ℕ} 0 1 = cc in absurd (omega arith)

module _ (s : List ℕ) (t : Tables) (cs : List Float) (p q : ℕ) where
  abbrev both : List ℕ
  both = p ∷ q ∷ []

  abbrev child_at : Onto → Child End
  child_at c = onto_child t.table c

  -- so far n reads; the two stand before c, with k nodes more to enter
  pub record Together (k₀ : ℕ) (c₀ : Onto) (out₀ out : List ℕ) (c : Onto) (k n : ℕ) : Type 0 where
    pub fewer : k ≤ k₀
    pub counted : reads_of s t cs k₀ (child_at c₀) both ≡ n + reads_of s t cs k (child_at c) both
    pub bytes : settled_by s t cs k₀ (child_at c₀) both out₀ ≡ settled_by s t cs k (child_at c) both out

  pub together_none : {k : ℕ} {c : Onto} {out : List ℕ} → Together k c out out c k 0
  together_none = record { fewer = omega arith; counted = omega arith; bytes = refl }

  pub pair_few : (k : ℕ) (c : Onto) {before out : List ℕ} {n : ℕ} → Settles s t cs k (child_at c) both before n out → k < 4294967296 → n ≤ 4398046511104
  pair_few k c z h = omega (arith, z.counted, few_reads s t cs k (child_at c) both h (omega arith))

  module _ {k₀ : ℕ} {c₀ : Onto} {out₀ out : List ℕ} {c : Onto} {k n : ℕ} (g : Together k₀ c₀ out₀ out c k n) (r : Met) (is-r : met_meets t.table r ≡ met s t k c) where
    pub pair_rests : {b : ℕ} → r ≡ K.Settled b → (a z : List ℕ) → a ≡ set out p b → z ≡ set a q b → Settles s t cs k₀ (child_at c₀) both out₀ n z
    unfolding fill
    pair_rests {b} e a z is-a is-z =
        let m : met s t k c ≡ settled b = sym is-r ∙ ap (met_meets t.table) e in
        let none : reads_of s t cs k (child_at c) both ≡ 0 = settled_reads (table s t) code_of (point_at cs) (child_at c) b k m both in
        record {
          counted = omega (arith, g.counted, none);
          bytes = is-z ∙ ap (λ (l : List ℕ). set l q b) is-a ∙ sym (settled_bytes (table s t) code_of (point_at cs) (child_at c) b k m both out) ∙ sym g.bytes;
        }

    module _ {w : WordsT} {pb : Bor (List ℕ)} (e : r ≡ K.Node w pb) where
      abbrev h : Hyperplane
      h = plane_here pb.now 0

      abbrev entered : Entered End
      entered = record { nd = node_of t.table w; plane = h }

      is_node : met s t k c ≡ onward entered
      is_node = sym is-r ∙ ap (met_meets t.table) e

      pub pair_enters : 0 < k
      pair_enters = some_left (table s t) code_of (point_at cs) (child_at c) entered k is_node

      abbrev j : ℕ
      j = k - 1

      one_less : k ≡ suc j
      one_less = omega (arith, pair_enters)

      is_node' : meets (table s t) code_of (suc j) (child_at c) ≡ onward entered
      is_node' = ap (λ (y : ℕ). met s t y c) (sym one_less) ∙ is_node

      abbrev on : Bool → Child End
      on b = child_of t.table (word_on w b)

      abbrev reads_on : Bool → List ℕ → ℕ
      reads_on b l = reads_of s t cs j (on b) l

      abbrev bytes_on : Bool → List ℕ → List ℕ → List ℕ
      bytes_on b l o = settled_by s t cs j (on b) l o

      abbrev F : List ℕ
      F = fronts (point_at cs) h both

      abbrev B : List ℕ
      B = backs (point_at cs) h both

      reads_here : reads_of s t cs k₀ (child_at c₀) both ≡ n + 1 + (reads_on true F + reads_on false B)
      reads_here =
          let a = ap (λ (y : ℕ). reads_of s t cs y (child_at c) both) one_less ∙ divided_reads (table s t) code_of (point_at cs) (child_at c) entered j is_node' both (omega arith) in
          omega (arith, g.counted, a)

      bytes_here : settled_by s t cs k₀ (child_at c₀) both out₀ ≡ bytes_on false B (bytes_on true F out)
      bytes_here = g.bytes ∙ ap (λ (y : ℕ). settled_by s t cs y (child_at c) both out) one_less ∙ divided_bytes (table s t) code_of (point_at cs) (child_at c) entered j is_node' both out

      pub pair_more : k₀ < 4294967296 → n + 1 ≤ 4398046511104
      pair_more l = omega (arith, reads_here, few_reads s t cs k₀ (child_at c₀) both l (omega arith))

      -- the sides of the two points
      module _ (u v : Vector3) (is-u : u ≡ point_at cs p) (is-v : v ≡ point_at cs q) (a b : Bool) (is-a : Pl.side_if a ≡ Pl.point_side h u) (is_b : Pl.side_if b ≡ Pl.point_side h v) where
        first_is : in_front (point_at cs) h p ≡ a
        unfolding in_front
        first_is = sym (front_is a (Pl.point_side h (point_at cs p)) (is-a ∙ ap (Pl.point_side h) is-u))

        second_is : in_front (point_at cs) h q ≡ b
        unfolding in_front
        second_is = sym (front_is b (Pl.point_side h (point_at cs q)) (is_b ∙ ap (Pl.point_side h) is-v))

        F_is : F ≡ cond a (p ∷ cond b (q ∷ []) []) (cond b (q ∷ []) [])
        F_is = rw (first_is, second_is)

        B_is : B ≡ cond (not a) (p ∷ cond (not b) (q ∷ []) []) (cond (not b) (q ∷ []) [])
        B_is = rw (first_is, second_is)

        reads_by : reads_of s t cs k₀ (child_at c₀) both ≡ n + 1 + (reads_on true (cond a (p ∷ cond b (q ∷ []) []) (cond b (q ∷ []) [])) + reads_on false (cond (not a) (p ∷ cond (not b) (q ∷ []) []) (cond (not b) (q ∷ []) [])))
        reads_by = reads_here ∙ ap (λ (l : List ℕ). n + 1 + (reads_on true l + reads_on false B)) F_is ∙ ap (λ (l : List ℕ). n + 1 + (reads_on true (cond a (p ∷ cond b (q ∷ []) []) (cond b (q ∷ []) [])) + reads_on false l)) B_is

        bytes_by : settled_by s t cs k₀ (child_at c₀) both out₀ ≡ bytes_on false (cond (not a) (p ∷ cond (not b) (q ∷ []) []) (cond (not b) (q ∷ []) [])) (bytes_on true (cond a (p ∷ cond b (q ∷ []) []) (cond b (q ∷ []) [])) out)
        bytes_by = bytes_here ∙ ap (λ (l : List ℕ). bytes_on false B (bytes_on true l out)) F_is ∙ ap (λ (l : List ℕ). bytes_on false l (bytes_on true (cond a (p ∷ cond b (q ∷ []) []) (cond b (q ∷ []) [])) out)) B_is

        -- they stay together
        pub pair_on : beq a b ≡ true → {d : Onto} → d ≡ onto_word (word_on w a) → Together k₀ c₀ out₀ out d j (n + 1)
        unfolding fill
        pair_on same {d} is-d =
            let v : child_at d ≡ on a = ap child_at is-d ∙ child_of_word t.table (word_on w a) in
            record {
              fewer = omega (arith, g.fewer);
              counted = rw v (go a b (same_if a b same) reads_by);
              bytes = rw v (by a b (same_if a b same) bytes_by);
            }
          where
            go : (a b : Bool) → a ≡ b → reads_of s t cs k₀ (child_at c₀) both ≡ n + 1 + (reads_on true (cond a (p ∷ cond b (q ∷ []) []) (cond b (q ∷ []) [])) + reads_on false (cond (not a) (p ∷ cond (not b) (q ∷ []) []) (cond (not b) (q ∷ []) [])))
                → reads_of s t cs k₀ (child_at c₀) both ≡ n + 1 + reads_on a both
            go true true x y = let z : reads_on false [] ≡ 0 = reads_none (table s t) code_of (point_at cs) j (on false) in omega (arith, y, z)
            go false false x y = let z : reads_on true [] ≡ 0 = reads_none (table s t) code_of (point_at cs) j (on true) in omega (arith, y, z)
            go true false x y = let z : ◌≡◌ {A = ℕ} 0 1 = cc in absurd (omega arith)
            go false true x y = let z : ◌≡◌ {A = ℕ} 0 1 = cc in absurd (omega arith)

            by : (a b : Bool) → a ≡ b → settled_by s t cs k₀ (child_at c₀) both out₀ ≡ bytes_on false (cond (not a) (p ∷ cond (not b) (q ∷ []) []) (cond (not b) (q ∷ []) [])) (bytes_on true (cond a (p ∷ cond b (q ∷ []) []) (cond b (q ∷ []) [])) out)
                → settled_by s t cs k₀ (child_at c₀) both out₀ ≡ bytes_on a both out
            by true true x y = y
            by false false x y = y
            by true false x y = let z : ◌≡◌ {A = ℕ} 0 1 = cc in absurd (omega arith)
            by false true x y = let z : ◌≡◌ {A = ℕ} 0 1 = cc in absurd (omega arith)

        -- they go apart, the first in front or the second
        pub pair_first : beq a b ≡ false → a ≡ true → {m : ℕ} {z : List ℕ} → TwoSettled s t cs j w (p ∷ q ∷ []) out m z → Settles s t cs k₀ (child_at c₀) both out₀ (n + 1 + m) z
        pair_first apart e {m} {z} y = go a b (apart_if a b apart) e reads_by bytes_by
          where
            go : (a b : Bool) → (a ≡ b → ⊥) → a ≡ true → reads_of s t cs k₀ (child_at c₀) both ≡ n + 1 + (reads_on true (cond a (p ∷ cond b (q ∷ []) []) (cond b (q ∷ []) [])) + reads_on false (cond (not a) (p ∷ cond (not b) (q ∷ []) []) (cond (not b) (q ∷ []) [])))
                → settled_by s t cs k₀ (child_at c₀) both out₀ ≡ bytes_on false (cond (not a) (p ∷ cond (not b) (q ∷ []) []) (cond (not b) (q ∷ []) [])) (bytes_on true (cond a (p ∷ cond b (q ∷ []) []) (cond b (q ∷ []) [])) out)
                → Settles s t cs k₀ (child_at c₀) both out₀ (n + 1 + m) z
            go true false x f u v = record { counted = omega (arith, u, y.counted); bytes = y.bytes ∙ sym v }
            go true true x f u v = absurd (x refl)
            go false b x f u v = let z : ◌≡◌ {A = ℕ} 0 1 = cc in absurd (omega arith)

        pub pair_second : beq a b ≡ false → a ≡ false → {m : ℕ} {z : List ℕ} → TwoSettled s t cs j w (q ∷ p ∷ []) out m z → Settles s t cs k₀ (child_at c₀) both out₀ (n + 1 + m) z
        pair_second apart e {m} {z} y = go a b (apart_if a b apart) e reads_by bytes_by
          where
            go : (a b : Bool) → (a ≡ b → ⊥) → a ≡ false → reads_of s t cs k₀ (child_at c₀) both ≡ n + 1 + (reads_on true (cond a (p ∷ cond b (q ∷ []) []) (cond b (q ∷ []) [])) + reads_on false (cond (not a) (p ∷ cond (not b) (q ∷ []) []) (cond (not b) (q ∷ []) [])))
                → settled_by s t cs k₀ (child_at c₀) both out₀ ≡ bytes_on false (cond (not a) (p ∷ cond (not b) (q ∷ []) []) (cond (not b) (q ∷ []) [])) (bytes_on true (cond a (p ∷ cond b (q ∷ []) []) (cond b (q ∷ []) [])) out)
                → Settles s t cs k₀ (child_at c₀) both out₀ (n + 1 + m) z
            go false true x f u v = record { counted = omega (arith, u, y.counted); bytes = y.bytes ∙ sym v }
            go false false x f u v = absurd (x refl)
            go true b x f u v = let z : ◌≡◌ {A = ℕ} 0 1 = cc in absurd (omega arith)
