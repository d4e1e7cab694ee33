-- A group of at most 64 points goes down: what is left to do, and each way out of a node.
use Prim.Native.Nat.{ℕ, suc, ◌+◌, ◌-◌, ◌<◌, ◌≤◌}
use native.Mathlib.Omega.{arith}
use mathlib.Core.Bool.{Bool, true, false}
use mathlib.Core.List.{List, []}
use mathlib.Core.Path.{◌≡◌, refl, sym, ◌∙◌, ap, subst}
use lib.Ieee.{Float}
use Rattle.format.specs.Contents.{code_of}
use Rattle.math.specs.declared.plane.Hyperplane.{Hyperplane}
use Rattle.walk.specs.Table.{Child}
use Rattle.walk.specs.Walk.{Entered}
use Rattle.nodes.specs.Tables.{End}
use Rattle.nodes.proofs.Entering.{child_of_word}
use Rattle.nodes.specs.Fast.{onto_child, onto_word, table, child_of, node_of, plane_here, word_on}
use Rattle.std.specs.Borrow.{Bor}
use Rattle.nodes.specs.declared.table.Tables.{Tables}
use Rattle.nodes.specs.declared.read.Words.{Words as WordsT}
use Rattle.nodes.specs.declared.read.Onto.{Onto}
use Rattle.ways.specs.Groups.{settled, onward, meets, fill, in_front, fronts, backs}
use Rattle.ways.proofs.Divided.{reads_none, settled_reads, settled_bytes, some_left, divided_reads, divided_bytes}
use Rattle.points.specs.Going.{point_at, met_meets, met, reads_of, settled_by, Settles, members, chosen}
use Rattle.points.specs.declared.few.Met.{Met}
use Rattle.points.specs.declared.few.Met.TheVariants as K
use Rattle.points.proofs.Bits.{members_some, members_few, members_none, chosen_members, others_members}
use Rattle.points.proofs.Downward.{few_reads}

module _ (s : List ℕ) (t : Tables) (cs : List Float) where
  abbrev child_at : Onto → Child End
  child_at c = onto_child t.table c

  -- so far n reads; what is left to do is the group x, which stands before c with k nodes more to enter
  pub record Left (k₀ : ℕ) (c₀ : Onto) (x₀ : ℕ) (out₀ : List ℕ) (x : ℕ) (out : List ℕ) (c : Onto) (k n : ℕ) : Type 0 where
    pub some : 0 < x
    pub small : x < 18446744073709551616
    pub fewer : k ≤ k₀
    pub counted : reads_of s t cs k₀ (child_at c₀) (members x₀) ≡ n + reads_of s t cs k (child_at c) (members x)
    pub bytes : settled_by s t cs k₀ (child_at c₀) (members x₀) out₀ ≡ settled_by s t cs k (child_at c) (members x) out

  pub left_none : {k : ℕ} {c : Onto} {x : ℕ} {out : List ℕ} → 0 < x → x < 18446744073709551616 → Left k c x out x out c k 0
  left_none h m = record { some = h; small = m; fewer = omega arith; counted = omega arith; bytes = refl }

  -- the reads are few enough for 64 bits
  few_all : (k : ℕ) (c : Onto) (x : ℕ) → k < 4294967296 → reads_of s t cs k (child_at c) (members x) ≤ 4398046511104
  few_all k c x h = few_reads s t cs k (child_at c) (members x) h (omega (arith, members_few 64 0 x))

  pub few_settled : (k : ℕ) (c : Onto) (x : ℕ) {before out : List ℕ} {n : ℕ} → Settles s t cs k (child_at c) (members x) before n out → k < 4294967296 → n ≤ 4398046511104
  few_settled k c x z h = omega (arith, z.counted, few_all k c x h)

  module _ {k₀ : ℕ} {c₀ : Onto} {x₀ : ℕ} {out₀ : List ℕ} {x : ℕ} {out : List ℕ} {c : Onto} {k n : ℕ} (g : Left k₀ c₀ x₀ out₀ x out c k n) where
    -- all of it is settled
    pub settled_left : {l : List ℕ} → members x ≡ l → {m : ℕ} {out' : List ℕ} → Settles s t cs k (child_at c) l out m out' → Settles s t cs k₀ (child_at c₀) (members x₀) out₀ (n + m) out'
    settled_left {l} e {m} {out'} z =
        let y : Settles s t cs k (child_at c) (members x) out m out' = subst (λ (l : List ℕ). Settles s t cs k (child_at c) l out m out') (sym e) z in
        record { counted = omega (arith, g.counted, y.counted); bytes = y.bytes ∙ sym g.bytes }

    module _ (r : Met) (is-r : met_meets t.table r ≡ met s t k c) where
      pub at_rest : {b : ℕ} → r ≡ K.Settled b → {out' : List ℕ} → out' ≡ fill (λ q. b) (members x) out → Settles s t cs k₀ (child_at c₀) (members x₀) out₀ n out'
      at_rest {b} q {out'} e =
          let m : met s t k c ≡ settled b = sym is-r ∙ ap (met_meets t.table) q in
          let z : reads_of s t cs k (child_at c) (members x) ≡ 0 = settled_reads (table s t) code_of (point_at cs) (child_at c) b k m (members x) in
          record {
            counted = omega (arith, g.counted, z);
            bytes = e ∙ sym (settled_bytes (table s t) code_of (point_at cs) (child_at c) b k m (members x) out) ∙ sym g.bytes;
          }

      module _ {w : WordsT} {pb : Bor (List ℕ)} (q : r ≡ K.Node w pb) where
        abbrev h : Hyperplane
        h = plane_here pb.now 0

        abbrev entered : Entered End
        entered = record { nd = node_of t.table w; plane = h }

        is_node : met s t k c ≡ onward entered
        is_node = sym is-r ∙ ap (met_meets t.table) q

        pub may_enter : 0 < k
        may_enter = some_left (table s t) code_of (point_at cs) (child_at c) entered k is_node

        abbrev j : ℕ
        j = k - 1

        one_less : k ≡ suc j
        one_less = omega (arith, may_enter)

        is_node' : meets (table s t) code_of (suc j) (child_at c) ≡ onward entered
        is_node' = ap (λ (y : ℕ). met s t y c) (sym one_less) ∙ is_node

        abbrev on : Bool → Child End
        on b = child_of t.table (word_on w b)

        module _ {f : ℕ} (is-f : f ≡ chosen (in_front (point_at cs) h) x) where
          abbrev F : List ℕ
          F = members f

          abbrev B : List ℕ
          B = members (x - f)

          is_F : F ≡ fronts (point_at cs) h (members x)
          is_F = ap members is-f ∙ chosen_members (in_front (point_at cs) h) 64 0 x

          is_B : B ≡ backs (point_at cs) h (members x)
          is_B = ap (λ (y : ℕ). members (x - y)) is-f ∙ others_members (in_front (point_at cs) h) 64 0 x g.small

          reads_here : reads_of s t cs k₀ (child_at c₀) (members x₀) ≡ n + 1 + (reads_of s t cs j (on true) F + reads_of s t cs j (on false) B)
          reads_here =
              let a = ap (λ (y : ℕ). reads_of s t cs y (child_at c) (members x)) one_less ∙ divided_reads (table s t) code_of (point_at cs) (child_at c) entered j is_node' (members x) (members_some 64 0 x g.some g.small) in
              rw (is_F, is_B) (omega (arith, g.counted, a))

          bytes_here : settled_by s t cs k₀ (child_at c₀) (members x₀) out₀ ≡ settled_by s t cs j (on false) B (settled_by s t cs j (on true) F out)
          bytes_here = rw (is_F, is_B) (g.bytes ∙ ap (λ (y : ℕ). settled_by s t cs y (child_at c) (members x) out) one_less ∙ divided_bytes (table s t) code_of (point_at cs) (child_at c) entered j is_node' (members x) out)

          pub few_more : k₀ < 4294967296 → n + 1 ≤ 4398046511104
          few_more e = omega (arith, reads_here, few_all k₀ c₀ x₀ e)

          pub few_front : {d : Onto} → d ≡ onto_word (word_on w true) → {m : ℕ} {out' : List ℕ} → Settles s t cs j (child_at d) F out m out' → k₀ < 4294967296 → n + 1 + m ≤ 4398046511104
          few_front {d} is-d z e =
              let u = ap (λ (y : Child End). reads_of s t cs j y F) (ap child_at is-d ∙ child_of_word t.table (word_on w true)) in
              omega (arith, reads_here, z.counted, u, few_all k₀ c₀ x₀ e)

          -- the points in front are settled
          pub front_settled : 0 < x - f → {d : Onto} → d ≡ onto_word (word_on w true) → {m : ℕ} {out' : List ℕ} → Settles s t cs j (child_at d) F out m out' → {c' : Onto} → c' ≡ onto_word (word_on w false)
              → Left k₀ c₀ x₀ out₀ (x - f) out' c' j (n + 1 + m)
          front_settled a {d} is-d {m} {out'} z {c'} is-c =
              let u : child_at d ≡ on true = ap child_at is-d ∙ child_of_word t.table (word_on w true) in
              let v : child_at c' ≡ on false = ap child_at is-c ∙ child_of_word t.table (word_on w false) in
              let y : Settles s t cs j (on true) F out m out' = subst (λ (e : Child End). Settles s t cs j e F out m out') u z in
              record {
                some = a;
                small = omega (arith, g.small);
                fewer = omega (arith, g.fewer);
                counted = rw v (omega (arith, reads_here, y.counted));
                bytes = rw v (bytes_here ∙ ap (settled_by s t cs j (on false) B) (sym y.bytes));
              }

          pub none_in_front : f ≡ 0 → {c' : Onto} → c' ≡ onto_word (word_on w false) → Left k₀ c₀ x₀ out₀ x out c' j (n + 1)
          unfolding fill
          none_in_front e {c'} is-c =
              let no : F ≡ [] = ap members e ∙ members_none 64 0 in
              let all : x - f ≡ x = omega arith in
              let none : reads_of s t cs j (on true) F ≡ 0 = ap (reads_of s t cs j (on true)) no ∙ reads_none (table s t) code_of (point_at cs) j (on true) in
              let v : child_at c' ≡ on false = ap child_at is-c ∙ child_of_word t.table (word_on w false) in
              record {
                some = g.some;
                small = g.small;
                fewer = omega (arith, g.fewer);
                counted = rw v (omega (arith, reads_here, none, ap (λ (y : ℕ). reads_of s t cs j (on false) (members y)) all));
                bytes = rw v (bytes_here ∙ ap (λ (l : List ℕ). settled_by s t cs j (on false) B (settled_by s t cs j (on true) l out)) no ∙ ap (λ (y : ℕ). settled_by s t cs j (on false) (members y) out) all);
              }

          pub all_in_front : x - f ≡ 0 → f ≤ x → {c' : Onto} → c' ≡ onto_word (word_on w true) → Left k₀ c₀ x₀ out₀ x out c' j (n + 1)
          unfolding fill
          all_in_front e m {c'} is-c =
              let no : B ≡ [] = ap members e ∙ members_none 64 0 in
              let all : f ≡ x = omega arith in
              let none : reads_of s t cs j (on false) B ≡ 0 = ap (reads_of s t cs j (on false)) no ∙ reads_none (table s t) code_of (point_at cs) j (on false) in
              let v : child_at c' ≡ on true = ap child_at is-c ∙ child_of_word t.table (word_on w true) in
              record {
                some = g.some;
                small = g.small;
                fewer = omega (arith, g.fewer);
                counted = rw v (omega (arith, reads_here, none, ap (λ (y : ℕ). reads_of s t cs j (on true) (members y)) all));
                bytes = rw v (bytes_here ∙ ap (λ (l : List ℕ). settled_by s t cs j (on false) l (settled_by s t cs j (on true) F out)) no ∙ ap (λ (y : ℕ). settled_by s t cs j (on true) (members y) out) all);
              }
