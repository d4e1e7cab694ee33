-- A group goes down: the invariant of the loop, and each way out of it.
use Prim.Native.Nat.{ℕ, suc, ◌+◌, ◌-◌, ◌<◌, ◌≤◌}
use native.Mathlib.Omega.{arith}
use native.Mathlib.Nat.{mul-le-mul_left}
use mathlib.Core.Bool.{true, false}
use mathlib.Core.List.{List, [], ◌∷◌, ◌++◌, append-nil}
use mathlib.Core.Path.{◌≡◌, refl, sym, ◌∙◌, ap, subst}
use lib.Ieee.{Float}
use lib.ListN.{length, take, drop, length-append}
use lib.Seq.{take_at, drop_at}
use Rattle.format.specs.Contents.{code_of}
use Rattle.math.specs.declared.plane.Hyperplane.{Hyperplane}
use Rattle.walk.specs.Table.{Child}
use Rattle.walk.specs.Walk.{Entered}
use Rattle.nodes.specs.Tables.{End}
use Rattle.nodes.proofs.Entering.{child_of_word}
use Rattle.nodes.specs.Fast.{onto_child, onto_word, table, child_of, node_of, word_on}
use Rattle.nodes.specs.declared.table.Tables.{Tables}
use Rattle.nodes.specs.declared.read.Words.{Words as WordsT}
use Rattle.ways.specs.Groups.{settled, onward, meets, fill, fronts, backs}
use Rattle.ways.proofs.Divided.{reads_none, settled_reads, settled_bytes, some_left, divided_reads, divided_bytes, divided_other, reads_most, kept_length}
use Rattle.points.specs.Going.{point_at, meeting_meets, met, reads_of, settled_by, Settles, PairIs, TwoSettled, Divides, Went}
use Rattle.nodes.specs.declared.read.Onto.{Onto}
use Rattle.points.specs.declared.one.Pair.{Pair}
use Rattle.points.specs.declared.group.Meeting.{Meeting}
use Rattle.points.specs.declared.group.Meeting.TheVariants as M
use Rattle.points.specs.declared.group.Down.{Down}
use Rattle.points.specs.declared.group.Down.TheVariants as D

no_entry : (l : List ℕ) → length l ≡ 0 → l ≡ []
no_entry [] e = refl
no_entry (x ∷ l) e = absurd (omega arith)

module _ (s : List ℕ) (t : Tables) (cs : List Float) where
  abbrev child_at : Onto → Child End
  child_at c = onto_child t.table c

  -- so far n reads; the group now stands before c, with k nodes more to enter, and what is left to do is what there was to do at first
  pub record Gone (k₀ : ℕ) (c₀ : Onto) (ids₀ aside₀ out₀ : List ℕ) (ids aside out : List ℕ) (c : Onto) (k n : ℕ) : Type 0 where
    pub some : 0 < length ids
    pub as_long : length ids ≡ length ids₀
    pub as_wide : length aside ≡ length aside₀
    pub room : length ids ≤ length aside
    pub kept : out ≡ out₀
    pub fewer : n + k ≤ k₀
    pub counted : reads_of s t cs k₀ (child_at c₀) ids₀ ≡ n + reads_of s t cs k (child_at c) ids
    pub bytes : settled_by s t cs k₀ (child_at c₀) ids₀ out₀ ≡ settled_by s t cs k (child_at c) ids out₀

  pub gone_none : {k : ℕ} {c : Onto} {ids aside out : List ℕ} → 0 < length ids → length ids ≤ length aside → Gone k c ids aside out ids aside out c k 0
  gone_none h r =
      record { some = h; as_long = refl; as_wide = refl; room = r; kept = refl; fewer = omega arith; counted = omega arith; bytes = refl }

  module _ {k₀ : ℕ} {c₀ : Onto} {ids₀ aside₀ out₀ ids aside out : List ℕ} {c : Onto} {k n : ℕ} (g : Gone k₀ c₀ ids₀ aside₀ out₀ ids aside out c k n) (r : Meeting) (is-r : meeting_meets t.table r ≡ met s t k c) where
    pub at_rest : {b : ℕ} → r ≡ M.Settled b → {out' : List ℕ} → out' ≡ fill (λ q. b) ids out → Settles s t cs k₀ (child_at c₀) ids₀ out₀ n out'
    at_rest {b} q {out'} e =
        let m : met s t k c ≡ settled b = sym is-r ∙ ap (meeting_meets t.table) q in
        let z : reads_of s t cs k (child_at c) ids ≡ 0 = settled_reads (table s t) code_of (point_at cs) (child_at c) b k m ids in
        record {
          counted = omega (arith, g.counted, z);
          bytes = e ∙ ap (fill (λ q. b) ids) g.kept ∙ sym (settled_bytes (table s t) code_of (point_at cs) (child_at c) b k m ids out₀) ∙ sym g.bytes;
        }

    module _ {w : WordsT} {h : Hyperplane} (q : r ≡ M.Node w h) where
      abbrev entered : Entered End
      entered = record { nd = node_of t.table w; plane = h }

      is_node : met s t k c ≡ onward entered
      is_node = sym is-r ∙ ap (meeting_meets t.table) q

      pub may_enter : 0 < k
      may_enter = some_left (table s t) code_of (point_at cs) (child_at c) entered k is_node

      abbrev j : ℕ
      j = k - 1

      one_less : k ≡ suc j
      one_less = omega (arith, may_enter)

      is_node' : meets (table s t) code_of (suc j) (child_at c) ≡ onward entered
      is_node' = ap (λ (x : ℕ). met s t x c) (sym one_less) ∙ is_node

      abbrev F : List ℕ
      F = fronts (point_at cs) h ids

      abbrev B : List ℕ
      B = backs (point_at cs) h ids

      reads_here : reads_of s t cs k (child_at c) ids ≡ suc (reads_of s t cs j (child_of t.table (word_on w true)) F + reads_of s t cs j (child_of t.table (word_on w false)) B)
      reads_here = ap (λ (x : ℕ). reads_of s t cs x (child_at c) ids) one_less ∙ divided_reads (table s t) code_of (point_at cs) (child_at c) entered j is_node' ids g.some

      bytes_here : settled_by s t cs k (child_at c) ids out₀ ≡ settled_by s t cs j (child_of t.table (word_on w false)) B (settled_by s t cs j (child_of t.table (word_on w true)) F out₀)
      bytes_here = ap (λ (x : ℕ). settled_by s t cs x (child_at c) ids out₀) one_less ∙ divided_bytes (table s t) code_of (point_at cs) (child_at c) entered j is_node' ids out₀

      other_here : settled_by s t cs k (child_at c) ids out₀ ≡ settled_by s t cs j (child_of t.table (word_on w true)) F (settled_by s t cs j (child_of t.table (word_on w false)) B out₀)
      other_here = ap (λ (x : ℕ). settled_by s t cs x (child_at c) ids out₀) one_less ∙ divided_other (table s t) code_of (point_at cs) (child_at c) entered j is_node' ids out₀

      module _ {l : List ℕ} {f : ℕ} (parts : (l ≡ F ++ B) × (f ≡ length F)) where
        long : length l ≡ length ids
        long = ap length parts.0 ∙ length-append F B ∙ kept_length _ ids

        halves : length l ≡ f + length B
        halves = ap length parts.0 ∙ length-append F B ∙ ap (λ (x : ℕ). x + length B) (sym parts.1)

        first_part : take f l ≡ F
        first_part = ap (take f) parts.0 ∙ take_at F B f (sym parts.1)

        second_part : drop f l ≡ B
        second_part = ap (drop f) parts.0 ∙ drop_at F B f (sym parts.1)

        pub divided : 0 < f → f < length l → Divides s t cs k₀ (child_at c₀) ids₀ out₀ w f j (n + 1) l out
        divided a b =
            record {
              some = a;
              not_all = b;
              as_long = long ∙ g.as_long;
              kept = g.kept;
              fewer = omega (arith, g.fewer);
              counted = rw (first_part, second_part) (omega (arith, g.counted, reads_here));
              bytes = rw (first_part, second_part) (g.bytes ∙ bytes_here);
              other = rw (first_part, second_part) (g.bytes ∙ other_here);
            }

        -- two points go apart and are settled
        pub ends_two : 0 < f → f < length l → length l ≡ 2 → {m : ℕ} {out' : List ℕ} → TwoSettled s t cs j w l out m out' → Settles s t cs k₀ (child_at c₀) ids₀ out₀ (n + 1 + m) out'
        ends_two a b e {m} {out'} z =
            let one : f ≡ 1 = omega (arith, a, b, e) in
            let d : Divides s t cs k₀ (child_at c₀) ids₀ out₀ w 1 j (n + 1) l out = subst (λ (x : ℕ). Divides s t cs k₀ (child_at c₀) ids₀ out₀ w x j (n + 1) l out) one (divided a b) in
            record {
              counted = omega (arith, d.counted, z.counted);
              bytes = z.bytes ∙ ap (λ (x : List ℕ). settled_by s t cs j (child_of t.table (word_on w false)) (drop 1 l) (settled_by s t cs j (child_of t.table (word_on w true)) (take 1 l) x)) d.kept ∙ sym d.bytes;
            }

        module _ (aside' : List ℕ) (wide : length aside' ≡ length aside) {c' : Onto} where
          pub all_behind : f ≡ 0 → c' ≡ onto_word (word_on w false) → Gone k₀ c₀ ids₀ aside₀ out₀ l aside' out c' j (n + 1)
          unfolding fill
          all_behind z e =
              let d : child_at c' ≡ child_of t.table (word_on w false) = ap child_at e ∙ child_of_word t.table (word_on w false) in
              let no : F ≡ [] = no_entry F (sym parts.1 ∙ z) in
              let is : l ≡ B = parts.0 ∙ ap (λ (x : List ℕ). x ++ B) no in
              let none : reads_of s t cs j (child_of t.table (word_on w true)) F ≡ 0 = ap (reads_of s t cs j (child_of t.table (word_on w true))) no ∙ reads_none (table s t) code_of (point_at cs) j (child_of t.table (word_on w true)) in
              record {
                some = omega (arith, long, g.some);
                as_long = long ∙ g.as_long;
                as_wide = wide ∙ g.as_wide;
                room = omega (arith, long, wide, g.room);
                kept = g.kept;
                fewer = omega (arith, g.fewer, may_enter);
                counted = rw (d, is) (omega (arith, g.counted, reads_here, none));
                bytes = rw (d, is) (g.bytes ∙ bytes_here ∙ ap (λ (x : List ℕ). settled_by s t cs j (child_of t.table (word_on w false)) B (settled_by s t cs j (child_of t.table (word_on w true)) x out₀)) no ∙ nothing);
              }
            where
              nothing : settled_by s t cs j (child_of t.table (word_on w false)) B (settled_by s t cs j (child_of t.table (word_on w true)) [] out₀) ≡ settled_by s t cs j (child_of t.table (word_on w false)) B out₀
              nothing = refl

          pub all_in_front : length l ≤ f → c' ≡ onto_word (word_on w true) → Gone k₀ c₀ ids₀ aside₀ out₀ l aside' out c' j (n + 1)
          unfolding fill
          all_in_front z e =
              let d : child_at c' ≡ child_of t.table (word_on w true) = ap child_at e ∙ child_of_word t.table (word_on w true) in
              let no : B ≡ [] = no_entry B (omega (arith, halves)) in
              let is : l ≡ F = parts.0 ∙ ap (λ (x : List ℕ). F ++ x) no ∙ append-nil F in
              let none : reads_of s t cs j (child_of t.table (word_on w false)) B ≡ 0 = ap (reads_of s t cs j (child_of t.table (word_on w false))) no ∙ reads_none (table s t) code_of (point_at cs) j (child_of t.table (word_on w false)) in
              record {
                some = omega (arith, long, g.some);
                as_long = long ∙ g.as_long;
                as_wide = wide ∙ g.as_wide;
                room = omega (arith, long, wide, g.room);
                kept = g.kept;
                fewer = omega (arith, g.fewer, may_enter);
                counted = rw (d, is) (omega (arith, g.counted, reads_here, none));
                bytes = rw (d, is) (g.bytes ∙ bytes_here ∙ ap (λ (x : List ℕ). settled_by s t cs j (child_of t.table (word_on w false)) x (settled_by s t cs j (child_of t.table (word_on w true)) F out₀)) no ∙ nothing);
              }
            where
              nothing : settled_by s t cs j (child_of t.table (word_on w false)) [] (settled_by s t cs j (child_of t.table (word_on w true)) F out₀) ≡ settled_by s t cs j (child_of t.table (word_on w true)) F out₀
              nothing = refl

  -- the reads are few enough for 64 bits
  pub few_reads : (k : ℕ) (c : Child End) (ids : List ℕ) → k < 4294967296 → length ids ≤ 1024 → reads_of s t cs k c ids ≤ 4398046511104
  few_reads k c ids h m =
      omega (arith, reads_most (table s t) code_of (point_at cs) k c ids, mul-le-mul_left k m)

  pub two_few : (k : ℕ) (w : WordsT) (ids before : List ℕ) (n : ℕ) (out : List ℕ) → k < 4294967296 → length ids ≡ 2 → TwoSettled s t cs k w ids before n out → n ≤ 8796093022208
  two_few k w [] before n out h e z = absurd (omega (arith, e))
  two_few k w (x ∷ []) before n out h e z = absurd (omega (arith, e))
  two_few k w (x ∷ y ∷ []) before n out h e z =
      omega (arith, z.counted, few_reads k (child_of t.table (word_on w true)) (x ∷ []) h (omega arith), few_reads k (child_of t.table (word_on w false)) (y ∷ []) h (omega arith))
  two_few k w (x ∷ y ∷ v ∷ l) before n out h e z = absurd (omega (arith, e))

  pub pair_few : (k : ℕ) (w : WordsT) (p q : ℕ) (r : Pair) → k < 4294967296 → PairIs s t cs k w p q r → r.first.reads + r.second.reads ≤ 8796093022208
  pair_few k w p q r h z =
      omega (arith, z.0.counted, z.1.counted, few_reads k (child_of t.table (word_on w true)) (p ∷ []) h (omega arith), few_reads k (child_of t.table (word_on w false)) (q ∷ []) h (omega arith))

  -- what going down says, by its answer
  module _ (k : ℕ) (c : Child End) (ids before : List ℕ) (r : Down) (l out : List ℕ) (h : Went s t cs k c ids before r l out) where
    pub went_settled : (n : ℕ) → r ≡ D.Settled n → Settles s t cs k c ids before n out
    went_settled n e = subst (λ (x : Down). Went s t cs k c ids before x l out) e h

    pub went_divided : (w : WordsT) (f j n : ℕ) → r ≡ D.Divided w f j n → Divides s t cs k c ids before w f j n l out
    went_divided w f j n e = subst (λ (x : Down). Went s t cs k c ids before x l out) e h
