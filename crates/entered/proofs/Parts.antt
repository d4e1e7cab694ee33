-- A part of a trace and the list that its nodes are written into: each way through `write_onward`, from what the calls for its parts answered.
-- Assumes nothing.
use Prim.Native.Nat.{ℕ, suc, ◌+◌, ◌*◌, ◌^◌, ◌<◌, ◌≤◌}
use mathlib.Core.Path.{◌≡◌, refl, sym, ap, ap₂, ◌∙◌}
use mathlib.Core.Bool.{Bool, true, false, cond}
use mathlib.Core.List.{List, [], ◌∷◌, ◌++◌}
use native.Mathlib.Omega.{arith}
use borrow.Author.Tests.{ltb-true, ltb-false}
use lib.Dec.{ltb}
use lib.Ieee.{Float}
use lib.ListN.{length, set, length-append}
use lib.Seq.{sets, length-sets, set_out}
use Rattle.format.proofs.Answers.{mapped_answer, mapped_refused}
use Rattle.std.specs.Prelude.{Result}
use Rattle.std.proofs.Common.{Ok, Err}
use Rattle.format.specs.Answer as Ans
use Rattle.format.specs.Answer.{Answer, answer, mapped}
use Rattle.format.specs.Answers.{answer_of}
use Rattle.format.specs.Refusal.{number_of}
use Rattle.format.specs.declared.refusal.Refusal.{Refusal}
use Rattle.format.specs.declared.section.BspData.{BspData}
use Rattle.format.specs.declared.contents.BspLeafContents.{BspLeafContents}
use Rattle.math.specs.Vector.{zero32}
use Rattle.math.specs.declared.vector.Vector3.{Vector3}
use Rattle.phys.specs.Trace as Tr
use Rattle.phys.specs.declared.Trace.{Trace as TraceT}
use Rattle.phys.specs.declared.TraceStart.{TraceStart}
use Rattle.phys.specs.declared.TraceEnd.{TraceEnd}
use Rattle.walk.specs.Table.{Table}
use Rattle.walk.specs.Walk.{Outcome, done, refused, entered, held, ended}
use Rattle.walk.specs.Private.{after}
use Rattle.walk.specs.Tracing.{joined, with_far, recursive_trace, trace}
use Rattle.nodes.specs.Tables.{End, table_of}
use Rattle.nodes.specs.Fast as Fast
use Rattle.nodes.specs.Fast.{tables_of, contents_met}
use Rattle.nodes.specs.declared.table.HullTable.{HullTable}
use Rattle.nodes.specs.declared.table.Tables.{Tables}
use Rattle.nodes.specs.declared.read.Onto.{Onto}
use Rattle.nodes.specs.declared.read.Onto.TheVariants as O
use Rattle.nodes.specs.declared.read.Words.{Words as WordsT}
use Rattle.hull.proofs.Founds.{table_same}
use Rattle.hull.specs.Traces.{stops_at, joined_with, join_far}
use Rattle.entered.specs.Onward.{both_parts, followed, whole_of, Crosses, part_with, traced_list, says_with, resumed, Goes}
use Rattle.entered.specs.declared.traced.Way.{Way}
use Rattle.entered.specs.declared.traced.Down.{Down}
use Rattle.entered.specs.declared.traced.Down.TheVariants as D
use Rattle.entered.specs.declared.traced.Parts.{Parts}

-- ---- entries written one after the other

sets_append : (ns ms l : List ℕ) (v : ℕ) → sets l v (ns ++ ms) ≡ sets (sets l v ns) (v + length ns) ms
sets_append [] ms l v = ap (λ (k : ℕ). sets l k ms) {x = v} {y = v + 0} (omega arith)
sets_append (n ∷ ns) ms l v =
    sets_append ns ms (set l v n) (suc v) ∙ ap (λ (k : ℕ). sets (sets (set l v n) (suc v) ns) k ms) {x = suc v + length ns} {y = v + suc (length ns)} (omega arith)

-- past the end nothing is written
sets_past : (ns l : List ℕ) (v : ℕ) → length l ≤ v → sets l v ns ≡ l
sets_past [] l v h = refl
sets_past (n ∷ ns) l v h = ap (λ (m : List ℕ). sets m (suc v) ns) (set_out l v n h) ∙ sets_past ns l (suc v) (omega arith)

-- a count that is held is past the end of every list
sets_held : (ns l : List ℕ) (v : ℕ) → length l < 2 ^ 63 → sets l (held v) ns ≡ sets l v ns
sets_held ns l v short = by_test (ltb v (2 ^ 63)) refl
  where
    by_test : (b : Bool) → ltb v (2 ^ 63) ≡ b → sets l (held v) ns ≡ sets l v ns
    by_test true q = let h : v < 2 ^ 63 = ltb-true v (2 ^ 63) q in ap (λ (k : ℕ). sets l k ns) {x = held v} {y = v} (omega arith)
    by_test false q = let h : 2 ^ 63 ≤ v = ltb-false v (2 ^ 63) q in sets_past ns l (held v) (omega arith) ∙ sym (sets_past ns l v (omega arith))

-- a list as long as one that takes fewer than 2^63 bytes
pub shorter : {a b : ℕ} → a ≡ b → b * 4 < 2 ^ 63 → a < 2 ^ 63
shorter q h = omega arith

-- ---- a trace and the list

-- a node is entered
pub written_entered : (v i : ℕ) (l : List ℕ) (o : Outcome TraceT) → traced_list v l (entered i o) ≡ traced_list (v + 1) (set l v i) o
written_entered v i l (done a ns) =
    let n : v + suc (length ns) ≡ v + 1 + length ns = omega arith in
    let k : suc v ≡ v + 1 = omega arith in
    ap₂ (λ (n k : ℕ). answer ((a, held n), sets (set l v i) k ns)) n k
written_entered v i l (refused n) = refl

pub written_held : (v : ℕ) (l : List ℕ) → length l < 2 ^ 63 → (o : Outcome TraceT) → traced_list (held v) l o ≡ traced_list v l o
written_held v l short (done a ns) =
    ap₂ (λ (n : ℕ) (m : List ℕ). answer ((a, n), m)) {x = held (held v + length ns)} {y = held (v + length ns)} (omega arith) (sets_held ns l v short)
written_held v l short (refused n) = refl

written_done : (v : ℕ) (l : List ℕ) (o : Outcome TraceT) (a : TraceT) (w : ℕ) (m : List ℕ) → answer ((a, w), m) ≡ traced_list v l o
    → (ns : List ℕ) × (o ≡ done a ns) × (held (v + length ns) ≡ w) × (sets l v ns ≡ m)
written_done v l (done b ns) a w m e =
    let q : ◌≡◌ {A = (TraceT × ℕ) × List ℕ} ((b, held (v + length ns)), sets l v ns) ((a, w), m) = cc in
    (ns, ap (λ (x : (TraceT × ℕ) × List ℕ). done x.0.0 ns) q, ap (λ (x : (TraceT × ℕ) × List ℕ). x.0.1) q, ap (λ (x : (TraceT × ℕ) × List ℕ). x.1) q)
written_done v l (refused n) a w m e = let z : ◌≡◌ {A = ℕ} 0 1 = cc in absurd (omega arith)

written_refused : (v : ℕ) (l : List ℕ) (o : Outcome TraceT) (n : ℕ) → Ans.refused n ≡ traced_list v l o → o ≡ refused n
written_refused v l (done b ns) n e = let z : ◌≡◌ {A = ℕ} 0 1 = cc in absurd (omega arith)
written_refused v l (refused m) n e = cc

-- the far part joined on: its nodes are written after those of the near part
module _ (y : TraceT) (u n : ℕ) (ns l m : List ℕ) (short : length l < 2 ^ 63) (is_n : held (u + length ns) ≡ n) (is_m : sets l u ns ≡ m) (x : List ℕ) where
  after_near_lem : (ms : List ℕ) → x ≡ sets m n ms → x ≡ sets l u (ns ++ ms)
  after_near_lem ms is_x =
      is_x ∙ ap₂ (λ (a : List ℕ) (k : ℕ). sets a k ms) (sym is_m) (sym is_n)
      ∙ sets_held ms (sets l u ns) (u + length ns) (omega (arith, length-sets l u ns)) ∙ sym (sets_append ns ms l u)

  by_join : (ms : List ℕ) → x ≡ sets m n ms → (j : Answer TraceT) → mapped (λ (z : TraceT × ℕ). (z, x)) (joined_with (held (n + length ms)) j) ≡ traced_list u l (joined (ns ++ ms) j)
  by_join ms is_x (answer z) =
      ap₂ (λ (k : ℕ) (a : List ℕ). answer ((z, k), a)) {x = held (n + length ms)} {y = held (u + length (ns ++ ms))} (omega (arith, length-append ns ms)) (after_near_lem ms is_x)
  by_join ms is_x (Ans.refused k) = refl

  joins : (far : Outcome TraceT) (a : Answer (TraceT × ℕ)) → mapped (λ (z : TraceT × ℕ). (z, x)) a ≡ traced_list n m far
      → mapped (λ (z : TraceT × ℕ). (z, x)) (join_far y a) ≡ traced_list u l (with_far y ns far)
  joins (done z ms) a q =
      let k = mapped_answer (λ (z : TraceT × ℕ). (z, x)) a ((z, held (n + length ms)), sets m n ms) q in
      let is-a : a ≡ answer (z, held (n + length ms)) = k.1 ∙ ap (λ (c : (TraceT × ℕ) × List ℕ). answer c.0) k.2 in
      ap (λ (b : Answer (TraceT × ℕ)). mapped (λ (z : TraceT × ℕ). (z, x)) (join_far y b)) is-a
      ∙ by_join ms (ap (λ (c : (TraceT × ℕ) × List ℕ). c.1) k.2) (Tr.join y z)
  joins (refused k) a q =
      ap (λ (b : Answer (TraceT × ℕ)). mapped (λ (z : TraceT × ℕ). (z, x)) (join_far y b)) (mapped_refused (λ (z : TraceT × ℕ). (z, x)) a k q)

-- ---- the trace in one leaf

in_one : (f : List ℕ) (t : Tables) (v : ℕ) (l : List ℕ) (way : Way) (x : Answer BspLeafContents)
    → mapped (λ (z : TraceT × ℕ). (z, l)) (after v (ended (Fast.table f t) (λ y. Tr.new_trace way.from way.to y) x)) ≡ traced_list v l (ended (Fast.table f t) (λ y. Tr.new_trace way.from way.to y) x)
in_one f t v l way (answer y) = refl
in_one f t v l way (Ans.refused n) = refl

-- ---- the part that goes on to a child

module _ (f : List ℕ) (t : Tables) (k v : ℕ) (l : List ℕ) (way : Way) (c : Onto) where
  abbrev table : Table End BspLeafContents
  table = Fast.table f t

  abbrev whole : Answer ((TraceT × ℕ) × List ℕ)
  whole = traced_list v l (part_with f t k way c)

  -- to an end
  pub at_end : (w : ℕ) → c ≡ O.End w → (r : Result (TraceT × ℕ) Refusal) → answer_of r ≡ after v (ended table (λ y. Tr.new_trace way.from way.to y) (contents_met f t w)) → says_with l r ≡ whole
  unfolding contents_met
  at_end w is_c r is-r =
      ap (mapped (λ (z : TraceT × ℕ). (z, l))) is-r ∙ in_one f t v l way (contents_met f t w) ∙ sym (ap (λ (y : Onto). traced_list v l (part_with f t k way y)) is_c)

  -- to the node i: down to where the segment crosses a plane or ends
  module _ (i : ℕ) (is_c : c ≡ O.Node i) (l1 : List ℕ) (r : Result Down Refusal) (goes : Goes f t way.from.point way.to.point k (traced_list v l (recursive_trace table k i way.from.point way.to.point)) l1 r) where
    says : (x : Result Down Refusal) → r ≡ x → resumed f t way.from.point way.to.point l1 x ≡ whole
    says x q = ap (resumed f t way.from.point way.to.point l1) (sym q) ∙ goes.says ∙ sym (ap (λ (y : Onto). traced_list v l (part_with f t k way y)) is_c)

    pub down_refused : (x : Refusal) → r ≡ Err x → Ans.refused (number_of x) ≡ whole
    down_refused x q = says (Err x) q

    pub down_end : (w u : ℕ) → r ≡ Ok (D.End w u) → (way1 : Way) → way1 ≡ whole_of way
        → (p : Result (TraceT × ℕ) Refusal) → answer_of p ≡ after u (ended table (λ y. Tr.new_trace way1.from way1.to y) (contents_met f t w)) → says_with l1 p ≡ whole
    down_end w u q way1 is-way p is-p =
        ap (mapped (λ (z : TraceT × ℕ). (z, l1))) is-p ∙ in_one f t u l1 way1 (contents_met f t w)
        ∙ ap (λ (y : Way). traced_list u l1 (ended table (λ x. Tr.new_trace y.from y.to x) (contents_met f t w))) is-way ∙ says (Ok (D.End w u)) q

    module _ (w : WordsT) (a b : Float) (j u : ℕ) (is-d : r ≡ Ok (D.Crossing w a b j u)) where
      module _ (z : Result Parts Refusal) (is-z : Crosses f t w a b way.from.point way.to.point z) where
        crossed : (x : Result Parts Refusal) → z ≡ x → traced_list u l1 (followed f t (λ n s e. recursive_trace table j n s e) x) ≡ whole
        crossed x q = ap (λ (y : Result Parts Refusal). traced_list u l1 (followed f t (λ n s e. recursive_trace table j n s e) y)) (sym q) ∙ ap (traced_list u l1) (is-z j) ∙ says (Ok (D.Crossing w a b j u)) is-d

        pub no_plane : (x : Refusal) → z ≡ Err x → Ans.refused (number_of x) ≡ whole
        no_plane x q = crossed (Err x) q

        -- the near part, then the far part
        module _ (parts : Parts) (is_x : z ≡ Ok parts) (l2 : List ℕ) (p : Result (TraceT × ℕ) Refusal) (is-p : says_with l2 p ≡ traced_list u l1 (part_with f t j parts.to_mid parts.near)) where
          abbrev near : Outcome TraceT
          near = part_with f t j parts.to_mid parts.near

          abbrev far : Outcome TraceT
          far = part_with f t j parts.from_mid parts.far

          two : traced_list u l1 (both_parts parts.to_mid.to.point near far) ≡ whole
          two = crossed (Ok parts) is_x

          pub near_refused : (x : Refusal) → p ≡ Err x → Ans.refused (number_of x) ≡ whole
          near_refused x q =
              sym (ap (λ (o : Outcome TraceT). traced_list u l1 (both_parts parts.to_mid.to.point o far)) (written_refused u l1 near (number_of x) (sym (ap (says_with l2) q) ∙ is-p)))
              ∙ two

          module _ (y : TraceT) (n : ℕ) (is_y : p ≡ Ok (y, n)) (st? : Bool) (is-st? : st? ≡ stops_at y parts.to_mid.to.point) where
            near_done : (ns : List ℕ) × (near ≡ done y ns) × (held (u + length ns) ≡ n) × (sets l1 u ns ≡ l2)
            near_done = written_done u l1 near y n l2 (sym (ap (says_with l2) is_y) ∙ is-p)

            passed : (q : Bool) → st? ≡ q → traced_list u l1 (cond q (done y near_done.0) (with_far y near_done.0 far)) ≡ whole
            passed q e =
                ap (λ (z : Bool). traced_list u l1 (cond z (done y near_done.0) (with_far y near_done.0 far))) (sym e ∙ is-st?)
                ∙ sym (ap (λ (o : Outcome TraceT). traced_list u l1 (both_parts parts.to_mid.to.point o far)) near_done.1) ∙ two

            pub near_stops : st? ≡ true → answer ((y, n), l2) ≡ whole
            near_stops e = sym (ap (says_with l2) is_y) ∙ is-p ∙ ap (traced_list u l1) near_done.1 ∙ passed true e

            pub both : st? ≡ false → (x : List ℕ) (w : Result (TraceT × ℕ) Refusal) → says_with x w ≡ traced_list n l2 far → (res : Result (TraceT × ℕ) Refusal) → answer_of res ≡ join_far y (answer_of w) → length l1 < 2 ^ 63 → says_with x res ≡ whole
            both e x w is-w res is-res short =
                ap (mapped (λ (z : TraceT × ℕ). (z, x))) is-res
                ∙ joins y u n near_done.0 l1 l2 short near_done.2 near_done.3 x far (answer_of w) is-w ∙ passed false e

-- ---- the trace through a hull, with the tables that the readers go by

pub in_hull : (f : List ℕ) (m : BspData) (tab : HullTable) (mins maxs : Vector3) (t : Tables) → t ≡ tables_of m tab mins maxs
    → (a : TraceStart) (s : Vector3) → a ≡ Tr.start s zero32 → (b : TraceEnd) (e : Vector3) → b ≡ Tr.terminal e → (root : ℕ) (l : List ℕ)
    → traced_list 0 l (part_with f t 512 (record { from = a; to = b }) (O.Node root)) ≡ traced_list 0 l (trace (table_of f m tab mins maxs) root s e)
in_hull f m tab mins maxs t is-t a s is-a b e is_b root l =
    rw (is-a, is_b) (ap (λ (T : Table End BspLeafContents). traced_list 0 l (trace T root s e)) (table_same f m tab mins maxs t is-t))
