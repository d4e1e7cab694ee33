-- The child on a side, and the two parts of a segment that crosses a plane.
-- Assumes nothing.
use Rattle.std.specs.Prelude.{Result, Ok, Err}
use Prim.Native.Nat.{ℕ}
use Rattle.format.specs.Answers.{answer_of}
use mathlib.Core.Path.{◌≡◌, refl, sym, ap, ap₂, ◌∙◌}
use mathlib.Core.Bool.{Bool, true, false, cond}
use mathlib.Core.List.{List}
use lib.Ieee.{Float}
use Rattle.format.specs.declared.refusal.Refusal.{Refusal}
use Rattle.format.specs.declared.contents.BspLeafContents.{BspLeafContents}
use Rattle.math.specs.Plane as Pl
use Rattle.math.specs.Vector.{zero32}
use Rattle.math.specs.declared.vector.Vector3.{Vector3}
use Rattle.math.specs.declared.plane.Hyperplane.{Hyperplane}
use Rattle.math.specs.declared.plane.HyperplaneSide.{HyperplaneSide}
use Rattle.math.specs.declared.plane.PointIntersection.{PointIntersection as Crossing}
use Rattle.phys.specs.Trace as Tr
use Rattle.phys.specs.declared.Trace.{Trace as TraceT}
use Rattle.phys.specs.declared.TraceStart.{TraceStart}
use Rattle.phys.specs.declared.TraceEnd.{TraceEnd}
use Rattle.walk.specs.Table.{Child, Node, Table, child_on}
use Rattle.walk.specs.Walk.{Outcome, done, refused, onto}
use Rattle.walk.specs.Tracing.{with_far, stops, near_of, far_of, after_near, with_near, recursive_trace}
use Rattle.nodes.specs.Tables.{End}
use Rattle.nodes.specs.Fast.{node_of, onto_word, onto_child, word_on, plane_in}
use Rattle.nodes.specs.Fast as Fast
use Rattle.nodes.specs.declared.table.HullTable.{HullTable}
use Rattle.nodes.specs.declared.table.Tables.{Tables}
use Rattle.nodes.specs.declared.read.Onto.{Onto}
use Rattle.nodes.specs.declared.read.Words.{Words as WordsT}
use Rattle.hull.specs.Traces.{crossed_at}
use Rattle.nodes.proofs.Entering.{child_is, child_of_word}
use Rattle.entered.specs.Onward.{both_parts, Crosses}

-- ---- the child on a side

module _ (tab : HullTable) (w : WordsT) where
  pub child_goes : (side : HyperplaneSide) (b : Bool) → Pl.side_if b ≡ side → (c : Onto) → c ≡ onto_word (word_on w b) → onto_child tab c ≡ child_on (node_of tab w) side
  child_goes side b q c is_c =
      ap (onto_child tab) is_c ∙ child_of_word tab (word_on w b) ∙ sym (child_is tab w b) ∙ ap (child_on (node_of tab w)) q

-- ---- a crossing whose ends are at the distances a and b

module _ (f : List ℕ) (t : Tables) (s e : Vector3) (w : WordsT) (a b₀ : Float) (p : Result Hyperplane Refusal) (is-p : answer_of p ≡ plane_in f t w.plane) where
  abbrev T : Table End BspLeafContents
  T = Fast.table f t

  abbrev nd : Node End
  nd = node_of t.table w

  pub no_plane : (x : Refusal) → p ≡ Err x → Crosses f t w a b₀ s e (Err x)
  no_plane x q k = ap (crossed_at T k nd s e a b₀) (sym (ap answer_of q) ∙ is-p)

  module _ (h : Hyperplane) (q : p ≡ Ok h) where
    abbrev x : Crossing
    x = Pl.crossing h s e a b₀ (Pl.from_dist a)

    module _ (k : ℕ) where
      abbrev go : ℕ → Vector3 → Vector3 → Outcome TraceT
      go n s e = recursive_trace T k n s e

      by_stop : (near : TraceT) (ns : List ℕ) (b : Bool) → cond b (done near ns) (with_far near ns (far_of T go nd h s e x)) ≡ after_near T go nd h s e x near ns b
      by_stop near ns true = refl
      by_stop near ns false = refl

      both_are : (o : Outcome TraceT) → both_parts x.point o (far_of T go nd h s e x) ≡ with_near T go nd h s e x o
      both_are (done near ns) = by_stop near ns (stops near x)
      both_are (refused n) = refl

      abbrev parts : Child End → Child End → Outcome TraceT
      parts c c' =
          both_parts x.point
          (onto T (λ n. go n s x.point) (λ y. Tr.new_trace (Tr.start s zero32) (Tr.boundary x.point x.ratio (Pl.facing (Pl.point_side h s) h)) y) c)
          (onto T (λ n. go n x.point e) (λ y. Tr.new_trace (Tr.start x.point x.ratio) (Tr.terminal e) y) c')

      crossed : (c c' : Child End) → c ≡ child_on nd (Pl.point_side h s) → c' ≡ child_on nd (Pl.point_side h e) → parts c c' ≡ crossed_at T k nd s e a b₀ (plane_in f t w.plane)
      crossed c c' is_c is-c' =
          ap₂ (λ (y y' : Child End). parts y y') is_c is-c'
          ∙ both_are (near_of T go nd h s e x) ∙ ap (crossed_at T k nd s e a b₀) (sym (ap answer_of q) ∙ is-p)

    pub crosses : (mid : Vector3) → mid ≡ x.point
        → (side : HyperplaneSide) → side ≡ Pl.point_side h s → (side' : HyperplaneSide) → side' ≡ Pl.point_side h e
        → (from : TraceStart) → from ≡ Tr.start s zero32
        → (turned : Hyperplane) → turned ≡ Pl.facing side h → (to : TraceEnd) → to ≡ Tr.boundary mid x.ratio turned
        → (from' : TraceStart) → from' ≡ Tr.start mid x.ratio → (to' : TraceEnd) → to' ≡ Tr.terminal e
        → (b : Bool) → Pl.side_if b ≡ side → (c : Onto) → c ≡ onto_word (word_on w b)
        → (b' : Bool) → Pl.side_if b' ≡ side' → (c' : Onto) → c' ≡ onto_word (word_on w b')
        → Crosses f t w a b₀ s e (Ok (record { near = c; to_mid = record { from = from; to = to }; far = c'; from_mid = record { from = from'; to = to' } }))
    crosses mid is-mid side is_side side' is-side' from is-from turned is_turned to is-to from' is-from' to' is-to' b qb c is_c b' qb' c' is-c' k =
        rw (is-from, is-to ∙ ap₂ (λ (m : Vector3) (y : Hyperplane). Tr.boundary m x.ratio y) is-mid (is_turned ∙ ap (λ (y : HyperplaneSide). Pl.facing y h) is_side), is-from' ∙ ap (λ (m : Vector3). Tr.start m x.ratio) is-mid, is-to')
        (crossed k (onto_child t.table c) (onto_child t.table c')
        (child_goes t.table w (Pl.point_side h s) b (qb ∙ is_side) c is_c)
        (child_goes t.table w (Pl.point_side h e) b' (qb' ∙ is-side') c' is-c'))
