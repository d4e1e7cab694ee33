-- What the readers of rows say of a row, of a child and of a plane, as the laws of a segment's way down and of a crossing over any table ask
-- for it (hull/proofs/Descents.antt, Crossings.antt). A row's end is contents. Assumes nothing.
use Prim.Native.Nat.{ℕ, ◌-◌, ◌<◌, ◌≤◌}
use mathlib.Core.Path.{◌≡◌, refl, sym, ap, ◌∙◌}
use mathlib.Core.Bool.{Bool}
use mathlib.Core.List.{List}
use lib.Ieee.{Float}
use lib.IntN.{ℤ}
use Rattle.format.proofs.Answers.{mapped_answer, mapped_refused}
use Rattle.std.specs.Prelude.{Result}
use Rattle.std.proofs.Common.{Ok, Err}
use Rattle.format.specs.Answer as Ans
use Rattle.format.specs.Answer.{Answer, answer, mapped}
use Rattle.format.specs.Code.{contents_of}
use Rattle.format.specs.Answers.{answer_of}
use Rattle.format.specs.Refusal.{number_of}
use Rattle.format.specs.declared.refusal.Refusal.{Refusal}
use Rattle.format.specs.declared.contents.BspLeafContents.{BspLeafContents}
use Rattle.math.specs.Plane as Pl
use Rattle.math.specs.declared.vector.Vector3.{Vector3}
use Rattle.math.specs.declared.plane.Hyperplane.{Hyperplane}
use Rattle.walk.specs.Table.{child_on}
use Rattle.walk.specs.Walk.{enter, meet}
use Rattle.walk.specs.Ordered.{Row, row_at}
use Rattle.nodes.specs.Fast.{two_dists, dists_from}
use Rattle.nodes.specs.Numbered.{plane_numbered}
use Rattle.hull.specs.Traces as Traces
use Rattle.hull.specs.Traces.{met_node, met_contents}
use Rattle.hull.proofs.Descents.{seen_of, plane_of}
use Rattle.ordered.specs.Rows.{coded_contents, row_of, word_on, rows, met_child, row_answer, row_and_dists, dists_answer}
use Rattle.ordered.specs.declared.rows.RowWords.{RowWords}
use Rattle.hull.specs.declared.tracing.MetChild.{MetChild}
use Rattle.hull.specs.declared.tracing.MetChild.TheVariants as M
use Rattle.ordered.proofs.Laws.{child_node, child_end, made, made_no_plane}

-- ---- the distances that were told

module _ (a : Answer Hyperplane) (p q : Vector3) (r : Result (Float × Float) Refusal) (e : answer_of r ≡ dists_from p q a) where
  pub no_dists : (x : Refusal) → r ≡ Err x → a ≡ Ans.refused (number_of x)
  no_dists x u = mapped_refused (two_dists p q) a (number_of x) (sym e ∙ ap answer_of u)

  pub dists_of : (x y : Float) → r ≡ Ok (x, y) → (h : Hyperplane) × (a ≡ answer h) × (◌≡◌ {A = Float × Float} (two_dists p q h) (x, y))
  dists_of x y u = mapped_answer (two_dists p q) a (x, y) (sym e ∙ ap answer_of u)

pub with_dists : (nd : Row) (p q : Vector3) (h : Hyperplane) (x y : Float) → ◌≡◌ {A = Float × Float} (two_dists p q h) (x, y) → ◌≡◌ {A = Row × (Float × Float)} (nd, (x, y)) (row_and_dists p q (record { nd = nd; plane = h }))
with_dists nd p q h x y e = ap (λ (z : Float × Float). (nd, z)) (sym e)

-- a row that was read, with the distances from its plane
module _ (bs : List ℕ) (count : ℕ) (ws : List ℤ) (p q : Vector3) (i : ℕ) (r : Result RowWords Refusal) (is-r : row_answer r ≡ row_at ws i) (w : RowWords) (g : r ≡ Ok w) (d : Result (Float × Float) Refusal)
    (is-d : answer_of d ≡ dists_from p q (plane_numbered bs count w.plane)) where
  pub made_dists : (x y : Float) → d ≡ Ok (x, y) → answer (row_of w, (x, y)) ≡ mapped (row_and_dists p q) (enter (rows bs count ws) i)
  made_dists x y u =
      let h = dists_of (plane_numbered bs count w.plane) p q d is-d x y u in
      made bs count ws (row_and_dists p q) i r is-r w g h.0 h.1 (row_of w, (x, y)) (with_dists (row_of w) p q h.0 x y h.2)

  pub no_made : (x : Refusal) → d ≡ Err x → Ans.refused (number_of x) ≡ mapped (row_and_dists p q) (enter (rows bs count ws) i)
  no_made x u = made_no_plane bs count ws (row_and_dists p q) i r is-r w g (number_of x) (no_dists (plane_numbered bs count w.plane) p q d is-d x u)

-- ---- at a row of the table

module _ (bs : List ℕ) (count : ℕ) (ws : List ℤ) where
  -- the plane of a number
  pub plane_same : (i : ℕ) → plane_numbered bs count i ≡ plane_of (rows bs count ws) i
  unfolding plane_numbered
  plane_same i = refl

  -- a row and the distances
  module _ (i : ℕ) (s e : Vector3) (r : Result (RowWords × Float × Float) Refusal) (is-r : dists_answer r ≡ mapped (row_and_dists s e) (enter (rows bs count ws) i)) where
    pub not_seen : (x : Refusal) → r ≡ Err x → Ans.refused (number_of x) ≡ mapped (seen_of s e) (enter (rows bs count ws) i)
    not_seen x q = sym (ap dists_answer q) ∙ is-r

    pub seen : (w : RowWords) (a b : Float) → r ≡ Ok (w, a, b) → answer (row_of w, (a, b)) ≡ mapped (seen_of s e) (enter (rows bs count ws) i)
    seen w a b q = sym (ap dists_answer q) ∙ is-r

  -- the child on a side
  module _ (w : RowWords) (b : Bool) where
    abbrev child : Traces.Met
    child = Traces.met_child (rows bs count ws) (child_on (row_of w) (Pl.side_if b))

    module _ (word : ℕ) (is_word : word ≡ word_on w b) where
      pub meets_node : word < 2147483648 → child ≡ met_node word
      meets_node h = ap (Traces.met_child (rows bs count ws)) (child_node w b word is_word h)

      pub meets_end : 2147483648 ≤ word → (c : BspLeafContents) → c ≡ coded_contents (contents_of (4294967296 - word)) → child ≡ met_contents c
      unfolding meet
      meets_end h c is_c = ap (Traces.met_child (rows bs count ws)) (child_end w b word is_word h c is_c)

    module _ (m : MetChild) (is_m : met_child m ≡ child_on (row_of w) (Pl.side_if b)) where
      pub meets_place : (i : ℕ) → m ≡ M.Node i → child ≡ met_node i
      meets_place i q = sym (ap (Traces.met_child (rows bs count ws)) (sym (ap met_child q) ∙ is_m))

      pub meets_contents : (c : BspLeafContents) → m ≡ M.Contents c → child ≡ met_contents c
      unfolding meet
      meets_contents c q = sym (ap (Traces.met_child (rows bs count ws)) (sym (ap met_child q) ∙ is_m))
