-- The ways out of the call.
use Prim.Native.Nat.{ℕ, ◌/◌, ◌%◌, ◌<◌, ◌≤◌}
use native.Mathlib.Omega.{arith}
use native.Mathlib.Nat.{div-add-mod'}
use mathlib.Core.Bool.{Bool, true, false, cond}
use mathlib.Core.List.{List}
use mathlib.Core.Path.{◌≡◌, refl, sym, ◌∙◌, ap}
use borrow.Author.Tests.{lt-ltb, le-ltb, eq-eqb, ne_eqb}
use lib.Dec.{ltb}
use lib.Ieee.{Float}
use lib.ListN.{length}
use Rattle.format.specs.Answer.{Answer, then_answer}
use Rattle.words.specs.Words.{Left, left, enough, listed_in, map_of}
use Rattle.hull.specs.Hull.{hull_table}
use Rattle.points.specs.Points.{points_of, not_points, codes_and_reads, filled}
use Rattle.points.proofs.Finished.{points_count}
use Rattle.ffi_hull.specs.Layout.{hull_asked, hull_from}
use Rattle.ffi_points.specs.Calls.{bsp_contents_points}

-- what is asked of a hull
abbrev pub asked : List ℕ → List ℕ → List ℕ → List Float → Answer (List ℕ × ℕ)
asked s map hull cs = then_answer (hull_from hull) (λ h. codes_and_reads (hull_table s (map_of map) h) h.node_id (points_of cs))

module _ (s map hull : List ℕ) (cs : List Float) (list out : List ℕ) where
  abbrev call : Left
  call = bsp_contents_points s map hull cs list out

  pub too_many : 3072 < length cs → left 24 list out ≡ call
  unfolding bsp_contents_points
  too_many h = rw (lt-ltb 3072 (length cs) h)

  module _ (few : length cs ≤ 3072) where
    pub not_in_threes : (length cs % 3 ≡ 0 → ⊥) → left 24 list out ≡ call
    unfolding bsp_contents_points
    not_in_threes h = rw (le-ltb 3072 (length cs) few, ne_eqb (length cs % 3) 0 h)

    module _ (in-threes : length cs % 3 ≡ 0) where
      abbrev rest : Left
      rest = enough 31 map list out (enough hull_asked hull list out (enough 1 out list out (enough (length (points_of cs)) list list out (listed_in (filled (asked s map hull cs) list) out))))

      are_points : not_points cs ≡ false
      are_points = rw (le-ltb 3072 (length cs) few, eq-eqb (length cs % 3) 0 in-threes)

      opened : call ≡ rest
      unfolding bsp_contents_points
      opened = ap (λ (b : Bool). cond b (left 24 list out) rest) are_points

      count : length (points_of cs) ≡ length cs / 3
      count = points_count cs (length cs / 3) (omega (arith, div-add-mod' (length cs) 3))

      all_short : (a b c : Bool) → cond a (left 22 list out) (cond b (left 22 list out) (cond c (left 22 list out) (left 22 list out))) ≡ left 22 list out
      all_short true b c = refl
      all_short false true c = refl
      all_short false false true = refl
      all_short false false false = refl

      pub short_list : length list < length cs / 3 → left 22 list out ≡ call
      short_list e =
          let e' : length list < length (points_of cs) = omega (arith, count) in
          sym (opened ∙ simp (lt-ltb _ _ e') (all_short (ltb (length map) 31) (ltb (length hull) hull_asked) (ltb (length out) 1)))

      pub opened_at : length cs / 3 ≤ length list
          → enough 31 map list out (enough hull_asked hull list out (enough 0 cs list out (enough 1 out list out (listed_in (filled (asked s map hull cs) list) out)))) ≡ call
      opened_at e = let e' : length (points_of cs) ≤ length list = omega (arith, count) in sym (opened ∙ simp (le-ltb _ _ e', le-ltb (length cs) 0 (omega arith)))
