-- A plane as its bytes: what the reader at a position makes of them, and what a plane of a type says of a point.
-- Assumes nothing.
use Rattle.std.specs.Prelude.{Result, Ok, Err}
use Rattle.std.proofs.Common.{◌≡◌, ℕ, zero, suc, ◌+◌, ◌<◌, ◌≤◌, Bool, true, false, ltb, List, length, get_or, sym, refl, ap, ◌∙◌, arith, w32, to_z, ltb-false, ltb-true, le-ltb, lt-ltb, ne_eqb}
use Rattle.format.specs.Answers.{answer_of}
use lib.Ieee as Ieee
use lib.Ieee.{Float, binary32, nan}
use Rattle.format.specs.Answer as Ans
use Rattle.format.specs.Answer.{answer, then_answer}
use Rattle.format.specs.Step.{ok}
use Rattle.math.specs.Plane as Pl
use Rattle.math.specs.declared.vector.Vector3.{Vector3}
use Rattle.math.specs.declared.plane.Hyperplane.{Hyperplane}
use Rattle.math.specs.declared.plane.HyperplaneSide.{HyperplaneSide}
use Rattle.math.specs.declared.plane.HyperplaneSide.TheVariants.{Positive, Negative}
use Rattle.records.specs.Triple.{vector_at}
use Rattle.records.specs.Plane.{file_plane, plane_at}
use Rattle.format.specs.Refusal.{number_of}
use Rattle.format.specs.declared.refusal.Refusal.{Refusal}
use Rattle.nodes.specs.Fast.{u32, f32, along, point_of, normal, place_in, plane_with, plane_here, plane_read, plane_for, plane_of_index, plane_in, box_plane, two_dists}
use Rattle.nodes.specs.Tables.{is_box}
use Rattle.nodes.specs.declared.table.HullTable.{HullTable}
use Rattle.nodes.specs.declared.table.HullTable.TheVariants.{Render, Clip, Box}
use Rattle.nodes.specs.declared.table.Tables.{Tables}
use Rattle.nodes.proofs.Places.{within}
use Rattle.nodes.proofs.Numbers.{low, high, i32_is, f32_is}

by_half : (k : ℕ) (n : Vector3) (d : Float) (b : Bool) → ltb k 2147483648 ≡ b → file_plane (to_z w32 k) n d ≡ plane_with k n d
unfolding file_plane plane_with
by_half k n d true q = rw (low w32 k (ltb-true k 2147483648 q))
by_half k n d false q =
    let h = ltb-false k 2147483648 q in
    rw (high w32 k h) (simp (ne_eqb k 0 (λ e. omega arith), ne_eqb k 1 (λ e. omega arith), ne_eqb k 2 (λ e. omega arith)))

module _ (s : List ℕ) (at : ℕ) (h : at + 20 ≤ length s) where
  y_place : at + 4 + 4 ≡ at + 8
  y_place = omega arith

  dist_place : at + 8 + 4 ≡ at + 12
  dist_place = omega arith

  kind_place : at + 12 + 4 ≡ at + 16
  kind_place = omega arith

  vector_is : vector_at s at ≡ ok (normal s at) (at + 12)
  unfolding vector_at
  vector_is = rw (f32_is s at (omega arith), f32_is s (at + 4) (omega arith), y_place, f32_is s (at + 8) (omega arith), dist_place)

  pub plane_is : plane_read s at ≡ answer (plane_here s at)
  unfolding plane_read plane_at plane_here
  plane_is = rw (vector_is, f32_is s (at + 12) (omega arith), kind_place, i32_is s (at + 16) (omega arith)) (ap answer (by_half (u32 s (at + 16)) (normal s at) (f32 s (at + 12)) (ltb (u32 s (at + 16)) 2147483648) refl))

-- the coordinate along an axis, by its number
pub coordinate_of_lem : (l : List Float) (k : ℕ) → k < 3 → get_or l k nan ≡ along (point_of l) k
coordinate_of_lem l zero h = refl
coordinate_of_lem l (suc zero) h = refl
coordinate_of_lem l (suc (suc zero)) h = refl
coordinate_of_lem l (suc (suc (suc k))) h = absurd (omega arith)

-- an axis plane, by its type
module _ (k : ℕ) (n : Vector3) (d : Float) where
  pub axis_side : (p : Vector3) → k < 3 → Pl.side_if (Ieee.le d (along p k)) ≡ Pl.point_side (plane_with k n d) p
  unfolding plane_with
  axis_side p h = by k h
    where
      by : (j : ℕ) → j < 3 → Pl.side_if (Ieee.le d (along p j)) ≡ Pl.point_side (plane_with j n d) p
      by zero h = refl
      by (suc zero) h = refl
      by (suc (suc zero)) h = refl
      by (suc (suc (suc j))) h = absurd (omega arith)

  pub axis_dist : (p : Vector3) → k < 3 → Ieee.sub binary32 (along p k) d ≡ Pl.point_dist (plane_with k n d) p
  unfolding plane_with
  axis_dist p h = by k h
    where
      by : (j : ℕ) → j < 3 → Ieee.sub binary32 (along p j) d ≡ Pl.point_dist (plane_with j n d) p
      by zero h = refl
      by (suc zero) h = refl
      by (suc (suc zero)) h = refl
      by (suc (suc (suc j))) h = absurd (omega arith)

  pub slanted : 3 ≤ k → plane_with k n d ≡ Pl.new_plane n d
  unfolding plane_with
  slanted h = simp (ne_eqb k 0 (λ e. omega arith), ne_eqb k 1 (λ e. omega arith), ne_eqb k 2 (λ e. omega arith))

-- the plane at a position, by its type k and its distance d
module _ (s : List ℕ) (at k : ℕ) (d : Float) (is-d : d ≡ f32 s (at + 12)) (is-k : k ≡ u32 s (at + 16)) where
  pub here_axis_side : (p : Vector3) (x : Float) → x ≡ along p k → k < 3 → Pl.side_if (Ieee.le d x) ≡ Pl.point_side (plane_here s at) p
  unfolding plane_here
  here_axis_side p x is_x h = rw (← is-d, ← is-k, is_x) (axis_side k (normal s at) d p h)

  pub here_axis_dist : (p : Vector3) (x : Float) → x ≡ along p k → k < 3 → Ieee.sub binary32 x d ≡ Pl.point_dist (plane_here s at) p
  unfolding plane_here
  here_axis_dist p x is_x h = rw (← is-d, ← is-k, is_x) (axis_dist k (normal s at) d p h)

  pub here_axis_dists : (p q : Vector3) (x y : Float) → x ≡ along p k → y ≡ along q k → k < 3
      → ◌≡◌ {A = Float × Float} (Ieee.sub binary32 x d, Ieee.sub binary32 y d) (two_dists p q (plane_here s at))
  unfolding plane_here
  here_axis_dists p q x y is_x is_y h =
      rw (← is-d, ← is-k, is_x, is_y, axis_dist k (normal s at) d p h, axis_dist k (normal s at) d q h)

  module _ (n : Vector3) (h : Hyperplane) (is_n : n ≡ normal s at) (is-h : h ≡ Pl.new_plane n d) (g : 3 ≤ k) where
    pub here_slanted : h ≡ plane_here s at
    unfolding plane_here
    here_slanted = rw (← is-d, ← is-k, slanted k (normal s at) d g, ← is_n, is-h)

    pub here_slanted_dists : (p q : Vector3) (x y : Float) → x ≡ Pl.point_dist h p → y ≡ Pl.point_dist h q → ◌≡◌ {A = Float × Float} (x, y) (two_dists p q (plane_here s at))
    here_slanted_dists p q x y is_x is_y = rw (is_x, is_y) (ap (two_dists p q) here_slanted)

  -- the whole plane, by its type
  pub here_x : (h : Hyperplane) → h ≡ Pl.axis_x d → k ≡ 0 → h ≡ plane_here s at
  unfolding plane_here plane_with
  here_x h is-h e = rw (← is-d, ← is-k, e, is-h)

  pub here_y : (h : Hyperplane) → h ≡ Pl.axis_y d → k ≡ 1 → h ≡ plane_here s at
  unfolding plane_here plane_with
  here_y h is-h e = rw (← is-d, ← is-k, e, is-h)

  pub here_z : (h : Hyperplane) → h ≡ Pl.axis_z d → k ≡ 2 → h ≡ plane_here s at
  unfolding plane_here plane_with
  here_z h is-h e = rw (← is-d, ← is-k, e, is-h)

-- the plane of an index: outside, of a box, of the file
module _ (s : List ℕ) (t : Tables) (i : ℕ) where
  pub no_plane : t.planes.count ≤ i → plane_in s t i ≡ Ans.refused 30
  unfolding plane_in
  no_plane h = simp (le-ltb i t.planes.count h)

  module _ (h : i < t.planes.count) (b : Bool) (is_b : b ≡ is_box t.table) where
    of_box : (tab : HullTable) → is_box tab ≡ true → plane_for tab s t i ≡ box_plane t.mins t.maxs i
    of_box Render e = let z : ◌≡◌ {A = ℕ} 0 1 = cc in absurd (omega arith)
    of_box Clip e = let z : ◌≡◌ {A = ℕ} 0 1 = cc in absurd (omega arith)
    of_box Box e = refl

    of_file : (tab : HullTable) → is_box tab ≡ false → plane_for tab s t i ≡ then_answer (place_in t.planes 20 (length s) i) (plane_read s)
    of_file Render e = refl
    of_file Clip e = refl
    of_file Box e = let z : ◌≡◌ {A = ℕ} 0 1 = cc in absurd (omega arith)

    pub box_plane_lem : b ≡ true → plane_in s t i ≡ box_plane t.mins t.maxs i
    unfolding plane_in plane_of_index
    box_plane_lem e = simp (lt-ltb i t.planes.count h) (of_box t.table (sym is_b ∙ e))

    file_plane_lem : b ≡ false → plane_in s t i ≡ then_answer (place_in t.planes 20 (length s) i) (plane_read s)
    unfolding plane_in plane_of_index
    file_plane_lem e = simp (lt-ltb i t.planes.count h) (of_file t.table (sym is_b ∙ e))

    module _ (e : b ≡ false) (r : Result ℕ Refusal) (is-r : answer_of r ≡ place_in t.planes 20 (length s) i) where
      there : (x : Result ℕ Refusal) → r ≡ x → plane_in s t i ≡ then_answer (answer_of x) (plane_read s)
      there x q = file_plane_lem e ∙ ap (λ a. then_answer a (plane_read s)) (sym is-r ∙ ap answer_of q)

      pub plane_at_lem : (at : ℕ) → r ≡ Ok at → plane_in s t i ≡ answer (plane_here s at)
      plane_at_lem at q = there (Ok at) q ∙ plane_is s at (within t.planes 20 (length s) i r at is-r q)

      pub plane_not : (x : Refusal) → r ≡ Err x → plane_in s t i ≡ Ans.refused (number_of x)
      plane_not x q = there (Err x) q

-- the side that is the front or not, as it is compared with the front
pub front_side : (a : HyperplaneSide) → Pl.side_if (Pl.same_side a Positive) ≡ a
front_side Positive = refl
front_side Negative = refl
