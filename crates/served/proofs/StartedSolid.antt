-- Note 13 about the calls for C (specs/StartedSolid.antt says it): loaded/proofs/StartedSolid.antt, and a status of 0 says that the answer was given.
-- Assumes nothing.
use Rattle.std.proofs.Common.{Ok}
use Prim.Native.Nat.{ℕ, ◌≤◌}
use native.Mathlib.Omega.{arith}
use mathlib.Core.Bool.{Bool, true, false}
use mathlib.Core.List.{List, [], ◌∷◌}
use mathlib.Core.Logic.{◌↔◌, inl, inr}
use mathlib.Core.Path.{◌≡◌, refl, sym, ap, ◌∙◌}
use borrow.Author.Tests.{eq-eqb}
use lib.Ieee.{Float, binary32, of_bits, sub, le}
use lib.Ieee.Bits.{of_bits-fits}
use lib.ListN.{replicate}
use Rattle.format.specs.Answer.{Answer, answer, refused, mapped, then_answer}
use Rattle.format.specs.Contents.{equal, code_of}
use Rattle.format.specs.declared.contents.BspLeafContents.{BspLeafContents}
use Rattle.format.specs.declared.contents.BspLeafContents.TheVariants.{Solid}
use Rattle.math.specs.Plane.{line_segment}
use Rattle.math.specs.Vector.{zero32}
use Rattle.math.specs.declared.vector.Vector3.{Vector3}
use Rattle.phys.specs.declared.Trace.{Trace as TraceT}
use Rattle.walk.specs.Walk.{with_visits, point_walk, walk, enter, meet}
use Rattle.walk.specs.Tracing as Tracing
use Rattle.walk.proofs.StartedSolid.{solid_is}
use Rattle.nodes.specs.Tables.{table_of}
use Rattle.nodes.specs.declared.table.HullTable.{HullTable}
use Rattle.hull.specs.Hull as Hull
use Rattle.hull.specs.declared.collision.BspCollisionHull.{BspCollisionHull}
use Rattle.tree.specs.Readable.{Floats}
use Rattle.loaded.specs.Refusals.{OneOf, of_walks, of_traces}
use Rattle.loaded.proofs.Refusals.{every_refusal}
use Rattle.loaded.proofs.StartedSolid as Core
use Rattle.words.specs.Words.{Written, written, given, put, at_least, flag_word, map_of}
use Rattle.served.specs.Cited.{bsp_contents, bsp_trace, point_at, hull_from, hull_in, contents_words, trace_words}
use Rattle.served.specs.NamedWords.{contents_code, trace_visits, trace_start_solid, solid_code}
use Rattle.served.specs.StartedSolid.{StartedSolid, FiniteNeeded}
use Rattle.served.proofs.Statuses.{long, was_long, was_answered, word_floats, OfWords, of_table, of_none, of_words}

-- ---- no refusal of a walk or a trace is 0

walk_some : (n : ℕ) → OneOf of_walks n → 1 ≤ n
walk_some n (inl e) = omega arith
walk_some n (inr (inl e)) = omega arith
walk_some n (inr (inr (inl e))) = omega arith
walk_some n (inr (inr (inr none))) = elim none [ ]

trace_some : (n : ℕ) → OneOf of_traces n → 1 ≤ n
trace_some n (inl e) = omega arith
trace_some n (inr (inl e)) = omega arith
trace_some n (inr (inr (inl e))) = omega arith
trace_some n (inr (inr (inr none))) = elim none [ ]

-- ---- what the two calls wrote, if they answered 0

module _ (s map hull : List ℕ) where
  abbrev trace_of : List Float → BspCollisionHull → Answer (TraceT × ℕ)
  trace_of segment h = with_visits (Tracing.trace (Hull.hull_table s (map_of map) h) h.node_id (point_at segment 0) (point_at segment 3))

  abbrev contents_of : List Float → BspCollisionHull → Answer (BspLeafContents × ℕ)
  contents_of point h = with_visits (point_walk (Hull.hull_table s (map_of map) h) h.node_id (point_at point 0))

  module _ (t : HullTable) (is : hull_from hull ≡ answer (hull_in t hull)) where
    abbrev h : BspCollisionHull
    h = hull_in t hull

    traced : (segment : List Float) (out : List ℕ) → (bsp_trace s map hull segment out).status ≡ 0
        → (v : TraceT × ℕ) × (trace_of segment h ≡ answer v) × ((bsp_trace s map hull segment out).list ≡ put (trace_words v) out)
    unfolding bsp_trace
    traced segment out e =
        let x : Answer (TraceT × ℕ) = then_answer (hull_from hull) (trace_of segment) in
        let q : x ≡ trace_of segment h = ap (λ y. then_answer y (trace_of segment)) is in
        let g : Written = given (mapped trace_words x) out in
        let a = was_long 31 map out (at_least 9 hull out (at_least 6 segment out (at_least 17 out out g))) e in
        let b = was_long 9 hull out (at_least 6 segment out (at_least 17 out out g)) a.1 in
        let c = was_long 6 segment out (at_least 17 out out g) b.1 in
        let d = was_long 17 out out g c.1 in
        let v = was_answered trace_words (trace_of segment h) out (λ n k. trace_some n ((every_refusal s (map_of map) h).trace (point_at segment 0) (point_at segment 3) n k))
        (sym (ap (λ y. (given (mapped trace_words y) out).status) q) ∙ d.1) in (
          v.0,
          v.1,
          ap (λ (w : Written). w.list)
              (long 31 map out _ a.0 ∙ long 9 hull out _ b.0 ∙ long 6 segment out _ c.0 ∙ long 17 out out g d.0 ∙ ap (λ y. given (mapped trace_words y) out) (q ∙ v.1)),
        )

    walked : (point : List Float) (out : List ℕ) → (bsp_contents s map hull point out).status ≡ 0
        → (v : BspLeafContents × ℕ) × (contents_of point h ≡ answer v) × ((bsp_contents s map hull point out).list ≡ put (contents_words v) out)
    unfolding bsp_contents
    walked point out e =
        let x : Answer (BspLeafContents × ℕ) = then_answer (hull_from hull) (contents_of point) in
        let q : x ≡ contents_of point h = ap (λ y. then_answer y (contents_of point)) is in
        let g : Written = given (mapped contents_words x) out in
        let a = was_long 31 map out (at_least 9 hull out (at_least 3 point out (at_least 2 out out g))) e in
        let b = was_long 9 hull out (at_least 3 point out (at_least 2 out out g)) a.1 in
        let c = was_long 3 point out (at_least 2 out out g) b.1 in
        let d = was_long 2 out out g c.1 in
        let v = was_answered contents_words (contents_of point h) out (λ n k. walk_some n ((every_refusal s (map_of map) h).contents (point_at point 0) n k))
        (sym (ap (λ y. (given (mapped contents_words y) out).status) q) ∙ d.1) in (
          v.0,
          v.1,
          ap (λ (w : Written). w.list)
              (long 31 map out _ a.0 ∙ long 9 hull out _ b.0 ∙ long 3 point out _ c.0 ∙ long 2 out out g d.0 ∙ ap (λ y. given (mapped contents_words y) out) (q ∙ v.1)),
        )

  -- words of no table are refused
  no_table : hull_from hull ≡ refused 20 → (segment : List Float) (out : List ℕ) → (bsp_trace s map hull segment out).status ≡ 0 → ⊥
  unfolding bsp_trace
  no_table is segment out e =
      let g : Written = given (mapped trace_words (then_answer (hull_from hull) (trace_of segment))) out in
      let a = was_long 31 map out (at_least 9 hull out (at_least 6 segment out (at_least 17 out out g))) e in
      let b = was_long 9 hull out (at_least 6 segment out (at_least 17 out out g)) a.1 in
      let c = was_long 6 segment out (at_least 17 out out g) b.1 in
      let d = was_long 17 out out g c.1 in
      let k : ◌≡◌ {A = ℕ} 20 0 = sym (ap (λ y. (given (mapped trace_words (then_answer y (trace_of segment))) out).status) is) ∙ d.1 in
      omega arith

-- ---- flags and codes

flag_is : (b : Bool) → (flag_word b ≡ 1) ↔ (b ≡ true)
flag_is true = (λ e. refl, λ e. refl)
flag_is false = (λ e. absurd (omega (arith, e)), λ e. let z : ◌≡◌ {A = ℕ} 0 1 = cc in z)

code_is : (c : BspLeafContents) → (code_of c ≡ solid_code) ↔ (c ≡ Solid)
unfolding equal
code_is c = (λ e. (solid_is c).0 (eq-eqb (code_of c) 2 e), λ q. ap code_of q)

pub started_solid : StartedSolid
started_solid s map hull segment point F at_start out e room k = by (of_words hull)
  where
    by : OfWords hull → (trace_start_solid (bsp_trace s map hull segment out).list ≡ 1) ↔ (contents_code (bsp_contents s map hull point room).list ≡ solid_code)
    by (of_none is) = absurd (no_table s map hull is segment out e)
    by (of_table t is) =
        let h : BspCollisionHull = hull_in t hull in
        let T = traced s map hull t is segment out e in
        let W = walked s map hull t is point room k in
        let walk : with_visits (point_walk (Hull.hull_table s (map_of map) h) h.node_id (point_at segment 0)) ≡ answer W.0 =
        sym (ap (λ (p : Vector3). with_visits (point_walk (Hull.hull_table s (map_of map) h) h.node_id p)) at_start) ∙ W.1 in
        let core : (T.0.0.start_solid ≡ true) ↔ (W.0.0 ≡ Solid) =
        Core.started_solid s (map_of map) h (word_floats hull 3) (word_floats hull 6) (point_at segment 0) (point_at segment 3) F
        (Ok (T.0.0, T.0.1)) (sym T.1) (Ok (W.0.0, W.0.1)) (sym walk) T.0.0 T.0.1 refl W.0.0 W.0.1 refl in
        let flag : trace_start_solid (bsp_trace s map hull segment out).list ≡ flag_word T.0.0.start_solid = ap trace_start_solid T.2 in
        let code : contents_code (bsp_contents s map hull point room).list ≡ code_of W.0.0 = ap contents_code W.2 in (
          λ x. code ∙ (code_is W.0.0).1 (core.0 ((flag_is T.0.0.start_solid).0 (sym flag ∙ x))),
          λ x. flag ∙ (flag_is T.0.0.start_solid).1 (core.1 ((code_is W.0.0).0 (sym code ∙ x))),
        )

-- ---- an infinite start

-- The hull that bsp_box makes of the bounds (−inf, −1, −1) and (1, 1, 1), and a start at x = −inf, on its face; a box reads no file and no map words. The trace
-- goes from the start to itself. bsp_contents writes 2 (BSP_SOLID) and bsp_trace the flag 0.

abbrev wide : List ℕ
wide = 2 ∷ 0 ∷ 6 ∷ 0xff80_0000 ∷ 0xbf80_0000 ∷ 0xbf80_0000 ∷ 0x3f80_0000 ∷ 0x3f80_0000 ∷ 0x3f80_0000 ∷ []

abbrev no_map : List ℕ
no_map = replicate 31 0

abbrev minus_inf : Float
minus_inf = of_bits binary32 0xff80_0000

abbrev on_face : List Float
on_face = minus_inf ∷ zero32 ∷ zero32 ∷ minus_inf ∷ zero32 ∷ zero32 ∷ []

pub wide_contents : bsp_contents [] no_map wide on_face (7 ∷ 7 ∷ []) ≡ written 0 (2 ∷ 6 ∷ [])
unfolding bsp_contents hull_from table_of walk enter meet of_bits le
wide_contents = refl

abbrev wide_trace : Written
wide_trace = bsp_trace [] no_map wide on_face (replicate 17 7)

pub wide_trace_lem : (wide_trace.status ≡ 0) × (trace_visits wide_trace.list ≡ 2) × (trace_start_solid wide_trace.list ≡ 0)
unfolding bsp_trace hull_from table_of Tracing.recursive_trace enter meet line_segment of_bits sub le equal
wide_trace_lem = (refl, refl, refl)

pub finite_needed : FiniteNeeded
finite_needed any =
    let floats : Floats (point_at on_face 0) = record { x_float = of_bits-fits binary32 0xff80_0000; y_float = of_bits-fits binary32 0; z_float = of_bits-fits binary32 0 } in
    let flag : trace_start_solid wide_trace.list ≡ 1 = (any [] no_map wide on_face on_face floats refl (replicate 17 7) wide_trace_lem.0 (7 ∷ 7 ∷ []) (ap (λ (w : Written). w.status) wide_contents)
    ).1 (ap (λ (w : Written). contents_code w.list) wide_contents) in
    omega (arith, flag, wide_trace_lem.2)
