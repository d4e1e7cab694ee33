-- A walk or trace that is answered enters its root first, so it has at least one visit.
use Prim.Native.Nat.{ℕ, zero, suc, ◌≤◌}
use native.Mathlib.Omega.{arith}
use mathlib.Core.Bool.{Bool, true, false, cond}
use mathlib.Core.List.{List, ◌∷◌}
use mathlib.Core.Path.{◌≡◌, refl, ap, subst}
use lib.Dec.{ltb}
use lib.ListN.{length}
use Rattle.format.specs.Answer as Ans
use Rattle.format.specs.Answer.{Answer, answer}
use Rattle.format.specs.declared.contents.BspLeafContents.{BspLeafContents}
use Rattle.math.specs.Plane as Pl
use Rattle.math.specs.declared.vector.Vector3.{Vector3}
use Rattle.phys.specs.declared.Trace.{Trace as TraceT}
use Rattle.walk.specs.Table.{Table, child_on}
use Rattle.walk.specs.Walk.{Outcome, done, refused, entered, held, with_visits, Entered, enter, onto, walk_at, walk, point_walk}
use Rattle.walk.specs.Tracing.{across, trace_at, recursive_trace, trace}

abbrev Headed : {A : Type 0} → ℕ → Outcome A → Type 0
Headed i (done a ns) = (ms : List ℕ) × (ns ≡ i ∷ ms)
Headed i (refused n) = Unit {0}

entered_headed : {A : Type 0} (i : ℕ) (o : Outcome A) → Headed i (entered i o)
entered_headed i (done a ns) = (ns, refl)
entered_headed i (refused n) = tt

test_headed : {A : Type 0} (i : ℕ) (b : Bool) (n : ℕ) (o : Outcome A) → Headed i o → Headed i (cond b o (refused n))
test_headed i true n o h = h
test_headed i false n o h = tt

module _ {E A : Type 0} (T : Table E A) (p : Vector3) where
  walk_at_lem : (go : ℕ → Outcome A) (i : ℕ) (r : Answer (Entered E)) → Headed i (walk_at T go i p r)
  walk_at_lem go i (answer m) = entered_headed i (onto T go (λ a. a) (child_on m.nd (Pl.point_side m.plane p)))
  walk_at_lem go i (Ans.refused n) = tt

  walk_headed : (k i : ℕ) → Headed i (walk T k i p)
  unfolding walk
  walk_headed zero i = test_headed i (ltb i T.nodes.count) 30 (refused 31) tt
  walk_headed (suc k) i = test_headed i (ltb i T.nodes.count) 30 (walk_at T (λ n. walk T k n p) i p (enter T i)) (walk_at_lem (λ n. walk T k n p) i (enter T i))

  pub walk_enters_root : (k i : ℕ) (a : A) (ns : List ℕ) → walk T k i p ≡ done a ns → (ms : List ℕ) × (ns ≡ i ∷ ms)
  walk_enters_root k i a ns q = subst (Headed i) q (walk_headed k i)

module _ {E : Type 0} (T : Table E BspLeafContents) where
  trace_at_lem : (go : ℕ → Vector3 → Vector3 → Outcome TraceT) (i : ℕ) (s e : Vector3) (r : Answer (Entered E)) → Headed i (trace_at T go i s e r)
  trace_at_lem go i s e (answer m) = entered_headed i (across T go m.nd m.plane s e (Pl.line_segment m.plane s e))
  trace_at_lem go i s e (Ans.refused n) = tt

  trace_headed : (k i : ℕ) (s e : Vector3) → Headed i (recursive_trace T k i s e)
  unfolding recursive_trace
  trace_headed zero i s e = test_headed i (ltb i T.nodes.count) 30 (refused 32) tt
  trace_headed (suc k) i s e =
      test_headed i (ltb i T.nodes.count) 30 (trace_at T (λ n s e. recursive_trace T k n s e) i s e (enter T i)) (trace_at_lem (λ n s e. recursive_trace T k n s e) i s e (enter T i))

  pub trace_enters_root : (k i : ℕ) (s e : Vector3) (t : TraceT) (ns : List ℕ) → recursive_trace T k i s e ≡ done t ns → (ms : List ℕ) × (ns ≡ i ∷ ms)
  trace_enters_root k i s e t ns q = subst (Headed i) q (trace_headed k i s e)

-- a list that starts with a node makes a visit, also where the count is held
some_visit : {A : Type 0} (i : ℕ) (o : Outcome A) → Headed i o → (a : A) (v : ℕ) → with_visits o ≡ answer (a, v) → 1 ≤ v
some_visit i (refused n) h a v e = let z : ◌≡◌ {A = ℕ} 0 1 = cc in absurd (omega arith)
some_visit {A} i (done b ns) h a v e =
    let q : ◌≡◌ {A = A × ℕ} (b, held (length ns)) (a, v) = cc in
    let l : length ns ≡ suc (length h.0) = ap length h.1 in
    omega (arith, ap (λ (x : A × ℕ). x.1) q)

pub walk_visits : {E A : Type 0} (T : Table E A) (root : ℕ) (p : Vector3) (a : A) (v : ℕ) → with_visits (point_walk T root p) ≡ answer (a, v) → 1 ≤ v
walk_visits T root p a v e = some_visit root (point_walk T root p) (walk_headed T p T.nodes.count root) a v e

pub trace_visits_lem : {E : Type 0} (T : Table E BspLeafContents) (root : ℕ) (s e : Vector3) (t : TraceT) (v : ℕ) → with_visits (trace T root s e) ≡ answer (t, v) → 1 ≤ v
trace_visits_lem T root s e t v q = some_visit root (trace T root s e) (trace_headed T 512 root s e) t v q
