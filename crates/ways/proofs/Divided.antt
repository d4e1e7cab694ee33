-- One step of a group: its points are settled, or divided at a node.
use Prim.Native.Nat.{ℕ, zero, suc, ◌+◌, ◌*◌, ◌<◌, ◌≤◌}
use native.Mathlib.Omega.{arith}
use mathlib.Core.Bool.{Bool, true, false, cond, not}
use mathlib.Core.List.{List, [], ◌∷◌}
use mathlib.Core.Path.{◌≡◌, refl, sym, ◌∙◌, ap}
use lib.ListN.{length, set}
use lib.Seq.{set_comm}
use Rattle.math.specs.Plane as Pl
use Rattle.math.specs.declared.vector.Vector3.{Vector3}
use Rattle.math.specs.declared.plane.HyperplaneSide.{HyperplaneSide}
use Rattle.math.specs.declared.plane.HyperplaneSide.TheVariants.{Positive, Negative}
use Rattle.walk.specs.Table.{Child, node, end, Table, child_on}
use Rattle.walk.specs.Walk.{Entered}
use Rattle.ways.specs.Groups.{kept, is_front, in_front, fronts, backs, fill, if_any, Meets, settled, onward, meets, byte_at, reads_step, reads_at, bytes_of}

-- ---- filling

pub fill_same : (v w : ℕ → ℕ) → ((q : ℕ) → v q ≡ w q) → (ids out : List ℕ) → fill v ids out ≡ fill w ids out
unfolding fill
fill_same v w e [] out = refl
fill_same v w e (q ∷ ids) out = fill_same v w e ids (set out q (v q)) ∙ ap (λ (x : ℕ). fill w ids (set out q x)) (e q)

pub fill_length : (v : ℕ → ℕ) (ids out : List ℕ) → length (fill v ids out) ≡ length out
unfolding fill
fill_length v [] out = refl
fill_length v (q ∷ ids) out = fill_length v ids (set out q (v q)) ∙ simp lib.ListN.length-set

-- an entry of a point behind a plane is no entry of a point in front
module _ (f : ℕ → Bool) where
  differ : (p q : ℕ) → f p ≡ false → f q ≡ true → p ≡ q → ⊥
  differ p q a b e = let z : ◌≡◌ {A = Bool} false true = sym a ∙ ap f e ∙ b in let y : ◌≡◌ {A = ℕ} 0 1 = cc in omega arith

  fill_past : (v : ℕ → ℕ) (ids out : List ℕ) (p x : ℕ) → f p ≡ false → set (fill v (kept f ids) out) p x ≡ fill v (kept f ids) (set out p x)
  unfolding fill
  fill_past v [] out p x h = refl
  fill_past v (q ∷ ids) out p x h = go (f q) refl (λ o. fill_past v ids o p x h)
    where
      go : (b : Bool) → f q ≡ b → ((o : List ℕ) → set (fill v (kept f ids) o) p x ≡ fill v (kept f ids) (set o p x))
          → set (fill v (cond b (q ∷ kept f ids) (kept f ids)) out) p x ≡ fill v (cond b (q ∷ kept f ids) (kept f ids)) (set out p x)
      go true e ih = ih (set out q (v q)) ∙ ap (fill v (kept f ids)) (set_comm out q p (v q) x (λ z. differ p q h e (sym z)))
      go false e ih = ih out

  -- the points in front first, then those behind
  pub fill_parts : (v vf vb : ℕ → ℕ) → ((q : ℕ) → f q ≡ true → v q ≡ vf q) → ((q : ℕ) → f q ≡ false → v q ≡ vb q) → (ids out : List ℕ) → fill v ids out ≡ fill vb (kept (λ q. not (f q)) ids) (fill vf (kept f ids) out)
  unfolding fill
  fill_parts v vf vb ef eb [] out = refl
  fill_parts v vf vb ef eb (q ∷ ids) out = go (f q) refl (λ o. fill_parts v vf vb ef eb ids o)
    where
      go : (b : Bool) → f q ≡ b → ((o : List ℕ) → fill v ids o ≡ fill vb (kept (λ q. not (f q)) ids) (fill vf (kept f ids) o))
          → fill v ids (set out q (v q)) ≡ fill vb (cond (not b) (q ∷ kept (λ q. not (f q)) ids) (kept (λ q. not (f q)) ids)) (fill vf (cond b (q ∷ kept f ids) (kept f ids)) out)
      go true e ih = ih (set out q (v q)) ∙ ap (λ (x : ℕ). fill vb (kept (λ q. not (f q)) ids) (fill vf (kept f ids) (set out q x))) (ef q e)
      go false e ih =
          ih (set out q (v q)) ∙ ap (λ (x : ℕ). fill vb (kept (λ q. not (f q)) ids) (fill vf (kept f ids) (set out q x))) (eb q e)
          ∙ ap (fill vb (kept (λ q. not (f q)) ids)) (sym (fill_past vf ids out q (vb q) e))

  kept_twice : (ids : List ℕ) → kept (λ q. not (not (f q))) ids ≡ kept f ids
  kept_twice [] = refl
  kept_twice (q ∷ ids) = go (f q) (kept_twice ids)
    where
      go : (b : Bool) → kept (λ q. not (not (f q))) ids ≡ kept f ids → cond (not (not b)) (q ∷ kept (λ q. not (not (f q))) ids) (kept (λ q. not (not (f q))) ids) ≡ cond b (q ∷ kept f ids) (kept f ids)
      go true e = ap (λ (l : List ℕ). q ∷ l) e
      go false e = e

  pub kept_length : (ids : List ℕ) → length (kept f ids) + length (kept (λ q. not (f q)) ids) ≡ length ids
  kept_length [] = refl
  kept_length (q ∷ ids) = go (f q) (kept_length ids)
    where
      go : (b : Bool) → length (kept f ids) + length (kept (λ q. not (f q)) ids) ≡ length ids
          → length (cond b (q ∷ kept f ids) (kept f ids)) + length (cond (not b) (q ∷ kept (λ q. not (f q)) ids) (kept (λ q. not (f q)) ids)) ≡ suc (length ids)
      go true e = omega arith
      go false e = omega arith

-- the points behind first, then those in front
pub fill_other : (f : ℕ → Bool) (v vf vb : ℕ → ℕ) → ((q : ℕ) → f q ≡ true → v q ≡ vf q) → ((q : ℕ) → f q ≡ false → v q ≡ vb q) → (ids out : List ℕ) → fill v ids out ≡ fill vf (kept f ids) (fill vb (kept (λ q. not (f q)) ids) out)
fill_other f v vf vb ef eb ids out =
    fill_parts (λ q. not (f q)) v vb vf (λ q h. eb q (other (f q) h)) (λ q h. ef q (same (f q) h)) ids out
    ∙ ap (λ (l : List ℕ). fill vf l (fill vb (kept (λ q. not (f q)) ids) out)) (kept_twice f ids)
  where
    other : (b : Bool) → not b ≡ true → b ≡ false
    other true h = sym h
    other false h = refl

    same : (b : Bool) → not b ≡ false → b ≡ true
    same true h = refl
    same false h = sym h

-- ---- steps

front_child : {E : Type 0} (m : Entered E) (s : HyperplaneSide) → is_front s ≡ true → child_on m.nd s ≡ m.nd.front
front_child m Positive e = refl
front_child m Negative e = let z : ◌≡◌ {A = ℕ} 0 1 = cc in absurd (omega arith)

back_child : {E : Type 0} (m : Entered E) (s : HyperplaneSide) → is_front s ≡ false → child_on m.nd s ≡ m.nd.back
back_child m Positive e = let z : ◌≡◌ {A = ℕ} 0 1 = cc in absurd (omega arith)
back_child m Negative e = refl

module _ {E A : Type 0} (T : Table E A) (code : A → ℕ) (at : ℕ → Vector3) where
  -- a group of no points is read for nowhere
  pub reads_none : (k : ℕ) (c : Child E) → reads_at T code at k c [] ≡ 0
  unfolding reads_at
  reads_none zero c = refl
  reads_none (suc k) c = refl

  any_none : (ids : List ℕ) → if_any ids 0 ≡ 0
  any_none [] = refl
  any_none (q ∷ ids) = refl

  any_some : (ids : List ℕ) (n : ℕ) → 0 < length ids → if_any ids n ≡ n
  any_some [] n h = absurd (omega arith)
  any_some (q ∷ ids) n h = refl

  module _ (c : Child E) (b : ℕ) where
    pub settled_reads : (k : ℕ) → meets T code k c ≡ settled b → (ids : List ℕ) → reads_at T code at k c ids ≡ 0
    unfolding reads_at
    settled_reads zero e ids = refl
    settled_reads (suc k) e ids = rw e (any_none ids)

    pub settled_byte : (k : ℕ) → meets T code k c ≡ settled b → (p : Vector3) → byte_at T code k c p ≡ b
    unfolding byte_at
    settled_byte zero e p = rw e
    settled_byte (suc k) e p = rw e

    pub settled_bytes : (k : ℕ) → meets T code k c ≡ settled b → (ids out : List ℕ) → fill (bytes_of T code at k c) ids out ≡ fill (λ q. b) ids out
    settled_bytes k e ids out = fill_same (bytes_of T code at k c) (λ q. b) (λ q. settled_byte k e (at q)) ids out

  -- a node is met only where one may be entered
  pub some_left : (c : Child E) (m : Entered E) (k : ℕ) → meets T code k c ≡ onward m → 0 < k
  unfolding meets
  some_left (end e) m zero q = let z : ◌≡◌ {A = ℕ} 0 1 = cc in absurd (omega arith)
  some_left (node i) m zero q = let z : ◌≡◌ {A = ℕ} 0 1 = cc in absurd (omega arith)
  some_left c m (suc k) q = omega arith

  module _ (c : Child E) (m : Entered E) (k : ℕ) (e : meets T code (suc k) c ≡ onward m) where
    pub divided_reads : (ids : List ℕ) → 0 < length ids → reads_at T code at (suc k) c ids ≡ suc (reads_at T code at k m.nd.front (fronts at m.plane ids) + reads_at T code at k m.nd.back (backs at m.plane ids))
    unfolding reads_at
    divided_reads ids h = rw e (any_some ids (suc (reads_at T code at k m.nd.front (fronts at m.plane ids) + reads_at T code at k m.nd.back (backs at m.plane ids))) h)

    pub divided_byte : (p : Vector3) → byte_at T code (suc k) c p ≡ byte_at T code k (child_on m.nd (Pl.point_side m.plane p)) p
    unfolding byte_at
    divided_byte p = rw e

    -- a group of one point goes on as it is
    pub one_reads : (q : ℕ) → reads_at T code at (suc k) c (q ∷ []) ≡ suc (reads_at T code at k (child_on m.nd (Pl.point_side m.plane (at q))) (q ∷ []))
    unfolding in_front
    one_reads q = divided_reads (q ∷ []) (omega arith) ∙ ap suc (go (Pl.point_side m.plane (at q)))
      where
        go : (s : HyperplaneSide) → reads_at T code at k m.nd.front (cond (is_front s) (q ∷ []) []) + reads_at T code at k m.nd.back (cond (not (is_front s)) (q ∷ []) []) ≡ reads_at T code at k (child_on m.nd s) (q ∷ [])
        go Positive = let z : reads_at T code at k m.nd.back [] ≡ 0 = reads_none k m.nd.back in omega arith
        go Negative = let z : reads_at T code at k m.nd.front [] ≡ 0 = reads_none k m.nd.front in omega arith

    pub divided_bytes : (ids out : List ℕ) → fill (bytes_of T code at (suc k) c) ids out ≡ fill (bytes_of T code at k m.nd.back) (backs at m.plane ids) (fill (bytes_of T code at k m.nd.front) (fronts at m.plane ids) out)
    unfolding in_front
    divided_bytes ids out =
        fill_parts (in_front at m.plane) (bytes_of T code at (suc k) c) (bytes_of T code at k m.nd.front) (bytes_of T code at k m.nd.back)
        (λ q h. divided_byte (at q) ∙ ap (λ (d : Child E). byte_at T code k d (at q)) (front_child m (Pl.point_side m.plane (at q)) h))
        (λ q h. divided_byte (at q) ∙ ap (λ (d : Child E). byte_at T code k d (at q)) (back_child m (Pl.point_side m.plane (at q)) h))
        ids out

    pub divided_other : (ids out : List ℕ) → fill (bytes_of T code at (suc k) c) ids out ≡ fill (bytes_of T code at k m.nd.front) (fronts at m.plane ids) (fill (bytes_of T code at k m.nd.back) (backs at m.plane ids) out)
    unfolding in_front
    divided_other ids out =
        fill_other (in_front at m.plane) (bytes_of T code at (suc k) c) (bytes_of T code at k m.nd.front) (bytes_of T code at k m.nd.back)
        (λ q h. divided_byte (at q) ∙ ap (λ (d : Child E). byte_at T code k d (at q)) (front_child m (Pl.point_side m.plane (at q)) h))
        (λ q h. divided_byte (at q) ∙ ap (λ (d : Child E). byte_at T code k d (at q)) (back_child m (Pl.point_side m.plane (at q)) h))
        ids out

  -- at most one read for each node that each point may enter
  pub reads_most : (k : ℕ) (c : Child E) (ids : List ℕ) → reads_at T code at k c ids ≤ k * length ids
  unfolding reads_at
  reads_most zero c ids = omega arith
  reads_most (suc k) c ids = go ids (meets T code (suc k) c) (λ d l. reads_most k d l)
    where
      go : (ids : List ℕ) (r : Meets E) → ((d : Child E) (l : List ℕ) → reads_at T code at k d l ≤ k * length l) → if_any ids (reads_step T code at (λ d l. reads_at T code at k d l) ids r) ≤ suc k * length ids
      go [] r ih = omega arith
      go (q ∷ ids) (settled b) ih = omega arith
      go (q ∷ ids) (onward m) ih =
          let a : reads_at T code at k m.nd.front (fronts at m.plane (q ∷ ids)) ≤ k * length (fronts at m.plane (q ∷ ids)) = ih m.nd.front (fronts at m.plane (q ∷ ids)) in
          let b : reads_at T code at k m.nd.back (backs at m.plane (q ∷ ids)) ≤ k * length (backs at m.plane (q ∷ ids)) = ih m.nd.back (backs at m.plane (q ∷ ids)) in
          let l : length (fronts at m.plane (q ∷ ids)) + length (backs at m.plane (q ∷ ids)) ≡ length (q ∷ ids) = kept_length (in_front at m.plane) (q ∷ ids) in
          let n : k * (length (fronts at m.plane (q ∷ ids)) + length (backs at m.plane (q ∷ ids))) ≡ k * length (q ∷ ids) = ap (λ (x : ℕ). k * x) l in
          omega (arith, a, b, n)
