-- One point: where its walk is answered, its different ways are as many as the nodes that it enters.
-- Assumes nothing.
use Prim.Native.Nat.{ℕ, zero, suc, ◌<◌, ◌≤◌}
use native.Mathlib.Omega.{arith}
use mathlib.Core.Bool.{Bool, true, false, cond}
use mathlib.Core.List.{[], ◌∷◌}
use mathlib.Core.Path.{◌≡◌, refl, ◌∙◌, ap}
use lib.Dec.{ltb}
use lib.ListN.{length}
use Rattle.format.specs.Answer as Ans
use Rattle.format.specs.Answer.{Answer, answer}
use Rattle.math.specs.Plane as Pl
use Rattle.math.specs.declared.vector.Vector3.{Vector3}
use Rattle.walk.specs.Table.{Child, node, end, Table, child_on}
use Rattle.walk.specs.Walk.{Outcome, done, refused, entered, held, with_visits, Entered, enter, meet, ended, walk_at, walk, point_walk}
use Rattle.ways.specs.Ways.{reads}
use Rattle.ways.specs.Groups.{settled, onward, byte_of, meets, reads_at}
use Rattle.ways.proofs.Alone.{walk_on}
use Rattle.ways.proofs.Counted.{reads_ways}
use Rattle.ways.proofs.Divided.{settled_reads, one_reads}

module _ {E A : Type 0} (T : Table E A) (code : A → ℕ) (at : ℕ → Vector3) (q : ℕ) where
  -- what is said of a walk from a child on, with k nodes more to enter
  abbrev Counts : ℕ → Child E → Outcome A → Type 0
  Counts k c (done a ns) = (reads_at T code at k c (q ∷ []) ≡ length ns) × (length ns ≤ k)
  Counts k c (refused n) = n ≡ n

  end_meets : (k : ℕ) (e : E) → meets T code k (end e) ≡ settled (byte_of T code (meet T e))
  unfolding meets
  end_meets zero e = refl
  end_meets (suc k) e = refl

  at_end : (k : ℕ) (e : E) (r : Answer A) → Counts k (end e) (ended T (λ a. a) r)
  at_end k e (answer a) = (settled_reads T code at (end e) (byte_of T code (meet T e)) k (end_meets k e) (q ∷ []), omega arith)
  at_end k e (Ans.refused n) = refl

  node_meets : (k i : ℕ) (m : Entered E) → ltb i T.nodes.count ≡ true → enter T i ≡ answer m → meets T code (suc k) (node i) ≡ onward m
  unfolding meets
  node_meets k i m h e = rw (h, e)

  on : (k i : ℕ) (m : Entered E) → meets T code (suc k) (node i) ≡ onward m → (o : Outcome A) → Counts k (child_on m.nd (Pl.point_side m.plane (at q))) o → Counts (suc k) (node i) (entered i o)
  on k i m z (done a ns) h = (one_reads T code at (node i) m k z q ∙ ap suc h.0, omega (arith, h.1))
  on k i m z (refused n) h = refl

  counts : (k : ℕ) (c : Child E) → Counts k c (walk_on T code (at q) k c)
  unfolding walk
  counts zero (end e) = at_end zero e (meet T e)
  counts (suc k) (end e) = at_end (suc k) e (meet T e)
  counts zero (node i) = spent (ltb i T.nodes.count)
    where
      spent : (b : Bool) → Counts zero (node i) (cond b (refused 31) (refused 30))
      spent true = refl
      spent false = refl
  counts (suc k) (node i) = go (ltb i T.nodes.count) refl (enter T i) refl (λ d. counts k d)
    where
      go : (b : Bool) → ltb i T.nodes.count ≡ b → (r : Answer (Entered E)) → enter T i ≡ r → ((d : Child E) → Counts k d (walk_on T code (at q) k d))
          → Counts (suc k) (node i) (cond b (walk_at T (λ n. walk T k n (at q)) i (at q) r) (refused 30))
      go true h (answer m) e ih =
          let d = child_on m.nd (Pl.point_side m.plane (at q)) in
          on k i m (node_meets k i m h e) (walk_on T code (at q) k d) (ih d)
      go true h (Ans.refused n) e ih = refl
      go false h r e ih = refl

  by_visits : (k : ℕ) (c : Child E) (o : Outcome A) → Counts k c o → k < 4294967296 → (a : A) (v : ℕ) → answer (a, v) ≡ with_visits o → reads_at T code at k c (q ∷ []) ≡ v
  by_visits k c (done b ns) h small a v e =
      let y : ◌≡◌ {A = A × ℕ} (a, v) (b, held (length ns)) = cc in
      let z : v ≡ held (length ns) = ap (λ (x : A × ℕ). x.1) y in
      omega (arith, h.0, h.1, z, small)
  by_visits k c (refused n) h small a v e = let z : ◌≡◌ {A = ℕ} 0 1 = cc in absurd (omega arith)

pub only_reads : {E A : Type 0} (T : Table E A) (code : A → ℕ) (root : ℕ) (p : Vector3) → T.nodes.count < 4294967296 → (a : A) (v : ℕ) → answer (a, v) ≡ with_visits (point_walk T root p) → reads T root (p ∷ []) ≡ v
only_reads T code root p small a v e =
    reads_ways T code (λ q. p) T.nodes.count (node root) (0 ∷ [])
    ∙ by_visits T code (λ q. p) 0 T.nodes.count (node root) (point_walk T root p) (counts T code (λ q. p) 0 T.nodes.count (node root)) small a v e
