-- What walks and traces are refused with (specs/Refusals.antt says it): walk/proofs/NoPanic.antt for the tables of a hull, whose records in range are
-- refused with 23 alone. Assumes nothing.
use Prim.Native.Nat.{ℕ, zero, suc, ◌+◌, ◌*◌, ◌<◌, ◌≤◌}
use native.Mathlib.Omega.{arith}
use mathlib.Core.Bool.{Bool, true, false, cond}
use mathlib.Core.List.{List, [], ◌∷◌}
use mathlib.Core.Logic.{inl, inr}
use mathlib.Core.Path.{◌≡◌, refl}
use borrow.Author.Tests.{leb-true, ltb-true}
use lib.Dec.{leb}
use lib.ListN.{length}
use Rattle.format.specs.Answer as Ans
use Rattle.format.specs.Answer.{Answer, answer, mapped}
use Rattle.format.specs.Step.{Step}
use Rattle.format.specs.Section.{section_of, place, record_count, within_limit, element_size}
use Rattle.format.specs.declared.section.BspData.{BspData}
use Rattle.format.specs.declared.section.BspFileSection.{BspFileSection}
use Rattle.format.specs.declared.section.BspFileSectionId.{BspFileSectionId}
use Rattle.format.specs.declared.section.BspFileSectionId.TheVariants.{Planes, RenderNodes, CollisionNodes, Leaves}
use Rattle.math.specs.declared.vector.Vector3.{Vector3}
use Rattle.walk.specs.Walk.{Outcome, done, refused, with_visits, point_walk}
use Rattle.walk.specs.Tracing as Tracing
use Rattle.walk.proofs.NoPanic.{Own, walk_refuses, trace_refuses}
use Rattle.records.specs.Access.{reading, read_at, record_of}
use Rattle.records.specs.Plane.{plane_at}
use Rattle.records.specs.Node.{render_node_at, render_node_of, collision_node_at, collision_node_of}
use Rattle.records.specs.Leaf.{leaf_at, leaf_of}
use Rattle.nodes.specs.Tables.{End, contents, leaf, nothing, render_node, clip_node, leaf_contents, leaf_in, nth, box_nodes, box_planes, contents_of_end, contents_in_box, leaf_of_end, table_of, leaf_table}
use Rattle.nodes.specs.declared.table.HullTable.{HullTable}
use Rattle.nodes.specs.declared.table.HullTable.TheVariants.{Render, Clip, Box}
use Rattle.hull.specs.Hull.{hull_table}
use Rattle.hull.specs.declared.collision.BspCollisionHull.{BspCollisionHull}
use Rattle.loaded.specs.Refusals.{OneOf, of_walks, of_traces, RefusedOnly, Refusals, EveryRefusal, NeverPanics, NeverNoSuchRecord}

-- ---- records in range

module _ (P : ℕ → Type 0) where
  pub answers : {A : Type 0} (a : A) → RefusedOnly P (answer a)
  answers a n e = let z : ◌≡◌ {A = ℕ} 0 1 = cc in absurd (omega arith)

  same_number : {A : Type 0} (k n : ℕ) → ◌≡◌ {A = Answer A} (Ans.refused k) (Ans.refused n) → k ≡ n
  same_number k n e = cc

  pub refuses : {A : Type 0} (k : ℕ) → P k → RefusedOnly P {A = A} (Ans.refused k)
  refuses {A} k p n e = rw (same_number {A = A} k n e) at p

  pub of_mapped : {A B : Type 0} (g : A → B) (x : Answer A) → RefusedOnly P x → RefusedOnly P (mapped g x)
  of_mapped g (answer a) f = answers (g a)
  of_mapped g (Ans.refused n) f = refuses n (f n refl)

  module _ (p23 : P 23) where
    of_tests : (a b c : Bool) (at : ℕ) → (a ≡ true → P 20) → RefusedOnly P (cond a (Ans.refused 20) (cond b (cond c (answer at) (Ans.refused 23)) (Ans.refused 23)))
    of_tests true b c at h = refuses 20 (h refl)
    of_tests false true true at h = answers at
    of_tests false true false at h = refuses 23 p23
    of_tests false false c at h = refuses 23 p23

    of_place : (id : BspFileSectionId) (z : BspFileSection) (n i : ℕ) → (record_count id z ≤ i → P 20) → RefusedOnly P (place id z n i)
    unfolding place
    of_place id z n i h =
        of_tests (leb (record_count id z) i) (within_limit id (record_count id z)) (leb (z.offset + i * element_size id + element_size id) n) (z.offset + i * element_size id)
        (λ e. h (leb-true _ _ e))

    of_reading : {A : Type 0} (x : Step A) → RefusedOnly P (reading x)
    of_reading (Step.ok v p) = answers v
    of_reading (Step.refused n) = refuses 23 p23

    of_read : {A : Type 0} (x : Answer ℕ) (one : ℕ → Step A) → RefusedOnly P x → RefusedOnly P (read_at x one)
    of_read (answer at) one f = of_reading (one at)
    of_read (Ans.refused n) one f = refuses n (f n refl)

    module _ {A : Type 0} (id : BspFileSectionId) (one : List ℕ → ℕ → Step A) (s : List ℕ) (m : BspData) (i : ℕ) where
      -- a record is refused with 20 and 23 alone, whatever the file and the map record
      pub of_record : (record_count id (section_of id m) ≤ i → P 20) → RefusedOnly P (record_of id one s m i)
      unfolding record_of
      of_record h = of_read (place id (section_of id m) (length s) i) (λ at. one s at) (of_place id (section_of id m) (length s) i h)

      -- and one in range with 23
      in_range : i < record_count id (section_of id m) → RefusedOnly P (record_of id one s m i)
      in_range h = of_record (λ l. absurd (omega arith))

  -- an element of a list is there
  of_nth : {A : Type 0} (l : List A) (i : ℕ) → i < length l → RefusedOnly P (nth l i)
  of_nth [] i h = absurd (omega arith)
  of_nth (x ∷ xs) zero h = answers x
  of_nth (x ∷ xs) (suc i) h = of_nth xs i (omega arith)

  -- ---- the tables of a hull

  module _ (p23 : P 23) (s : List ℕ) (m : BspData) where
    of_end : (e : End) → leaf_in (record_count Leaves m.leaves) e ≡ true → RefusedOnly P (contents_of_end s m e)
    of_end (contents c) h = answers c
    of_end (leaf n) h = of_mapped leaf_contents (leaf_of s m n) (in_range p23 Leaves leaf_at s m n (ltb-true _ _ h))
    of_end nothing h = refuses 23 p23

    of_box_end : (e : End) → leaf_in 0 e ≡ true → RefusedOnly P (contents_in_box e)
    of_box_end (contents c) h = answers c
    of_box_end (leaf n) h = let l : n < 0 = ltb-true n 0 h in absurd (omega arith)
    of_box_end nothing h = refuses 23 p23

    own : (table : HullTable) (mins maxs : Vector3) → Own P (table_of s m table mins maxs)
    unfolding table_of
    own Render mins maxs = record {
      nodes_refuse = λ i n h. of_mapped render_node (render_node_of s m i) (in_range p23 RenderNodes render_node_at s m i h) n;
      planes_refuse = λ i n h. in_range p23 Planes plane_at s m i h n;
      leaves_refuse = λ e n h. of_end e h n;
    }
    own Clip mins maxs = record {
      nodes_refuse = λ i n h. of_mapped clip_node (collision_node_of s m i) (in_range p23 CollisionNodes collision_node_at s m i h) n;
      planes_refuse = λ i n h. in_range p23 Planes plane_at s m i h n;
      leaves_refuse = λ e n h. of_end e h n;
    }
    own Box mins maxs = record {
      nodes_refuse = λ i n h. of_nth box_nodes i h n;
      planes_refuse = λ i n h. of_nth (box_planes mins maxs) i h n;
      leaves_refuse = λ e n h. of_box_end e h n;
    }

    module _ (p30 : P 30) where
      of_leaf_end : (e : End) → RefusedOnly P (leaf_of_end e)
      of_leaf_end (contents c) = refuses 30 p30
      of_leaf_end (leaf n) = answers n
      of_leaf_end nothing = refuses 30 p30

      own_leaves : Own P (leaf_table s m)
      unfolding leaf_table
      own_leaves = record {
        nodes_refuse = λ i n h. of_mapped render_node (render_node_of s m i) (in_range p23 RenderNodes render_node_at s m i h) n;
        planes_refuse = λ i n h. in_range p23 Planes plane_at s m i h n;
        leaves_refuse = λ e n h. of_leaf_end e n;
      }

-- ---- walks and traces

of_outcome : {A : Type 0} (P : ℕ → Type 0) (o : Outcome A) → ((n : ℕ) → o ≡ refused n → P n) → RefusedOnly P (with_visits o)
of_outcome P (done a ns) f = answers P _
of_outcome P (refused n) f = refuses P n (f n refl)

module _ (s : List ℕ) (m : BspData) (hull : BspCollisionHull) (P Q : ℕ → Type 0) (p23 : P 23) (p30 : P 30) (p31 : P 31) (q23 : Q 23) (q30 : Q 30) (q32 : Q 32) where
  refusals : Refusals P Q s m hull
  refusals = record {
    contents = λ p. of_outcome P (point_walk (hull_table s m hull) hull.node_id p)
        (walk_refuses P (hull_table s m hull) (own P p23 s m hull.table hull.mins hull.maxs) p30 p31 p _ hull.node_id);
    leaf = λ root p. of_outcome P (point_walk (leaf_table s m) root p) (walk_refuses P (leaf_table s m) (own_leaves P p23 s m p30) p30 p31 p _ root);
    trace = λ start end. of_outcome Q (Tracing.trace (hull_table s m hull) hull.node_id start end)
        (trace_refuses Q (hull_table s m hull) (own Q q23 s m hull.table hull.mins hull.maxs) q30 q32 512 hull.node_id start end);
  }

pub every_refusal : EveryRefusal
every_refusal s m hull = refusals s m hull (OneOf of_walks) (OneOf of_traces) (inl refl) (inr (inl refl)) (inr (inr (inl refl))) (inl refl) (inr (inl refl)) (inr (inr (inl refl)))

pub never_panics : NeverPanics
never_panics s m hull = refusals s m hull _ _ (λ e. omega arith) (λ e. omega arith) (λ e. omega arith) (λ e. omega arith) (λ e. omega arith) (λ e. omega arith)

pub never_no_such_record : NeverNoSuchRecord
never_no_such_record s m hull = refusals s m hull _ _ (λ e. omega arith) (λ e. omega arith) (λ e. omega arith) (λ e. omega arith) (λ e. omega arith) (λ e. omega arith)
