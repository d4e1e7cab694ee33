-- Hulls with the hall's own sizes beside those of the Rust, and beside one another (specs/AnySizes.antt): a hull of a model goes by its nodes,
-- and not by its bounds. Assumes nothing.
use Prim.Native.Nat.{ℕ, zero, suc}
use mathlib.Core.Path.{◌≡◌, refl, sym, ap, ◌∙◌, subst}
use mathlib.Core.Bool.{Bool, true, false, cond, false≢true}
use mathlib.Core.List.{List}
use native.Mathlib.Omega.{arith}
use lib.Dec.{ltb}
use Rattle.format.specs.Answer.{Answer, answer, refused, mapped, then_answer}
use Rattle.format.specs.Section.{record_count}
use Rattle.format.specs.declared.contents.BspLeafContents.{BspLeafContents}
use Rattle.format.specs.declared.section.BspData.{BspData}
use Rattle.format.specs.declared.section.BspFileSectionId.TheVariants.{CollisionNodes}
use Rattle.walk.specs.Order.{Sized, sized_check}
use Rattle.walk.specs.Table.{Table}
use Rattle.walk.specs.Walk.{with_visits, point_walk}
use Rattle.walk.specs.Tracing as Tracing
use Rattle.models.specs.Model.{file_model_of}
use Rattle.models.specs.declared.model.BspFileModel.{BspFileModel}
use Rattle.models.specs.declared.model.PerHull.{PerHull}
use Rattle.nodes.specs.Tables.{End, nodes_of, table_of, leaf_table, is_box}
use Rattle.sizes.specs.declared.BodySizes.{BodySizes}
use Rattle.hull.specs.Hull as Hull
use Rattle.hull.specs.Hull.{hull_of, own_hull, sized_hull, check_hull, with_fields, with_size}
use Rattle.hull.specs.Sizes.{Zeros}
use Rattle.hull.specs.declared.collision.BspCollisionHull.{BspCollisionHull}
use Rattle.hull.proofs.Sizes.{zero_before}
use Rattle.sized_hulls.specs.Sized.{with_body, hull_sized, built_in_sizes}
use Rattle.sized_hulls.specs.AnySizes.{bounds_of, no_bounds, SameButBounds, AsWithout, from, tree_size, SameCheck, AnySizes}

-- ---- answers

module _ {A : Type 0} (w : BspCollisionHull → BspCollisionHull) (f : BspCollisionHull → Answer A) where
  through : (x : Answer BspCollisionHull) → then_answer (mapped w x) f ≡ then_answer x (λ h. f (w h))
  through (answer h) = refl
  through (refused n) = refl

as_then : (w : BspCollisionHull → BspCollisionHull) (x : Answer BspCollisionHull) → mapped w x ≡ then_answer x (λ h. answer (w h))
as_then w (answer h) = refl
as_then w (refused n) = refl

as_it_is : (x : Answer BspCollisionHull) → then_answer x answer ≡ x
as_it_is (answer h) = refl
as_it_is (refused n) = refl

-- what is the same from each hull of a model's record is the same from `hull`
module _ {A : Type 0} (s : List ℕ) (m : BspData) (i j : ℕ) (g h : BspCollisionHull → Answer A)
    (p : (roots counts : PerHull) → then_answer (hull_of roots counts j) g ≡ then_answer (hull_of roots counts j) h) where
  alike : then_answer (Hull.hull s m i j) g ≡ then_answer (Hull.hull s m i j) h
  unfolding Hull.hull
  alike = by (file_model_of s m i) (ltb j 3)
    where
      n : ℕ
      n = record_count CollisionNodes m.collision_nodes

      by : (a : Answer BspFileModel) (t : Bool) → then_answer (cond t (then_answer a (own_hull n j)) (refused 20)) g ≡ then_answer (cond t (then_answer a (own_hull n j)) (refused 20)) h
      by (answer f) true = p f.collision_node_ids _
      by (refused n) true = refl
      by a false = refl

-- ---- beside `hull`

built_same : (j : ℕ) (roots counts : PerHull) → then_answer (hull_of roots counts j) (λ h. answer (with_body built_in_sizes j h)) ≡ then_answer (hull_of roots counts j) answer
built_same zero roots counts = refl
built_same (suc zero) roots counts = refl
built_same (suc (suc zero)) roots counts = refl
built_same (suc (suc (suc j))) roots counts = refl

but_bounds : (z : BodySizes) (j : ℕ) (a : BspCollisionHull) → SameButBounds a (with_body z j a)
but_bounds z zero a = record { same_table = refl; same_root = refl; same_count = refl; same_nodes = refl; same_height = refl }
but_bounds z (suc zero) a = record { same_table = refl; same_root = refl; same_count = refl; same_nodes = refl; same_height = refl }
but_bounds z (suc (suc j)) a = record { same_table = refl; same_root = refl; same_count = refl; same_nodes = refl; same_height = refl }

keeps_zeros : (z : BodySizes) (j : ℕ) (a : BspCollisionHull) → Zeros a → Zeros (with_body z j a)
keeps_zeros z j a e = let b = but_bounds z j a in record { no_nodes = sym b.same_nodes ∙ e.no_nodes; no_height = sym b.same_height ∙ e.no_height }

keeps_hull_0 : (z : BodySizes) (x : Answer BspCollisionHull) → mapped (with_body z 0) x ≡ x
keeps_hull_0 z (answer h) = refl
keeps_hull_0 z (refused n) = refl

-- what a sized hull that was answered is made of
made : (z : BodySizes) (j : ℕ) (x : Answer BspCollisionHull) (b : BspCollisionHull) → mapped (with_body z j) x ≡ answer b
    → (a : BspCollisionHull) × (x ≡ answer a) × (with_body z j a ≡ b)
made z j (answer a) b e = (a, refl, let w : with_body z j a ≡ b = cc in w)
made z j (refused n) b e = let w : ◌≡◌ {A = ℕ} 0 1 = cc in absurd (omega arith)

-- what is the same of each hull of a model's record is so of what `hull` answers
all_of : {A : Type 0} (f : BspCollisionHull → A) (v : A) (s : List ℕ) (m : BspData) (i j : ℕ)
    → ((roots counts : PerHull) → then_answer (hull_of roots counts j) (λ h. answer (f h)) ≡ then_answer (hull_of roots counts j) (λ h. answer v))
    → (a : BspCollisionHull) → Hull.hull s m i j ≡ answer a → f a ≡ v
all_of f v s m i j p a e =
    let q = alike s m i j (λ h. answer (f h)) (λ h. answer v) p in
    let w : answer (f a) ≡ answer v = sym (ap (λ x. then_answer x (λ h. answer (f h))) e) ∙ q ∙ ap (λ x. then_answer x (λ h. answer v)) e in
    let u : f a ≡ v = cc in u

-- a model has no box
pub no_box : (s : List ℕ) (m : BspData) (i j : ℕ) (a : BspCollisionHull) → Hull.hull s m i j ≡ answer a → is_box a.table ≡ false
no_box s m i j = all_of (λ h. is_box h.table) false s m i j (by j)
  where
    by : (j : ℕ) (roots counts : PerHull) → then_answer (hull_of roots counts j) (λ h. answer (is_box h.table)) ≡ then_answer (hull_of roots counts j) (λ h. answer false)
    by zero roots counts = refl
    by (suc zero) roots counts = refl
    by (suc (suc zero)) roots counts = refl
    by (suc (suc (suc j))) roots counts = refl

module _ (s : List ℕ) (m : BspData) (z : BodySizes) (i : ℕ) where
  pub as_without : AsWithout s m z i
  unfolding hull_sized
  as_without = record {
    built_in = λ j. as_then (with_body built_in_sizes j) (Hull.hull s m i j) ∙ alike s m i j (λ h. answer (with_body built_in_sizes j h)) answer (built_same j) ∙ as_it_is (Hull.hull s m i j);
    refused_too = λ j n e. ap (mapped (with_body z j)) e;
    answered_too = λ j a e. (with_body z j a, ap (mapped (with_body z j)) e, but_bounds z j a);
    size_unknown = λ j b e. let k = made z j (Hull.hull s m i j) b e in subst Zeros k.2 (keeps_zeros z j k.0 (zero_before.of_model s m i j k.0 k.1));
    hull_0 = keeps_hull_0 z (Hull.hull s m i 0);
    bounds_0 = λ b e. all_of bounds_of no_bounds s m i 0 (λ roots counts. refl) b (sym (keeps_hull_0 z (Hull.hull s m i 0)) ∙ e);
    bounds_1 = λ b e. sym (ap bounds_of (made z 1 (Hull.hull s m i 1) b e).2);
    bounds_2 = λ b e. sym (ap bounds_of (made z 2 (Hull.hull s m i 2) b e).2);
  }

-- ---- beside other sizes

-- a box has no place among a model's hulls, and the other tables go by no bounds
module _ {A : Type 0} (s : List ℕ) (m : BspData) (y z : BodySizes) (f : Table End BspLeafContents → ℕ → Answer A) where
  same_of : (j : ℕ) (roots counts : PerHull) → then_answer (hull_of roots counts j) (λ h. from s m f (with_body y j h)) ≡ then_answer (hull_of roots counts j) (λ h. from s m f (with_body z j h))
  unfolding table_of
  same_of zero roots counts = refl
  same_of (suc zero) roots counts = refl
  same_of (suc (suc zero)) roots counts = refl
  same_of (suc (suc (suc j))) roots counts = refl

-- the size that the check fills, by the fields that are the same
module _ (a b : BspCollisionHull) (e : SameButBounds a b) where
  filled : (x : Answer (ℕ × ℕ)) → mapped tree_size (mapped (λ (k : ℕ × ℕ). with_size a k.0 k.1) x) ≡ mapped tree_size (mapped (λ (k : ℕ × ℕ). with_size b k.0 k.1) x)
  filled (answer k) = ap answer (by (is_box a.table) (is_box b.table) (ap is_box e.same_table))
    where
      by : (t u : Bool) → t ≡ u → tree_size (cond t (with_fields a 0 0) (with_fields a k.0 k.1)) ≡ tree_size (cond u (with_fields b 0 0) (with_fields b k.0 k.1))
      by true true q = refl
      by false false q = refl
      by true false q = absurd (false≢true (sym q))
      by false true q = absurd (false≢true q)
  filled (refused n) = refl

  same_check : (s : List ℕ) (m : BspData) (marks : List ℕ) → SameCheck (check_hull s m a marks) (check_hull s m b marks)
  same_check s m marks =
      let c : sized_check (nodes_of s m a.table) marks a.node_id ≡ sized_check (nodes_of s m b.table) marks b.node_id = rw (e.same_table, e.same_root) in
      record {
        same_size = filled (sized_check (nodes_of s m a.table) marks a.node_id).answer ∙ ap (λ (x : Sized). mapped tree_size (sized_hull b x).answer) c;
        same_marks = ap (λ (x : Sized). x.marks) c;
      }

both_same : (a b c : BspCollisionHull) → SameButBounds a b → SameButBounds a c → SameButBounds b c
both_same a b c e f =
    record {
      same_table = sym e.same_table ∙ f.same_table;
      same_root = sym e.same_root ∙ f.same_root;
      same_count = sym e.same_count ∙ f.same_count;
      same_nodes = sym e.same_nodes ∙ f.same_nodes;
      same_height = sym e.same_height ∙ f.same_height;
    }

module _ (s : List ℕ) (m : BspData) (y z : BodySizes) (i j : ℕ) where
  whatever : {A : Type 0} (f : Table End BspLeafContents → ℕ → Answer A) → then_answer (hull_sized s m y i j) (from s m f) ≡ then_answer (hull_sized s m z i j) (from s m f)
  unfolding hull_sized
  whatever f =
      through (with_body y j) (from s m f) (Hull.hull s m i j)
      ∙ alike s m i j (λ h. from s m f (with_body y j h)) (λ h. from s m f (with_body z j h)) (same_of s m y z f j)
      ∙ sym (through (with_body z j) (from s m f) (Hull.hull s m i j))

  -- the two hulls are made of the same one
  same_fields : (a b : BspCollisionHull) → hull_sized s m y i j ≡ answer a → hull_sized s m z i j ≡ answer b → SameButBounds a b
  unfolding hull_sized
  same_fields a b p q =
      let k = made y j (Hull.hull s m i j) a p in
      let l = made z j (Hull.hull s m i j) b q in
      let w : answer k.0 ≡ answer l.0 = sym k.1 ∙ l.1 in
      let v : k.0 ≡ l.0 = cc in
      both_same k.0 a b (subst (SameButBounds k.0) k.2 (but_bounds y j k.0))
      (subst (SameButBounds k.0) (ap (with_body z j) v ∙ l.2) (but_bounds z j k.0))

  pub any_sizes : AnySizes s m y z i j
  any_sizes = record {
    whatever = whatever;
    contents = λ p. whatever (λ T root. with_visits (point_walk T root p));
    leaf = λ p. whatever (λ T root. with_visits (point_walk (leaf_table s m) root p));
    trace = λ start end. whatever (λ T root. with_visits (Tracing.trace T root start end));
    check = λ a b p q marks. same_check a b (same_fields a b p q) s m marks;
  }
