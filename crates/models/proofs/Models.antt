-- Laws of models: the leaves before one, and that no leaf range wraps.
-- Assumes nothing.
use Rattle.std.proofs.Common.{◌≡◌, ℕ, zero, suc, ◌+◌, ◌-◌, ◌*◌, ◌^◌, ◌<◌, ◌≤◌, List, refl, ap, mod-eq_of_lt, suc-mul, add-one, arith, leb-true}
use Rattle.format.specs.Answer.{Answer, answer, refused, then_answer}
use Rattle.format.specs.Step.{Step, ok, refused as stopped, and_then}
use Rattle.format.specs.Field.{i32_at, index_at}
use Rattle.format.specs.Section.{record_count}
use Rattle.format.specs.declared.section.BspData.{BspData}
use Rattle.format.specs.declared.section.BspFileSectionId.TheVariants.{CollisionNodes, Models}
use Rattle.models.specs.Model.{bounds_at, roots_at, file_model_at, file_model_end_at, file_model_of, leaf_id_of, with_rest, model_of, leaf_range}
use Rattle.models.specs.declared.model.PerHull.{PerHull}
use Rattle.models.specs.declared.model.ModelBounds.{ModelBounds}
use Rattle.models.specs.declared.model.BspModel.{BspModel}
use Rattle.models.specs.declared.model.LeafRange.{LeafRange}
use Rattle.models.specs.declared.model.BspFileModel.{BspFileModel}
use Rattle.records.proofs.Readable.{past, was_read, limited, counted}
use Rattle.format.proofs.Steps.{went, index_small}

module _ (s : List ℕ) (m : BspData) where
  -- there are at most 256 models where one is readable
  pub few : (i : ℕ) (f : BspFileModel) → file_model_of s m i ≡ answer f → i < 256
  few i f e =
      omega
      (arith, counted Models file_model_at s m i f e, leb-true (record_count Models m.models) 256 (limited Models file_model_at s m i f e))

  pub step : (i total : ℕ) (f : BspFileModel) → leaf_id_of s m i ≡ answer total → file_model_of s m i ≡ answer f
      → leaf_id_of s m (i + 1) ≡ answer (total + f.leaf_count)
  unfolding leaf_id_of
  step i total f e g = rw (add-one i, e, g)

  -- a refusal stays for every model after
  stays : (k i j n : ℕ) → j ≡ k + i → leaf_id_of s m i ≡ refused n → leaf_id_of s m j ≡ refused n
  unfolding leaf_id_of
  stays zero i j n q e = let z : j ≡ i = omega arith in rw z e
  stays (suc k) i zero n q e = absurd (omega arith)
  stays (suc k) i (suc j) n q e = rw (stays k i j n (omega arith) e)

  ends : (i total e : ℕ) → leaf_id_of s m i ≡ answer total → file_model_of s m i ≡ refused e → leaf_id_of s m (i + 1) ≡ refused e
  unfolding leaf_id_of
  ends i total e a b = rw (add-one i, a, b)

  pub stop : (i n total e : ℕ) → i < n → leaf_id_of s m i ≡ answer total → file_model_of s m i ≡ refused e → leaf_id_of s m n ≡ refused e
  stop i n total e h a b =
      stays (n - (i + 1)) (i + 1) n e (omega arith) (ends i total e a b)

abbrev counts : Step BspFileModel → ℕ
counts (ok f p) = f.leaf_count
counts (stopped n) = 0

abbrev range : ℕ → ℕ → LeafRange
range a b = record { first = a; last = b }

-- an index at or past the count is 20
pub model_past : (s : List ℕ) (m : BspData) (i : ℕ) → record_count Models m.models ≤ i → model_of s m i ≡ refused 20
unfolding model_of
model_past s m i h = rw (past Models file_model_at s m i h)

abbrev made : ModelBounds → PerHull → ℕ → ℕ → ℕ → BspFileModel
made bounds roots leaves face faces = record { bounds = bounds; collision_node_ids = roots; leaf_count = leaves; face_id = face; face_count = faces }

end_small : (bounds : ModelBounds) (roots : PerHull) (s : List ℕ) (at : ℕ) (f : BspFileModel) (p : ℕ) → file_model_end_at bounds roots s at ≡ ok f p → f.leaf_count < 2 ^ 31
unfolding file_model_end_at
end_small bounds roots s at f p e =
    let a = went (index_at 10 s at) (λ leaves q. and_then (index_at 10 s q) (λ face t. and_then (index_at 10 s t) (λ faces next. ok (made bounds roots leaves face faces) next))) f p e in
    let b = went (index_at 10 s a.at) (λ face t. and_then (index_at 10 s t) (λ faces next. ok (made bounds roots a.value face faces) next)) f p a.rest in
    let c = went (index_at 10 s b.at) (λ faces next. ok (made bounds roots a.value b.value faces) next) f p b.rest in
    let z : a.value ≡ f.leaf_count = ap counts c.rest in
    omega (arith, z, index_small 10 s at a.value a.at a.first)

-- a leaf count is an i32 that is not negative
pub leaf_count_small : (s : List ℕ) (at : ℕ) (f : BspFileModel) (p : ℕ) → file_model_at s at ≡ ok f p → f.leaf_count < 2 ^ 31
unfolding file_model_at
leaf_count_small s at f p e =
    let a = went (bounds_at s at) (λ bounds q. and_then (roots_at s q) (λ roots t. and_then (i32_at s t) (λ unused u. file_model_end_at bounds roots s u))) f p e in
    let b = went (roots_at s a.at) (λ roots t. and_then (i32_at s t) (λ unused u. file_model_end_at a.value roots s u)) f p a.rest in
    let c = went (i32_at s b.at) (λ unused u. file_model_end_at a.value b.value s u) f p b.rest in
    end_small a.value b.value s c.at f p c.rest

module _ (s : List ℕ) (m : BspData) where
  own_small : (i : ℕ) (f : BspFileModel) → file_model_of s m i ≡ answer f → f.leaf_count < 2 ^ 31
  own_small i f e = let r = was_read Models file_model_at s m i f e in leaf_count_small s r.at f r.next r.reads

  -- the leaves before model i are fewer than i times 2^31
  pub leaves_before : (i n : ℕ) → leaf_id_of s m i ≡ answer n → n ≤ i * 2 ^ 31
  unfolding leaf_id_of
  leaves_before zero n e = let z : 0 ≡ n = cc in omega arith
  leaves_before (suc i) n e = by (leaf_id_of s m i) refl (file_model_of s m i) refl e (leaves_before i)
    where
      by : (x : Answer ℕ) → leaf_id_of s m i ≡ x → (y : Answer BspFileModel) → file_model_of s m i ≡ y
          → then_answer x (λ total. then_answer y (λ f. answer (total + f.leaf_count))) ≡ answer n
          → ((n : ℕ) → leaf_id_of s m i ≡ answer n → n ≤ i * 2 ^ 31) → n ≤ suc i * 2 ^ 31
      by (answer t) h (answer f) g e again =
          let z : t + f.leaf_count ≡ n = cc in
          omega (arith, again t h, own_small i f g, suc-mul i (2 ^ 31))
      by (answer t) h (refused k) g e again = let z : ◌≡◌ {A = ℕ} 0 1 = cc in absurd (omega arith)
      by (refused k) h y g e again = let z : ◌≡◌ {A = ℕ} 0 1 = cc in absurd (omega arith)

  -- the leaf range of a model does not wrap: its last leaf is leaf_id + leaf_count
  pub no_wrap : (i : ℕ) (b : BspModel) → model_of s m i ≡ answer b → leaf_range b ≡ record { first = b.leaf_id; last = b.leaf_id + b.leaf_count }
  unfolding model_of
  no_wrap i b e = by (file_model_of s m i) refl (leaf_id_of s m i) refl e
    where
      by : (x : Answer BspFileModel) → file_model_of s m i ≡ x → (y : Answer ℕ) → leaf_id_of s m i ≡ y
          → then_answer x (λ f. then_answer y (λ first. answer (with_rest (record_count CollisionNodes m.collision_nodes) first f))) ≡ answer b
          → leaf_range b ≡ record { first = b.leaf_id; last = b.leaf_id + b.leaf_count }
      by (answer f) g (answer t) h e =
          let z : with_rest (record_count CollisionNodes m.collision_nodes) t f ≡ b = cc in
          let p : t + f.leaf_count < 2 ^ 64 = omega (arith, few s m i f g, own_small i f g, leaves_before i t h) in
          rw (← z) (ap (λ (n : ℕ). range t n) (mod-eq_of_lt p))
      by (answer f) g (refused k) h e = let z : ◌≡◌ {A = ℕ} 0 1 = cc in absurd (omega arith)
      by (refused k) g y h e = let z : ◌≡◌ {A = ℕ} 0 1 = cc in absurd (omega arith)
