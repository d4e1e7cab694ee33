-- Models: box and origin, the roots of three hulls and of a fourth that is not used, leaves and faces; and what the Rust works out from
-- them and from the models before.
use Rattle.std.specs.Prelude.{ℕ, zero, suc, ◌+◌, ◌-◌, ◌%◌, ◌^◌, List, from_bits}
use Rattle.std.specs.Float.{binary32}
use Rattle.math.specs.Vector.{vector, sum, difference}
use Rattle.math.specs.declared.vector.Vector3.{Vector3}
use Rattle.format.specs.Step.{Step, ok, and_then}
use Rattle.format.specs.Answer.{Answer, then_answer}
use Rattle.format.specs.Field.{i32_at, index_at}
use Rattle.format.specs.Section.{record_count}
use Rattle.format.specs.declared.section.BspData.{BspData}
use Rattle.format.specs.declared.section.BspFileSectionId.TheVariants.{CollisionNodes, Models}
use Rattle.records.specs.Access.{record_of}
use Rattle.records.specs.Triple.{vector_at}
use Rattle.models.specs.declared.model.PerHull.{PerHull}
use Rattle.models.specs.declared.model.ModelBounds.{ModelBounds}
use Rattle.models.specs.declared.model.BspFileModel.{BspFileModel}
use Rattle.models.specs.declared.model.BspModel.{BspModel}
use Rattle.models.specs.declared.model.LeafRange.{LeafRange}

abbrev pub ones : Vector3
ones = vector (from_bits binary32 0x3f80_0000) (from_bits binary32 0x3f80_0000) (from_bits binary32 0x3f80_0000)

-- min less 1 and max plus 1 on each axis
unfoldable pub padded_bounds : Vector3 → Vector3 → Vector3 → ModelBounds
padded_bounds low high origin = record { min = difference low ones; max = sum high ones; origin = origin }

unfoldable pub bounds_at : List ℕ → ℕ → Step ModelBounds
bounds_at s at =
    and_then (vector_at s at) (λ low p.
    and_then (vector_at s p) (λ high q.
    and_then (vector_at s q) (λ origin next.
    ok (padded_bounds low high origin) next)))

unfoldable pub roots_at : List ℕ → ℕ → Step PerHull
roots_at s at =
    and_then (index_at 10 s at) (λ a p.
    and_then (index_at 10 s p) (λ b q.
    and_then (index_at 10 s q) (λ c next.
    ok (record { hull_0 = a; hull_1 = b; hull_2 = c }) next)))

-- the leaf count and the faces
unfoldable pub file_model_end_at : ModelBounds → PerHull → List ℕ → ℕ → Step BspFileModel
file_model_end_at bounds roots s at =
    and_then (index_at 10 s at) (λ leaves p.
    and_then (index_at 10 s p) (λ face q.
    and_then (index_at 10 s q) (λ faces next.
    ok (record {
      bounds = bounds;
      collision_node_ids = roots;
      leaf_count = leaves;
      face_id = face;
      face_count = faces;
    }) next)))

-- a model's own record
unfoldable pub file_model_at : List ℕ → ℕ → Step BspFileModel
file_model_at s at =
    and_then (bounds_at s at) (λ bounds p.
    and_then (roots_at s p) (λ roots q.
    and_then (i32_at s q) (λ unused t.
    file_model_end_at bounds roots s t)))

-- a model's own record by its index
abbrev pub file_model_of : List ℕ → BspData → ℕ → Answer BspFileModel
file_model_of s m i = record_of Models file_model_at s m i

-- the leaf counts of the models before an index, added up
unfoldable pub leaf_id_of : List ℕ → BspData → ℕ → Answer ℕ
leaf_id_of s m zero = Answer.answer 0
leaf_id_of s m (suc n) =
    then_answer (leaf_id_of s m n) (λ total.
    then_answer (file_model_of s m n) (λ f.
    Answer.answer (total + f.leaf_count)))

-- a - b in 64 bits, as a release build wraps it
abbrev pub wrapping_sub : ℕ → ℕ → ℕ
wrapping_sub a b = (a + (2 ^ 64 - b)) % 2 ^ 64

-- the clip node total less each root
abbrev pub node_counts : ℕ → PerHull → PerHull
node_counts n r = record { hull_0 = wrapping_sub n r.hull_0; hull_1 = wrapping_sub n r.hull_1; hull_2 = wrapping_sub n r.hull_2 }

-- the model of its own record, the clip node total and the leaves before it
abbrev pub with_rest : ℕ → ℕ → BspFileModel → BspModel
with_rest n first f = record {
  min = f.bounds.min;
  max = f.bounds.max;
  origin = f.bounds.origin;
  collision_node_ids = f.collision_node_ids;
  collision_node_counts = node_counts n f.collision_node_ids;
  leaf_id = first;
  leaf_count = f.leaf_count;
  face_id = f.face_id;
  face_count = f.face_count;
}

-- the model of an index
unfoldable pub model_of : List ℕ → BspData → ℕ → Answer BspModel
model_of s m i =
    then_answer (file_model_of s m i) (λ f.
    then_answer (leaf_id_of s m i) (λ first.
    Answer.answer (with_rest (record_count CollisionNodes m.collision_nodes) first f)))

-- The leaves of a model, `iter_leaves`: from `leaf_id` to `leaf_id + leaf_count`, both included. The sum is in 64 bits; of a model
-- that `model_of` answers it does not wrap (`Models.no_wrap`).
abbrev pub leaf_range : BspModel → LeafRange
leaf_range b = record { first = b.leaf_id; last = (b.leaf_id + b.leaf_count) % 2 ^ 64 }
