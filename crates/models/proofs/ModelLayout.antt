-- The reader of a model's own record whose bytes lie in the file reads exactly the fields of its layout. The root of the fourth hull is not used.
-- Assumes nothing.
use Rattle.std.proofs.Common.{◌≡◌, ℕ, ◌+◌, ◌≤◌, List, length, sym, refl, add-zero, lit≤}
use Rattle.math.specs.Vector.{vector}
use Rattle.format.specs.Step.{ok, and_then}
use Rattle.format.specs.Field.{index_at, not_negative}
use Rattle.format.specs.Layout as Layout
use Rattle.format.specs.Layout.{int, float}
use Rattle.format.proofs.Layouts.{i32_at_lem, f32_at_lem, either}
use Rattle.records.specs.Triple.{vector_at}
use Rattle.models.specs.Model.{padded_bounds, bounds_at, roots_at, file_model_at, file_model_end_at}

pub model_layout : (s : List ℕ) (at : ℕ) → at + (Layout.model).size ≤ length s
    → file_model_at s at
    ≡ and_then (not_negative 10 (int Layout.model 9 s at) (at + 40)) (λ a p.
    and_then (not_negative 10 (int Layout.model 10 s at) (at + 44)) (λ b p.
    and_then (not_negative 10 (int Layout.model 11 s at) (at + 48)) (λ c p.
    and_then (not_negative 10 (int Layout.model 13 s at) (at + 56)) (λ leaves p.
    and_then (not_negative 10 (int Layout.model 14 s at) (at + 60)) (λ face p.
    and_then (not_negative 10 (int Layout.model 15 s at) (at + 64)) (λ faces p.
    ok (record {
      bounds = padded_bounds
          (vector (float Layout.model 0 s at) (float Layout.model 1 s at) (float Layout.model 2 s at))
          (vector (float Layout.model 3 s at) (float Layout.model 4 s at) (float Layout.model 5 s at))
          (vector (float Layout.model 6 s at) (float Layout.model 7 s at) (float Layout.model 8 s at));
      collision_node_ids = record { hull_0 = a; hull_1 = b; hull_2 = c };
      leaf_count = leaves;
      face_id = face;
      face_count = faces;
    }) (at + (Layout.model).size)))))))
unfolding file_model_at file_model_end_at bounds_at roots_at vector_at index_at
model_layout s at h =
    simp
    (either, f32_at_lem s at 64 h 0 at (sym (add-zero at)) (lit≤ tt), f32_at_lem s at 64 h 4 (at + 4) refl (lit≤ tt), f32_at_lem s at 64 h 8 (at + 8) refl (lit≤ tt), f32_at_lem s at 64 h 12 (at + 12) refl (lit≤ tt), f32_at_lem s at 64 h 16 (at + 16) refl (lit≤ tt), f32_at_lem s at 64 h 20 (at + 20) refl (lit≤ tt), f32_at_lem s at 64 h 24 (at + 24) refl (lit≤ tt), f32_at_lem s at 64 h 28 (at + 28) refl (lit≤ tt), f32_at_lem s at 64 h 32 (at + 32) refl (lit≤ tt), i32_at_lem s at 64 h 36 (at + 36) refl (lit≤ tt), i32_at_lem s at 64 h 40 (at + 40) refl (lit≤ tt), i32_at_lem s at 64 h 44 (at + 44) refl (lit≤ tt), i32_at_lem s at 64 h 48 (at + 48) refl (lit≤ tt), i32_at_lem s at 64 h 52 (at + 52) refl (lit≤ tt), i32_at_lem s at 64 h 56 (at + 56) refl (lit≤ tt), i32_at_lem s at 64 h 60 (at + 60) refl (lit≤ tt))
