-- The hull of a model that `model` answers too is that of its roots and node counts.
-- Assumes nothing.
use Prim.Native.Nat.{ℕ, ◌<◌}
use mathlib.Core.Path.{◌≡◌, refl}
use mathlib.Core.List.{List}
use native.Mathlib.Omega.{arith}
use borrow.Author.Tests.{lt-ltb}
use Rattle.format.specs.Answer as Ans
use Rattle.format.specs.Answer.{Answer, answer, then_answer}
use Rattle.format.specs.Section.{record_count}
use Rattle.format.specs.declared.section.BspData.{BspData}
use Rattle.format.specs.declared.section.BspFileSectionId.TheVariants.{CollisionNodes}
use Rattle.models.specs.Model.{file_model_of, leaf_id_of, with_rest, model_of}
use Rattle.models.specs.declared.model.BspFileModel.{BspFileModel}
use Rattle.models.specs.declared.model.BspModel.{BspModel}
use Rattle.hull.specs.Hull.{hull_of, own_hull, hull}

module _ (s : List ℕ) (m : BspData) (i j : ℕ) where
  -- where the models before are readable too, so that `model` answers
  pub hull_of_model : (b : BspModel) → j < 3 → model_of s m i ≡ answer b → hull s m i j ≡ hull_of b.collision_node_ids b.collision_node_counts j
  unfolding hull model_of
  hull_of_model b h e = simp (lt-ltb j 3 h) (by (file_model_of s m i) (leaf_id_of s m i) e)
    where
      n : ℕ
      n = record_count CollisionNodes m.collision_nodes

      by : (x : Answer BspFileModel) (y : Answer ℕ) → then_answer x (λ f. then_answer y (λ first. answer (with_rest n first f))) ≡ answer b
          → then_answer x (own_hull n j) ≡ hull_of b.collision_node_ids b.collision_node_counts j
      by (answer f) (answer first) e = let z : with_rest n first f ≡ b = cc in rw (← z) refl
      by (answer f) (Ans.refused k) e = let z : ◌≡◌ {A = ℕ} 0 1 = cc in absurd (omega arith)
      by (Ans.refused k) y e = let z : ◌≡◌ {A = ℕ} 0 1 = cc in absurd (omega arith)
