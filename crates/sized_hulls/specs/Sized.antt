-- Hulls with the hall's own body sizes (document 02, Note 10): 'An accepted file replaces the two built-in rows in every hull answer; hull 0
-- has zeros still.'
use Rattle.std.specs.Prelude.{ℕ, zero, suc, List}
use Rattle.std.specs.Float.Ieee.{neg}
use Rattle.format.specs.Answer.{Answer, mapped}
use Rattle.format.specs.declared.section.BspData.{BspData}
use Rattle.math.specs.Vector.{vector}
use Rattle.sizes.specs.Sizes.{bounds, body_sizes}
use Rattle.sizes.specs.declared.Bounds.{Bounds}
use Rattle.sizes.specs.declared.BodySizes.{BodySizes}
use Rattle.hull.specs.Hull as Hull
use Rattle.hull.specs.Hull.{f16, f24, f32, f64}
use Rattle.hull.specs.declared.collision.BspCollisionHull.{BspCollisionHull}

-- the hull with these bounds
abbrev pub with_bounds : BspCollisionHull → Bounds → BspCollisionHull
with_bounds h b =
    record {
      table = h.table;
      node_id = h.node_id;
      node_count = h.node_count;
      mins = b.mins;
      maxs = b.maxs;
      tree_nodes = h.tree_nodes;
      tree_height = h.tree_height;
    }

-- the row of the hull of an index (from 3 on there is none)
abbrev pub with_body : BodySizes → ℕ → BspCollisionHull → BspCollisionHull
with_body z zero h = h
with_body z (suc zero) h = with_bounds h z.hull_1
with_body z (suc (suc n)) h = with_bounds h z.hull_2

-- the hull j of the model i with these sizes
unfoldable pub hull_sized : List ℕ → BspData → BodySizes → ℕ → ℕ → Answer BspCollisionHull
hull_sized s m z i j = mapped (with_body z j) (Hull.hull s m i j)

-- the built-in rows
abbrev pub built_in_sizes : BodySizes
built_in_sizes =
    body_sizes
    (bounds (vector (neg f16) (neg f16) (neg f24)) (vector f16 f16 f32))
    (bounds (vector (neg f32) (neg f32) (neg f24)) (vector f32 f32 f64))
