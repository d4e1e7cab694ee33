-- Render nodes (`load_render_node`) and collision nodes.
use Rattle.std.specs.Prelude.{Option, Some, None, ℕ, cond, List, ℤ, pos, negsuc, nat_abs, ◌-ℤ◌}
use Rattle.std.specs.Int.Signed.{lt_z}
use Rattle.std.specs.Int.{w16}
use Rattle.format.specs.Step.{Step, ok, refused, and_then}
use Rattle.format.specs.Answer.{Answer}
use Rattle.format.specs.Field.{i16_at, u16_at, index_at}
use Rattle.format.specs.Code.{negated_contents}
use Rattle.format.specs.declared.contents.BspLeafContents.{BspLeafContents}
use Rattle.format.specs.declared.section.BspData.{BspData}
use Rattle.format.specs.declared.section.BspFileSectionId.TheVariants.{RenderNodes, CollisionNodes}
use Rattle.records.specs.Access.{record_of}
use Rattle.records.specs.Number.{index16_at}
use Rattle.records.specs.Triple.{point_at}
use Rattle.records.specs.declared.node.BspRenderNodeChild.{BspRenderNodeChild}
use Rattle.records.specs.declared.node.BspRenderNodeChild.TheVariants as RenderChild
use Rattle.records.specs.declared.node.BspRenderNode.{BspRenderNode}
use Rattle.records.specs.declared.node.BspCollisionNodeChild.{BspCollisionNodeChild}
use Rattle.records.specs.declared.node.BspCollisionNodeChild.TheVariants as CollisionChild
use Rattle.records.specs.declared.node.BspCollisionNode.{BspCollisionNode}

-- a child f: a node, or if it is negative the leaf -1 - f
unfoldable pub render_child : ℤ → BspRenderNodeChild
render_child f = cond (lt_z f (pos 0)) (RenderChild.Leaf (nat_abs (negsuc 0 -ℤ f))) (RenderChild.Node (nat_abs f))

unfoldable pub render_child_at : List ℕ → ℕ → Step BspRenderNodeChild
render_child_at s at = and_then (i16_at s at) (λ f p. ok (render_child f) p)

-- The box and the faces. The Rust also refuses a face count above 65,535, which no u16 is.
unfoldable pub render_node_end_at : ℕ → BspRenderNodeChild → BspRenderNodeChild → List ℕ → ℕ → Step BspRenderNode
render_node_end_at plane front back s at =
    and_then (point_at s at) (λ low p.
    and_then (point_at s p) (λ high q.
    and_then (index16_at s q) (λ face t.
    and_then (u16_at s t) (λ count next.
    ok (record {
      plane_id = plane;
      front = front;
      back = back;
      min = low;
      max = high;
      face_id = face;
      face_count = count;
    }) next))))

unfoldable pub render_node_at : List ℕ → ℕ → Step BspRenderNode
render_node_at s at =
    and_then (index_at 10 s at) (λ plane p.
    and_then (render_child_at s p) (λ front q.
    and_then (render_child_at s q) (λ back t.
    render_node_end_at plane front back s t)))

-- contents, or 10
abbrev pub with_contents : {A : Type 0} → Option BspLeafContents → (BspLeafContents → Step A) → Step A
with_contents (Some c) k = k c
with_contents None k = refused 10

-- a child x: a node, or if it is negative the contents of the code -x
abbrev pub collision_child : ℤ → ℕ → Step BspCollisionNodeChild
collision_child x p =
    cond (lt_z x (pos 0))
    (with_contents (negated_contents w16 x) (λ c. ok (CollisionChild.Contents c) p))
    (ok (CollisionChild.Node (nat_abs x)) p)

unfoldable pub collision_child_at : List ℕ → ℕ → Step BspCollisionNodeChild
collision_child_at s at = and_then (i16_at s at) (λ x p. collision_child x p)

unfoldable pub collision_node_at : List ℕ → ℕ → Step BspCollisionNode
collision_node_at s at =
    and_then (index_at 10 s at) (λ plane p.
    and_then (collision_child_at s p) (λ front q.
    and_then (collision_child_at s q) (λ back next.
    ok (record { plane_id = plane; front = front; back = back }) next)))

-- by index
abbrev pub render_node_of : List ℕ → BspData → ℕ → Answer BspRenderNode
render_node_of s m i = record_of RenderNodes render_node_at s m i

abbrev pub collision_node_of : List ℕ → BspData → ℕ → Answer BspCollisionNode
collision_node_of s m i = record_of CollisionNodes collision_node_at s m i
