-- Edges, the list of edges and the list of faces.
use Rattle.std.specs.Prelude.{ℕ, cond, List, ℤ, pos, nat_abs}
use Rattle.std.specs.Int.Signed.{lt_z}
use Rattle.std.specs.Int.{w32, w64}
use Rattle.std.proofs.Common.{of_z}
use Rattle.format.specs.Step.{Step, ok, and_then}
use Rattle.format.specs.Answer.{Answer}
use Rattle.format.specs.Field.{u16_at, i32_at}
use Rattle.format.specs.Code.{negated}
use Rattle.format.specs.declared.section.BspData.{BspData}
use Rattle.format.specs.declared.section.BspFileSectionId.TheVariants.{FaceList, Edges, EdgeList}
use Rattle.records.specs.Access.{record_of}
use Rattle.records.specs.declared.edge.BspEdge.{BspEdge}
use Rattle.records.specs.declared.edge.BspEdgeDirection.TheVariants.{Forward, Backward}
use Rattle.records.specs.declared.edge.BspEdgeIndex.{BspEdgeIndex}

unfoldable pub edge_at : List ℕ → ℕ → Step BspEdge
edge_at s at =
    and_then (u16_at s at) (λ a p.
    and_then (u16_at s p) (λ b next.
    ok (record { vertex_id_0 = a; vertex_id_1 = b }) next))

-- an entry x of the list of edges: the edge x, or if x is negative the edge `-x as usize`, walked backward
unfoldable pub edge_index : ℤ → BspEdgeIndex
edge_index x =
    cond (lt_z x (pos 0))
    (record { direction = Backward; index = of_z w64 (negated w32 x) })
    (record { direction = Forward; index = nat_abs x })

unfoldable pub edge_index_at : List ℕ → ℕ → Step BspEdgeIndex
edge_index_at s at = and_then (i32_at s at) (λ x p. ok (edge_index x) p)

-- by index
abbrev pub edge_of : List ℕ → BspData → ℕ → Answer BspEdge
edge_of s m i = record_of Edges edge_at s m i

abbrev pub edgelist_of : List ℕ → BspData → ℕ → Answer BspEdgeIndex
edgelist_of s m i = record_of EdgeList edge_index_at s m i

abbrev pub facelist_of : List ℕ → BspData → ℕ → Answer ℕ
facelist_of s m i = record_of FaceList u16_at s m i
