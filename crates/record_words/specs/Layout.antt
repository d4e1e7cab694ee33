-- The words of each record, in the order of its fields in the Rust: a number is its own word, a float its 32 bits, a signed number its two's
-- complement in 64 bits.
use Rattle.std.specs.Prelude.{Option, Some, None, ℕ, List, [], ◌∷◌, ◌++◌}
use Rattle.words.specs.Words.{flag_word, float_word, signed_word}
pub use Rattle.words.specs.Words.{number_words, vector_words, plane_words}
use Rattle.format.specs.Contents.{code_of}
use Rattle.models.specs.Model.{leaf_range}
use Rattle.records.specs.declared.triple.Point.{Point}
use Rattle.records.specs.declared.node.BspRenderNodeChild.{BspRenderNodeChild}
use Rattle.records.specs.declared.node.BspRenderNodeChild.TheVariants as RenderChild
use Rattle.records.specs.declared.node.BspRenderNode.{BspRenderNode}
use Rattle.records.specs.declared.node.BspCollisionNodeChild.{BspCollisionNodeChild}
use Rattle.records.specs.declared.node.BspCollisionNodeChild.TheVariants as CollisionChild
use Rattle.records.specs.declared.node.BspCollisionNode.{BspCollisionNode}
use Rattle.records.specs.declared.texinfo.BspTexInfo.{BspTexInfo}
use Rattle.faces.specs.declared.face.BspFaceSide.{BspFaceSide}
use Rattle.faces.specs.declared.face.BspFaceSide.TheVariants.{Front, Back}
use Rattle.faces.specs.declared.face.LightStyles.{LightStyles}
use Rattle.faces.specs.declared.face.TexturePair.{TexturePair}
use Rattle.faces.specs.declared.face.BspFace.{BspFace}
use Rattle.records.specs.declared.leaf.Sounds.{Sounds}
use Rattle.records.specs.declared.leaf.BspLeaf.{BspLeaf}
use Rattle.records.specs.declared.edge.BspEdge.{BspEdge}
use Rattle.records.specs.declared.edge.BspEdgeDirection.{BspEdgeDirection}
use Rattle.records.specs.declared.edge.BspEdgeDirection.TheVariants.{Forward, Backward}
use Rattle.records.specs.declared.edge.BspEdgeIndex.{BspEdgeIndex}
use Rattle.models.specs.declared.model.PerHull.{PerHull}
use Rattle.models.specs.declared.model.BspModel.{BspModel}

abbrev pub point_words : Point → List ℕ
point_words p = signed_word p.x ∷ signed_word p.y ∷ signed_word p.z ∷ []

-- 2^64 - 1 for none
abbrev pub offset_word : Option ℕ → ℕ
offset_word None = 18446744073709551615
offset_word (Some n) = n

-- ---- nodes

abbrev pub render_child_tag : BspRenderNodeChild → ℕ
render_child_tag (RenderChild.Node n) = 0
render_child_tag (RenderChild.Leaf n) = 1

abbrev pub render_child_number : BspRenderNodeChild → ℕ
render_child_number (RenderChild.Node n) = n
render_child_number (RenderChild.Leaf n) = n

-- the plane, the children, the box, the faces
abbrev pub render_node_words : BspRenderNode → List ℕ
render_node_words n =
    (n.plane_id
    ∷ render_child_tag n.front ∷ render_child_number n.front
    ∷ render_child_tag n.back ∷ render_child_number n.back ∷ [])
    ++ point_words n.min
    ++ point_words n.max
    ++ (n.face_id ∷ n.face_count ∷ [])

abbrev pub collision_child_tag : BspCollisionNodeChild → ℕ
collision_child_tag (CollisionChild.Node n) = 0
collision_child_tag (CollisionChild.Contents c) = 1

-- the node, or the code of the contents
abbrev pub collision_child_number : BspCollisionNodeChild → ℕ
collision_child_number (CollisionChild.Node n) = n
collision_child_number (CollisionChild.Contents c) = code_of c

abbrev pub collision_node_words : BspCollisionNode → List ℕ
collision_node_words n =
    n.plane_id
    ∷ collision_child_tag n.front ∷ collision_child_number n.front
    ∷ collision_child_tag n.back ∷ collision_child_number n.back ∷ []

-- ---- surfaces

abbrev pub texinfo_words : BspTexInfo → List ℕ
texinfo_words t =
    vector_words t.s_vector ++ (float_word t.s_offset ∷ [])
    ++ vector_words t.t_vector ++ (float_word t.t_offset ∷ t.tex_id ∷ flag_word t.special ∷ [])

abbrev pub side_word : BspFaceSide → ℕ
side_word Front = 0
side_word Back = 1

abbrev pub styles_words : LightStyles → List ℕ
styles_words l = l.style_0 ∷ l.style_1 ∷ l.style_2 ∷ l.style_3 ∷ []

-- along s and along t
abbrev pub pair_words : TexturePair → List ℕ
pair_words p = signed_word p.s ∷ signed_word p.t ∷ []

abbrev pub face_words : BspFace → List ℕ
face_words f =
    (f.plane_id ∷ side_word f.side ∷ f.edge_id ∷ f.edge_count ∷ f.texinfo_id ∷ [])
    ++ styles_words f.light_styles
    ++ (offset_word f.lightmap_id ∷ [])
    ++ pair_words f.texture_mins
    ++ pair_words f.extents

abbrev pub edge_words : BspEdge → List ℕ
edge_words e = e.vertex_id_0 ∷ e.vertex_id_1 ∷ []

abbrev pub direction_word : BspEdgeDirection → ℕ
direction_word Forward = 0
direction_word Backward = 1

abbrev pub edge_index_words : BspEdgeIndex → List ℕ
edge_index_words e = direction_word e.direction ∷ e.index ∷ []

-- ---- leaves and models

abbrev pub sounds_words : Sounds → List ℕ
sounds_words s = s.water ∷ s.sky ∷ s.slime ∷ s.lava ∷ []

abbrev pub leaf_words : BspLeaf → List ℕ
leaf_words l =
    (code_of l.contents ∷ offset_word l.vis_offset ∷ [])
    ++ point_words l.min
    ++ point_words l.max
    ++ (l.facelist_id ∷ l.facelist_count ∷ [])
    ++ sounds_words l.sounds

abbrev pub per_hull_words : PerHull → List ℕ
per_hull_words h = h.hull_0 ∷ h.hull_1 ∷ h.hull_2 ∷ []

-- box and origin, the hulls' roots and node counts, leaves, faces, and the last leaf of the leaf range
abbrev pub model_words : BspModel → List ℕ
model_words m =
    vector_words m.min
    ++ vector_words m.max
    ++ vector_words m.origin
    ++ per_hull_words m.collision_node_ids
    ++ per_hull_words m.collision_node_counts
    ++ (m.leaf_id ∷ m.leaf_count ∷ m.face_id ∷ m.face_count ∷ (leaf_range m).last ∷ [])
