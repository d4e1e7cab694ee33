-- What the call says, and what it leaves in the lent list.
use Rattle.std.specs.Prelude.{ℕ, cond, List, eqb}
use Rattle.format.specs.Answer.{Answer, refused, mapped}
use Rattle.format.specs.declared.section.BspData.{BspData}
use Rattle.words.specs.Words.{Written, given, at_least, map_length, map_of}
use Rattle.records.specs.Plane.{plane_of, vertex_of}
use Rattle.records.specs.Node.{render_node_of, collision_node_of}
use Rattle.textures.specs.Access.{texture_info}
use Rattle.faces.specs.Extents.{face_of}
use Rattle.records.specs.Leaf.{leaf_of}
use Rattle.records.specs.Edge.{facelist_of, edge_of, edgelist_of}
use Rattle.models.specs.Model.{model_of}
use Rattle.record_words.specs.Layout.{plane_words, vector_words, render_node_words, texinfo_words, face_words, collision_node_words, leaf_words, number_words, edge_words, edge_index_words, model_words}

-- record i of a section, by its number in the file's header; 20 where it is none of these
unfoldable pub record_in : ℕ → List ℕ → BspData → ℕ → Answer (List ℕ)
record_in section s m i =
    cond (eqb section 1) (mapped plane_words (plane_of s m i))
    (cond (eqb section 3) (mapped vector_words (vertex_of s m i))
    (cond (eqb section 5) (mapped render_node_words (render_node_of s m i))
    (cond (eqb section 6) (mapped texinfo_words (texture_info s m i))
    (cond (eqb section 7) (mapped face_words (face_of s m i))
    (cond (eqb section 9) (mapped collision_node_words (collision_node_of s m i))
    (cond (eqb section 10) (mapped leaf_words (leaf_of s m i))
    (cond (eqb section 11) (mapped number_words (facelist_of s m i))
    (cond (eqb section 12) (mapped edge_words (edge_of s m i))
    (cond (eqb section 13) (mapped edge_index_words (edgelist_of s m i))
    (cond (eqb section 14) (mapped model_words (model_of s m i))
    (refused 20)))))))))))

-- enough for every record
abbrev pub record_length : ℕ
record_length = 20

unfoldable pub bsp_record : List ℕ → List ℕ → ℕ → ℕ → List ℕ → Written
bsp_record s map section i out = at_least map_length map out (at_least record_length out out (given (record_in section s (map_of map) i) out))
