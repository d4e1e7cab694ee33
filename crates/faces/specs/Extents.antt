-- The texture mins and extents of a face, in the order of the Rust's text after 'see Calc_SurfaceExtents'. Each operation on floats is
-- rounded once. An index that leads to no record is 23; loading makes that 11, where the Rust panics.
use Rattle.std.specs.Prelude.{ℕ, zero, suc, ◌+◌, Bool, cond, List, ltb, ℤ, Float}
use Rattle.std.specs.Float.{binary32}
use Rattle.std.specs.Float.Ieee.{of_bits, add, sub, div, to_signed}
use Rattle.float.specs.Whole.{minimum, maximum, floor_of, ceil_of, times16}
use Rattle.math.specs.Vector.{dot}
use Rattle.math.specs.declared.vector.Vector3.{Vector3}
use Rattle.format.specs.Answer.{Answer, answer, refused, then_answer, on_refusal}
use Rattle.format.specs.Section.{record_count}
use Rattle.format.specs.declared.section.BspData.{BspData}
use Rattle.format.specs.declared.section.BspFileSectionId.TheVariants.{EdgeList}
use Rattle.records.specs.Plane.{vertex_of}
use Rattle.records.specs.Texinfo.{texinfo_of}
use Rattle.records.specs.Edge.{edge_of, edgelist_of}
use Rattle.records.specs.declared.edge.BspEdge.{BspEdge}
use Rattle.records.specs.declared.edge.BspEdgeDirection.{BspEdgeDirection}
use Rattle.records.specs.declared.edge.BspEdgeDirection.TheVariants.{Forward, Backward}
use Rattle.records.specs.declared.texinfo.BspTexInfo.{BspTexInfo}
use Rattle.faces.specs.Face.{file_face_of}
use Rattle.faces.specs.declared.face.BspFace.{BspFace}
use Rattle.faces.specs.declared.extents.Span.{Span}
use Rattle.faces.specs.declared.extents.Surface.{Surface}

-- `vertex_ids[direction as usize]`
abbrev pub vertex_on : BspEdgeDirection → BspEdge → ℕ
vertex_on Forward e = e.vertex_id_0
vertex_on Backward e = e.vertex_id_1

-- the vertex of an entry of the list of edges; 23 where an index leads to no record
unfoldable pub corner_of : List ℕ → BspData → ℕ → Answer Vector3
corner_of s m i =
    on_refusal (refused 23) (edgelist_of s m i) (λ entry.
    on_refusal (refused 23) (edge_of s m entry.index) (λ edge.
    on_refusal (refused 23) (vertex_of s m (vertex_on entry.direction edge)) (λ vertex.
    answer vertex)))

-- INFINITY and NEG_INFINITY, before the first vertex
abbrev pub infinity : Float
infinity = of_bits binary32 0x7f80_0000

abbrev pub neg_infinity : Float
neg_infinity = of_bits binary32 0xff80_0000

unfoldable pub unbounded : Span
unbounded = record { s_min = infinity; s_max = neg_infinity; t_min = infinity; t_max = neg_infinity }

-- with one vertex more: s and t are the dot product and then the offset
unfoldable pub widened : BspTexInfo → Vector3 → Span → Span
widened info v w =
    let s = add binary32 (dot info.s_vector v) info.s_offset in
    let t = add binary32 (dot info.t_vector v) info.t_offset in
    record {
      s_min = minimum w.s_min s;
      s_max = maximum w.s_max s;
      t_min = minimum w.t_min t;
      t_max = maximum w.t_max t;
    }

-- over the vertices of n entries of the list of edges, from i on
unfoldable pub span_over : List ℕ → BspData → BspTexInfo → ℕ → ℕ → Span → Answer Span
span_over s m info zero i w = answer w
span_over s m info (suc n) i w = then_answer (corner_of s m i) (λ v. span_over s m info n (i + 1) (widened info v w))

-- the whole range is tested before its first entry
unfoldable pub span_of : List ℕ → BspData → BspTexInfo → ℕ → ℕ → Answer Span
span_of s m info first count =
    cond (ltb (record_count EdgeList m.edgelist) (first + count)) (refused 23)
    (span_over s m info count first unbounded)

abbrev pub sixteen : Float
sixteen = of_bits binary32 0x4180_0000

-- `(s_min / 16.0).floor()` and `(s_max / 16.0).ceil()`
abbrev pub block_min : Float → Float
block_min low = floor_of (div binary32 low sixteen)

abbrev pub block_max : Float → Float
block_max high = ceil_of (div binary32 high sixteen)

-- `b_mins[i] as i16 * 16`
unfoldable pub texture_min : Float → ℤ
texture_min low = times16 (to_signed 15 (block_min low))

-- `(b_maxs[i] - b_mins[i]) as i16 * 16`
unfoldable pub extent : Float → Float → ℤ
extent low high = times16 (to_signed 15 (sub binary32 (block_max high) (block_min low)))

unfoldable pub surface_in : Span → Bool → Surface
surface_in w special = record {
  texture_mins = record { s = texture_min w.s_min; t = texture_min w.t_min };
  extents = record { s = extent w.s_min w.s_max; t = extent w.t_min w.t_max };
  special = special;
}

-- what loading works out for a face
unfoldable pub surface_of : List ℕ → BspData → BspFace → Answer Surface
surface_of s m f =
    on_refusal (refused 23) (texinfo_of s m f.texinfo_id) (λ info.
    then_answer (span_of s m info f.edge_id f.edge_count) (λ w.
    answer (surface_in w info.special)))

abbrev pub with_surface : BspFace → Surface → BspFace
with_surface f x = record {
  plane_id = f.plane_id;
  side = f.side;
  edge_id = f.edge_id;
  edge_count = f.edge_count;
  texinfo_id = f.texinfo_id;
  light_styles = f.light_styles;
  lightmap_id = f.lightmap_id;
  texture_mins = x.texture_mins;
  extents = x.extents;
}

-- the face of an index, with its texture mins and extents; 12 is not tested
unfoldable pub face_of : List ℕ → BspData → ℕ → Answer BspFace
face_of s m i =
    then_answer (file_face_of s m i) (λ f.
    then_answer (surface_of s m f) (λ x.
    answer (with_surface f x)))
