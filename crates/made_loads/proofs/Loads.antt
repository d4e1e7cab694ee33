-- Every made-up map loads, and gives the map record that its header says.
-- Assumes nothing.
use Prim.Native.Nat.{ℕ, zero, suc, ◌+◌, ◌*◌, ◌<◌, ◌≤◌}
use mathlib.Core.Path.{◌≡◌, refl, sym, ap, ◌∙◌}
use mathlib.Core.Bool.{false}
use mathlib.Core.List.{List, ◌∷◌}
use native.Mathlib.Nat.{mul-div_cancel}
use native.Mathlib.Omega.{arith}
use borrow.Author.Tests.{le-leb, eq-eqb}
use lib.Dec.{lit<}
use lib.ListN.{drop}
use lib.Seq.{drop_at}
use Rattle.format.specs.Answer.{answer}
use Rattle.format.specs.Step.{ok}
use Rattle.format.specs.Section.{record_count}
use Rattle.format.specs.declared.contents.BspLeafContents.TheVariants.{Empty, Solid}
use Rattle.format.specs.declared.section.BspFileSectionId.TheVariants.{Planes, Vertices, RenderNodes, TextureInfo, Faces, CollisionNodes, Leaves, FaceList, Edges, EdgeList, Models}
use Rattle.sections.specs.Records.{records, section}
use Rattle.sections.specs.Table.{exceeds, limits_from_leaves, limits}
use Rattle.format.specs.Field.{u16_at}
use Rattle.faces.specs.Face.{face_at}
use Rattle.records.specs.Edge.{edge_at, edge_index_at}
use Rattle.records.specs.Triple.{vector_at}
use Rattle.records.specs.Leaf.{leaf_at}
use Rattle.records.specs.Node.{render_node_at, collision_node_at}
use Rattle.records.specs.Number.{number_at}
use Rattle.records.specs.Plane.{plane_at}
use Rattle.records.specs.declared.leaf.BspLeaf.{BspLeaf}
use Rattle.models.specs.Model.{file_model_at}
use Rattle.models.specs.Text.{text_end}
use Rattle.utf8.specs.Unicode.{is_utf8, run, next_of, lead, whole}
use Rattle.textures.specs.Count.{any}
use Rattle.textures.specs.Group.{sequenced}
use Rattle.texture_list.specs.List.{textures_at, listed}
use Rattle.textures.specs.Section.{textures}
use Rattle.load.specs.Load.{outcome, load_of}
use Rattle.load.specs.Private.{from_header, from_planes, from_vertices, from_texinfo, from_collision_nodes, from_edges, from_extents}
use Rattle.load.proofs.Stages.{stages}
use Rattle.load.specs.Entities.{entities}
use Rattle.load.specs.Tested.{textured, texinfos, faces, outside, references_at, leaf_references}
use Rattle.load.specs.Extents.{face_extents}
use Rattle.made.specs.Map.{node_number, Side, node, solid, empty, front_of, back_of}
use Rattle.made.specs.File.{made_map, header, plane_part, render_part, clip_part, file_of}
use Rattle.made_loads.specs.Said.{plane_said, render_side, render_node_said, clip_node_said, leaf_said, model_said}
use Rattle.written.proofs.Fields.{Reads, last, reads_index}
use Rattle.written.proofs.Sections.{section_reads, records_read, empty_section, empty_blob}
use Rattle.made_loads.proofs.Records.{reads_plane, reads_render_node, reads_clip_node, reads_solid_leaf, reads_empty_leaf, reads_model}
use Rattle.made.proofs.Sizes.{plane_size, render_size, clip_size, model_size, header_size}
use Rattle.made_loads.proofs.Parts.{leaf_part, model_part, leaf_size, parts, header_reads}

-- the limits

within_limits : (n : ℕ) → n ≤ 500 → limits (made_map n) ≡ ok tt 0
unfolding limits limits_from_leaves exceeds record_count made_map
within_limits n h =
    rw (mul-div_cancel n {n = 20} (lit< tt), le-leb n 8192 (omega arith), mul-div_cancel n {n = 24} (lit< tt), le-leb n 32767 (omega arith), mul-div_cancel n {n = 8} (lit< tt), le-leb n 32767 (omega arith)) refl

-- the entity text

one_zero : (s rest : List ℕ) → drop 124 s ≡ 0 ∷ rest → entities s (record { offset = 124; size = 1 }) ≡ ok tt 125
unfolding entities text_end is_utf8 run next_of lead whole
one_zero s rest e = rw e refl

text_reads : (seed n : ℕ) → entities (file_of seed n) (record { offset = 124; size = 1 }) ≡ ok tt 125
unfolding file_of
text_reads seed n = one_zero (file_of seed n) _ (drop_at (header (made_map n)) _ 124 (header_size n))

-- what stands for the leaves

abbrev pub leaf_at_number : ℕ → BspLeaf
leaf_at_number zero = leaf_said Solid
leaf_at_number (suc i) = leaf_said Empty

pub reads_leaf_part : (i : ℕ) → Reads leaf_at (leaf_part i) (leaf_at_number i)
reads_leaf_part zero = reads_solid_leaf
reads_leaf_part (suc i) = reads_empty_leaf

inside : (x : Side) → outside 2 (render_side x) ≡ false
unfolding outside
inside (node k) = refl
inside solid = refl
inside empty = refl

module _ (seed n : ℕ) (h : n ≤ 500) where
  abbrev s : List ℕ
  s = file_of seed n

  pub planes_read : section plane_at Planes s (made_map n).planes ≡ ok tt (125 + n * 20)
  unfolding made_map
  planes_read = section_reads Planes (plane_part seed) (λ i. plane_said (node_number seed i)) n 125 s (λ i l. plane_size seed i) (λ i l. reads_plane (node_number seed i)) (parts seed n).its_planes

  count_reads : number_at 2097152 s (125 + n * 20) ≡ ok 0 (125 + n * 20 + 4)
  unfolding number_at
  count_reads = (last _ (reads_index 10 0 (omega arith)) (λ p. refl)).reads s (125 + n * 20) (parts seed n).its_textures

  -- no texture, and the section ends behind its count
  textures_read : textures s (made_map n).textures ≡ ok 0 (125 + n * 20 + 4)
  unfolding made_map textures textures_at records listed sequenced any
  textures_read = rw (count_reads, eq-eqb (125 + n * 20 + 4) (125 + n * 20 + 4) refl) refl

  render_nodes_read : section render_node_at RenderNodes s (made_map n).render_nodes ≡ ok tt (129 + n * 20 + n * 24)
  unfolding made_map
  render_nodes_read =
      section_reads RenderNodes (render_part seed n) (λ i. render_node_said n i (node_number seed i)) n (129 + n * 20) s (λ i l. render_size seed n i)
      (λ i l. reads_render_node n i (node_number seed i) l (omega arith)) (parts seed n).its_render_nodes

  clip_nodes_read : section collision_node_at CollisionNodes s (made_map n).collision_nodes ≡ ok tt (129 + n * 44 + n * 8)
  unfolding made_map
  clip_nodes_read =
      section_reads CollisionNodes (clip_part seed n) (λ i. clip_node_said n i (node_number seed i)) n (129 + n * 44) s (λ i l. clip_size seed n i)
      (λ i l. reads_clip_node n i (node_number seed i) l (omega arith)) (parts seed n).its_clip_nodes

  leaves_read : section leaf_at Leaves s (made_map n).leaves ≡ ok tt (129 + n * 52 + 56)
  unfolding made_map
  leaves_read = section_reads Leaves leaf_part leaf_at_number 2 (129 + n * 52) s (λ i l. leaf_size i) (λ i l. reads_leaf_part i) (parts seed n).its_leaves

  model_reads : section file_model_at Models s (made_map n).models ≡ ok tt (185 + n * 52 + 64)
  unfolding made_map
  model_reads = section_reads Models model_part (λ i. model_said) 1 (185 + n * 52) s (λ i l. model_size) (λ i l. reads_model) (parts seed n).its_model

  names : (i : ℕ) → i < n → Reads (references_at 2) (render_part seed n i) tt
  unfolding references_at
  names i l =
      last _ (reads_render_node n i (node_number seed i) l (omega arith))
      (λ p. rw (inside (front_of (node_number seed i)), inside (back_of n i)) refl)

  references_hold : leaf_references s (made_map n) ≡ ok tt (129 + n * 20 + n * 24)
  unfolding made_map leaf_references record_count
  references_hold =
      records_read RenderNodes (render_part seed n) (λ i. tt) n (129 + n * 20) s (λ i l. render_size seed n i) names (parts seed n).its_render_nodes

  -- the sections without records, and the steps of loading from the last to the first

  from_extents_lem : from_extents s (made_map n) ≡ ok (made_map n) 0
  unfolding from_extents face_extents records record_count made_map
  from_extents_lem = rw (references_hold, model_reads) refl

  from_edges_lem : from_edges s (made_map n) ≡ ok (made_map n) 0
  unfolding from_edges made_map
  from_edges_lem = rw (empty_section edge_at Edges s 0, empty_section edge_index_at EdgeList s 0) from_extents_lem

  from_clip_nodes : from_collision_nodes s (made_map n) ≡ ok (made_map n) 0
  unfolding from_collision_nodes made_map
  from_clip_nodes = rw (clip_nodes_read, leaves_read, empty_section u16_at FaceList s 0) from_edges_lem

  from_texinfo_lem : from_texinfo s (made_map n) ≡ ok (made_map n) 0
  unfolding from_texinfo texinfos faces made_map
  from_texinfo_lem = rw (empty_section (textured 0) TextureInfo s 0, empty_section (face_at _ _) Faces s 0, empty_blob s 0) from_clip_nodes

  from_vertices_lem : from_vertices s (made_map n) ≡ ok (made_map n) 0
  unfolding from_vertices made_map
  from_vertices_lem = rw (empty_section vector_at Vertices s 0, empty_blob s 0, render_nodes_read) from_texinfo_lem

  from_planes_lem : from_planes s (made_map n) ≡ ok (made_map n) 0
  unfolding from_planes made_map
  from_planes_lem = rw (planes_read, textures_read) from_vertices_lem

  loads_at : from_header s ≡ ok (made_map n) 0
  unfolding from_header made_map
  loads_at = rw (header_reads seed n h, within_limits n h, text_reads seed n) from_planes_lem

  pub loads : load_of s ≡ answer (made_map n)
  loads = ap outcome (sym (stages s) ∙ loads_at)
