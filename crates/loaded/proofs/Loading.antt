-- Loading is refused with 1 to 12 alone (specs/Refusals.antt says it): each reader, section and test in the order of load.rs. So a status of 0 stands for
-- a file that loads. Assumes nothing.
use Rattle.std.specs.Prelude.{Option, Some, None}
use Prim.Native.Nat.{ℕ, zero, suc, ◌+◌}
use native.Mathlib.Omega.{arith}
use mathlib.Core.Bool.{Bool, true, false, cond}
use mathlib.Core.List.{List}
use mathlib.Core.Path.{◌≡◌, refl, subst}
use lib.Dec.{ltb, leb, eqb}
use lib.ListN.{length}
use lib.IntN.{pos, negsuc}
use lib.Signed.{lt_z}
use mir.Syntax.{w16, w32}
use Rattle.format.specs.Answer as Ans
use Rattle.format.specs.Answer.{Answer, answer, on_refusal}
use Rattle.format.specs.Step.{Step, ok, refused, and_then}
use Rattle.format.specs.Field.{u8_at, u16_at, u32_at, i16_at, i32_at, f32_at, index_at}
use Rattle.format.specs.Code.{negated_contents}
use Rattle.format.specs.Section.{record_count}
use Rattle.format.specs.declared.contents.BspLeafContents.{BspLeafContents}
use Rattle.format.specs.declared.section.BspData.{BspData}
use Rattle.format.specs.declared.section.BspFileSection.{BspFileSection}
use Rattle.format.specs.declared.section.BspFileSectionId.{BspFileSectionId}
use Rattle.format.specs.declared.section.BspFileSectionId.TheVariants.{Planes, Vertices, Visibility, RenderNodes, TextureInfo, CollisionNodes, Leaves, Edges, EdgeList, Models}
use Rattle.records.specs.Triple.{vector_at, point_at}
use Rattle.records.specs.Number.{index16_at, number16_at, number_at, count_at, offset_at}
use Rattle.records.specs.Plane.{plane_at}
use Rattle.records.specs.Node.{render_child_at, render_node_end_at, render_node_at, with_contents, collision_child_at, collision_node_at}
use Rattle.records.specs.Leaf.{contents_at, leaf_end_at, leaf_at}
use Rattle.records.specs.Edge.{edge_at, edge_index_at}
use Rattle.records.specs.Texinfo.{flag_at, texinfo_end_at, texinfo_at}
use Rattle.faces.specs.Face.{side_at, styles_at, face_light_at, face_end_at, face_at}
use Rattle.faces.specs.Extents.{surface_of}
use Rattle.models.specs.Model.{bounds_at, roots_at, file_model_end_at, file_model_at}
use Rattle.sections.specs.Position.{check_end_position}
use Rattle.sections.specs.Records.{records, section, blob}
use Rattle.sections.specs.Table.{is_multiple, is_version, exceeds, section_at, three_sections_at, table_end_at, table_at, header_at, limits_from_leaves, limits}
use Rattle.utf8.specs.Unicode.{is_utf8}
use Rattle.load.specs.Entities.{text_of, entities}
use Rattle.load.specs.Extents.{is_bad, extents_at, face_extents}
use Rattle.load.specs.Tested.{outside, textured, texinfos, faces, references_at, leaf_references}
use Rattle.load.specs.Load.{load_at, outcome}
use Rattle.load.specs.Private.{from_extents, from_edges, from_collision_nodes, from_texinfo, from_vertices, from_planes, from_header}
use Rattle.load.proofs.Stages.{stages}
use Rattle.texture_list.specs.Name.{is_ascii, is_wrong}
use Rattle.textures.specs.Count.{any}
use Rattle.textures.specs.Group.{is_alone, sequenced}
use Rattle.textures.specs.Section as Textures
use Rattle.texture_list.specs.List.{pictures_at, texture_at, present_at, listed_at, listed, textures_at, names_of}
use Rattle.loaded.specs.Refusals.{RefusedOnly, OfLoading, LoadingRefuses}
use Rattle.loaded.proofs.Refusals.{answers, refuses}

pub record Known {A : Type 0} (x : Step A) : Type 0 where
  pub number : (n : ℕ) → x ≡ refused n → OfLoading n

-- ---- steps

same_number : {A : Type 0} (k n : ℕ) → ◌≡◌ {A = Step A} (refused k) (refused n) → k ≡ n
same_number k n e = cc

none : {A P : Type 0} (v : A) (p n : ℕ) → ok v p ≡ refused n → P
none v p n e = let z : ◌≡◌ {A = ℕ} 0 1 = cc in absurd (omega arith)

gives : {A : Type 0} (v : A) (p : ℕ) → Known (ok v p)
gives v p = record { number = λ n e. none v p n e }

says : {A : Type 0} (k : ℕ) → OfLoading k → Known {A = A} (refused k)
says {A} k h = record { number = λ n e. rw (same_number {A = A} k n e) at h }

test : {A : Type 0} (b : Bool) (x y : Step A) → Known x → Known y → Known (cond b x y)
test true x y p q = p
test false x y p q = q

then : {A B : Type 0} (x : Step A) (k : A → ℕ → Step B) → Known x → ((v : A) (p : ℕ) → Known (k v p)) → Known (and_then x k)
then (ok v p) k f g = g v p
then (refused n) k f g = says n (f.number n refl)

one : OfLoading 1
one = (omega arith, omega arith)

ten : OfLoading 10
ten = (omega arith, omega arith)

eleven : OfLoading 11
eleven = (omega arith, omega arith)

-- ---- fields and records

module _ (s : List ℕ) where
  u8 : (at : ℕ) → Known (u8_at s at)
  unfolding u8_at
  u8 at = test (leb (at + 1) (length s)) _ _ (gives _ _) (says 1 one)

  u16 : (at : ℕ) → Known (u16_at s at)
  unfolding u16_at
  u16 at = test (leb (at + 2) (length s)) _ _ (gives _ _) (says 1 one)

  u32 : (at : ℕ) → Known (u32_at s at)
  unfolding u32_at
  u32 at = test (leb (at + 4) (length s)) _ _ (gives _ _) (says 1 one)

  i16 : (at : ℕ) → Known (i16_at s at)
  unfolding i16_at
  i16 at = then (u16_at s at) _ (u16 at) (λ n p. gives _ _)

  i32 : (at : ℕ) → Known (i32_at s at)
  unfolding i32_at
  i32 at = then (u32_at s at) _ (u32 at) (λ n p. gives _ _)

  f32 : (at : ℕ) → Known (f32_at s at)
  unfolding f32_at
  f32 at = then (u32_at s at) _ (u32 at) (λ n p. gives _ _)

  index : (k : ℕ) → OfLoading k → (at : ℕ) → Known (index_at k s at)
  unfolding index_at
  index k h at = then (i32_at s at) _ (i32 at) (λ x p. test (lt_z x (pos 0)) _ _ (says k h) (gives _ _))

  index16 : (at : ℕ) → Known (index16_at s at)
  unfolding index16_at
  index16 at = then (i16_at s at) _ (i16 at) (λ x p. test (lt_z x (pos 0)) _ _ (says 10 ten) (gives _ _))

  number16 : (most at : ℕ) → Known (number16_at most s at)
  unfolding number16_at
  number16 most at = then (index16_at s at) _ (index16 at) (λ n p. test (ltb most n) _ _ (says 10 ten) (gives _ _))

  number : (most at : ℕ) → Known (number_at most s at)
  unfolding number_at
  number most at = then (index_at 10 s at) _ (index 10 ten at) (λ n p. test (ltb most n) _ _ (says 10 ten) (gives _ _))

  count : (least at : ℕ) → Known (count_at least s at)
  unfolding count_at
  count least at = then (index16_at s at) _ (index16 at) (λ n p. test (ltb n least) _ _ (says 10 ten) (gives _ _))

  offset : (at : ℕ) → Known (offset_at s at)
  unfolding offset_at
  offset at = then (i32_at s at) _ (i32 at) (λ x p. test (lt_z x (negsuc 0)) _ _ (says 10 ten) (gives _ _))

  vector : (at : ℕ) → Known (vector_at s at)
  unfolding vector_at
  vector at = then (f32_at s at) _ (f32 at) (λ x p. then (f32_at s p) _ (f32 p) (λ y q. then (f32_at s q) _ (f32 q) (λ z t. gives _ _)))

  point : (at : ℕ) → Known (point_at s at)
  unfolding point_at
  point at = then (i16_at s at) _ (i16 at) (λ x p. then (i16_at s p) _ (i16 p) (λ y q. then (i16_at s q) _ (i16 q) (λ z t. gives _ _)))

  plane : (at : ℕ) → Known (plane_at s at)
  unfolding plane_at
  plane at = then (vector_at s at) _ (vector at) (λ n p. then (f32_at s p) _ (f32 p) (λ d q. then (i32_at s q) _ (i32 q) (λ k t. gives _ _)))

  render_child_lem : (at : ℕ) → Known (render_child_at s at)
  unfolding render_child_at
  render_child_lem at = then (i16_at s at) _ (i16 at) (λ f p. gives _ _)

  render_node : (at : ℕ) → Known (render_node_at s at)
  unfolding render_node_at render_node_end_at
  render_node at =
      then (index_at 10 s at) _ (index 10 ten at) (λ n p. then (render_child_at s p) _ (render_child_lem p) (λ f q. then (render_child_at s q) _ (render_child_lem q) (λ b t.
      then (point_at s t) _ (point t) (λ low p. then (point_at s p) _ (point p) (λ high q. then (index16_at s q) _ (index16 q) (λ face u. then (u16_at s u) _ (u16 u) (λ c v. gives _ _)))))))

  with_contents_lem : {A : Type 0} (c : Option BspLeafContents) (k : BspLeafContents → Step A) → ((x : BspLeafContents) → Known (k x)) → Known (with_contents c k)
  with_contents_lem (Some c) k f = f c
  with_contents_lem None k f = says 10 ten

  collision_child_lem : (at : ℕ) → Known (collision_child_at s at)
  unfolding collision_child_at
  collision_child_lem at = then (i16_at s at) _ (i16 at) (λ x p. test (lt_z x (pos 0)) _ _ (with_contents_lem (negated_contents w16 x) _ (λ c. gives _ _)) (gives _ _))

  collision_node : (at : ℕ) → Known (collision_node_at s at)
  unfolding collision_node_at
  collision_node at = then (index_at 10 s at) _ (index 10 ten at) (λ n p. then (collision_child_at s p) _ (collision_child_lem p) (λ f q. then (collision_child_at s q) _ (collision_child_lem q) (λ b t. gives _ _)))

  leaf : (at : ℕ) → Known (leaf_at s at)
  unfolding leaf_at contents_at leaf_end_at
  leaf at =
      then (contents_at s at) _ (then (i32_at s at) _ (i32 at) (λ x p. with_contents_lem (negated_contents w32 x) _ (λ c. gives _ _))) (λ c p. then (offset_at s p) _ (offset p) (λ o q.
      then (point_at s q) _ (point q) (λ low p. then (point_at s p) _ (point p) (λ high q. then (u16_at s q) _ (u16 q) (λ first t. then (u16_at s t) _ (u16 t) (λ n u. gives _ _))))))

  edge : (at : ℕ) → Known (edge_at s at)
  unfolding edge_at
  edge at = then (u16_at s at) _ (u16 at) (λ a p. then (u16_at s p) _ (u16 p) (λ b q. gives _ _))

  edge_index : (at : ℕ) → Known (edge_index_at s at)
  unfolding edge_index_at
  edge_index at = then (i32_at s at) _ (i32 at) (λ x p. gives _ _)

  texinfo : (textures at : ℕ) → Known (texinfo_at textures s at)
  unfolding texinfo_at texinfo_end_at flag_at
  texinfo textures at =
      then (vector_at s at) _ (vector at) (λ v p. then (f32_at s p) _ (f32 p) (λ o q. then (vector_at s q) _ (vector q) (λ w t.
      then (f32_at s t) _ (f32 t) (λ o p. then (number_at textures s p) _ (number textures p) (λ n q.
      then (flag_at s q) _ (then (index_at 10 s q) _ (index 10 ten q) (λ n p. test (eqb n 0) _ _ (gives _ _) (test (eqb n 1) _ _ (gives _ _) (says 10 ten)))) (λ f u. gives _ _))))))

  styles : (at : ℕ) → Known (styles_at s at)
  unfolding styles_at
  styles at = then (u8_at s at) _ (u8 at) (λ a p. then (u8_at s p) _ (u8 p) (λ b q. then (u8_at s q) _ (u8 q) (λ c t. then (u8_at s t) _ (u8 t) (λ d u. gives _ _))))

  side : (at : ℕ) → Known (side_at s at)
  unfolding side_at
  side at = then (index16_at s at) _ (index16 at) (λ n p. test (eqb n 0) _ _ (gives _ _) (test (eqb n 1) _ _ (gives _ _) (says 10 ten)))

  face : (planes infos at : ℕ) → Known (face_at planes infos s at)
  unfolding face_at face_end_at face_light_at
  face planes infos at =
      then (number16_at planes s at) _ (number16 planes at) (λ pl p. then (side_at s p) _ (side p) (λ sd q. then (index_at 10 s q) _ (index 10 ten q) (λ e t.
      then (count_at 3 s t) _ (count 3 t) (λ c p. then (number16_at infos s p) _ (number16 infos p) (λ i q.
      then (styles_at s q) _ (styles q) (λ st p. then (offset_at s p) _ (offset p) (λ l u. gives _ _)))))))

  model : (at : ℕ) → Known (file_model_at s at)
  unfolding file_model_at bounds_at roots_at file_model_end_at
  model at =
      then (bounds_at s at) _ (then (vector_at s at) _ (vector at) (λ a p. then (vector_at s p) _ (vector p) (λ b q. then (vector_at s q) _ (vector q) (λ c t. gives _ _)))) (λ b p.
      then (roots_at s p) _ (then (index_at 10 s p) _ (index 10 ten p) (λ a p. then (index_at 10 s p) _ (index 10 ten p) (λ b q. then (index_at 10 s q) _ (index 10 ten q) (λ c t. gives _ _)))) (λ r q.
      then (i32_at s q) _ (i32 q) (λ u t.
      then (index_at 10 s t) _ (index 10 ten t) (λ l p. then (index_at 10 s p) _ (index 10 ten p) (λ f q. then (index_at 10 s q) _ (index 10 ten q) (λ n v. gives _ _))))))

  -- ---- sections

  end : (z : BspFileSection) (p : ℕ) → Known (check_end_position z p)
  end z p = test (eqb p (z.offset + z.size)) _ _ (gives _ _) (says 7 (omega arith, omega arith))

  rows : {A : Type 0} (read : List ℕ → ℕ → Step A) → ((at : ℕ) → Known (read s at)) → (n at : ℕ) → Known (records read s n at)
  unfolding records
  rows read f zero at = gives _ _
  rows read f (suc n) at = then (read s at) _ (f at) (λ v p. rows read f n p)

  whole : {A : Type 0} (read : List ℕ → ℕ → Step A) → ((at : ℕ) → Known (read s at)) → (id : BspFileSectionId) (z : BspFileSection) → Known (section read id s z)
  unfolding section
  whole read f id z = then (records read s (record_count id z) z.offset) _ (rows read f _ _) (λ u p. end z p)

  bytes : (z : BspFileSection) → Known (blob s z)
  unfolding blob
  bytes z = end z _

  -- ---- the header and the limits

  table_entry : (id : BspFileSectionId) (at : ℕ) → Known (section_at id s at)
  unfolding section_at
  table_entry id at =
      then (index_at 3 s at) _ (index 3 (omega arith, omega arith) at) (λ o p. then (index_at 4 s p) _ (index 4 (omega arith, omega arith) p) (λ z q.
      test (is_multiple id z) _ _ (gives _ _) (says 5 (omega arith, omega arith))))

  three : (i j k : BspFileSectionId) (at : ℕ) → Known (three_sections_at i j k s at)
  unfolding three_sections_at
  three i j k at = then (section_at i s at) _ (table_entry i at) (λ a p. then (section_at j s p) _ (table_entry j p) (λ b q. then (section_at k s q) _ (table_entry k q) (λ c t. gives _ _)))

  header : Known (header_at s)
  unfolding header_at table_at table_end_at
  header =
      then (i32_at s 0) _ (i32 0) (λ v p. test (is_version v) _ _
      (then (three_sections_at _ _ _ s p) _ (three _ _ _ p) (λ a p. then (three_sections_at _ _ _ s p) _ (three _ _ _ p) (λ b q. then (three_sections_at _ _ _ s q) _ (three _ _ _ q) (λ c t.
      then (three_sections_at _ _ _ s t) _ (three _ _ _ t) (λ d p. then (three_sections_at _ _ _ s p) _ (three _ _ _ p) (λ e u. gives _ _))))))
      (says 2 (omega arith, omega arith)))

  six : {A : Type 0} (b : Bool) (y : Step A) → Known y → Known (cond b (refused 6) y)
  six b y f = test b (refused 6) y (says 6 (omega arith, omega arith)) f

  within : (m : BspData) → Known (limits m)
  unfolding limits limits_from_leaves
  within m =
      six (exceeds Planes m) _ (six (exceeds Vertices m) _ (six (exceeds Visibility m) _ (six (exceeds RenderNodes m) _ (six (exceeds CollisionNodes m) _
      (six (exceeds Leaves m) _ (six (exceeds Edges m) _ (six (exceeds EdgeList m) _ (six (eqb (record_count Models m.models) 0) _ (six (exceeds Models m) _ (gives _ _))))))))))

  text : (z : BspFileSection) → Known (entities s z)
  unfolding entities
  text z = test (ltb 65536 (length (text_of s z.offset))) _ _ (says 8 (omega arith, omega arith)) (test (is_utf8 (text_of s z.offset)) _ _ (end z _) (says 9 (omega arith, omega arith)))

  -- ---- the extents of faces, and the leaves that nodes name

  module _ (m : BspData) where
    -- what is worked out of other records is refused with 11, whatever refused it
    on_refusal_lem : {A B : Type 0} (x : Answer A) (k : A → Step B) → ((a : A) → Known (k a)) → Known (on_refusal (refused 11) x k)
    on_refusal_lem (answer a) k g = g a
    on_refusal_lem (Ans.refused n) k g = says 11 eleven

    abbrev planes : ℕ
    planes = record_count Planes m.planes

    abbrev infos : ℕ
    infos = record_count TextureInfo m.texinfo

    extents : Known (face_extents s m)
    unfolding face_extents extents_at
    extents =
        rows (extents_at planes infos m) (λ at. then (face_at planes infos s at) _ (face planes infos at) (λ f p. on_refusal_lem (surface_of s m f) _ (λ x.
        test (is_bad x.special x.extents.s) _ _ (says 12 (omega arith, omega arith)) (test (is_bad x.special x.extents.t) _ _ (says 12 (omega arith, omega arith)) (gives _ _))))) _ _

    abbrev leaves : ℕ
    leaves = record_count Leaves m.leaves

    references : Known (leaf_references s m)
    unfolding leaf_references references_at
    references =
        rows (references_at leaves) (λ at. then (render_node_at s at) _ (render_node at) (λ n p. test (outside leaves n.front) _ _ (says 11 eleven) (test (outside leaves n.back) _ _ (says 11 eleven) (gives _ _)))) _ _

    texture_infos : Known (texinfos s m)
    unfolding texinfos textured
    texture_infos =
        whole (textured m.texture_count) (λ at. then (texinfo_at m.texture_count s at) _ (texinfo _ at) (λ i p. test (eqb i.tex_id m.texture_count) _ _ (says 11 eleven) (gives _ _)))
        TextureInfo m.texinfo

    -- ---- the whole, from its end on

    from_extents_lem : Known (from_extents s m)
    unfolding from_extents
    from_extents_lem = then (face_extents s m) _ extents (λ u p. then (leaf_references s m) _ references (λ u p. then (section file_model_at _ s _) _ (whole file_model_at model _ _) (λ u p. gives _ _)))

    from_edges_lem : Known (from_edges s m)
    unfolding from_edges
    from_edges_lem = then (section edge_at _ s _) _ (whole edge_at edge _ _) (λ u p. then (section edge_index_at _ s _) _ (whole edge_index_at edge_index _ _) (λ u p. from_extents_lem))

    from_collision_nodes_lem : Known (from_collision_nodes s m)
    unfolding from_collision_nodes
    from_collision_nodes_lem =
        then (section collision_node_at _ s _) _ (whole collision_node_at collision_node _ _) (λ u p. then (section leaf_at _ s _) _ (whole leaf_at leaf _ _) (λ u p.
        then (section u16_at _ s _) _ (whole u16_at u16 _ _) (λ u p. from_edges_lem)))

    from_texinfo_lem : Known (from_texinfo s m)
    unfolding from_texinfo faces
    from_texinfo_lem =
        then (texinfos s m) _ texture_infos (λ u p. then (faces s m) _ (whole (face_at planes infos) (face planes infos) _ _) (λ u p. then (blob s _) _ (bytes _) (λ u p. from_collision_nodes_lem)))

    from_vertices_lem : Known (from_vertices s m)
    unfolding from_vertices
    from_vertices_lem =
        then (section vector_at _ s _) _ (whole vector_at vector _ _) (λ u p. then (blob s _) _ (bytes _) (λ u p.
        then (section render_node_at _ s _) _ (whole render_node_at render_node _ _) (λ u p. from_texinfo_lem)))

  -- ---- the texture section

  thirteen : OfLoading 13
  thirteen = (omega arith, omega arith)

  texture : (at : ℕ) → Known (texture_at s at)
  unfolding texture_at pictures_at
  texture at =
      test (is_ascii s at 16) _ _
      (then (u32_at s (at + 16)) _ (u32 _) (λ w p. then (u32_at s p) _ (u32 p) (λ h q.
      then (u32_at s q) _ (u32 q) (λ a p. then (u32_at s p) _ (u32 p) (λ b q. then (u32_at s q) _ (u32 q) (λ c t. then (u32_at s t) _ (u32 t) (λ d u. gives _ _)))))))
      (says 13 thirteen)

  present : (base end : ℕ) (o : Option ℕ) → Known (present_at s base end o)
  present base end None = gives _ _
  present base end (Some o) = texture (base + o)

  list : (base n at end : ℕ) → Known (listed s base n at end)
  unfolding listed listed_at
  list base zero at end = gives _ _
  list base (suc n) at end = then (listed_at s base at end) _ (then (offset_at s at) _ (offset at) (λ o p. present base end o)) (λ u q. list base n (at + 4) q)

  groups : (names : ℕ → List ℕ) (n : ℕ) → Known (sequenced names n)
  unfolding sequenced
  groups names n = test (any (λ i. is_wrong (names i)) n) _ _ (says 14 (omega arith, omega arith)) (test (any (is_alone names n) n) _ _ (says 15 (omega arith, omega arith)) (gives _ _))

  texture_section : (z : BspFileSection) → Known (Textures.textures s z)
  unfolding Textures.textures textures_at
  texture_section z =
      then (number_at 2097152 s _) _ (number 2097152 _) (λ n p.
      then (and_then (textures_at s _ n) _) _ (then (textures_at s _ n) _ (then (records offset_at s n _) _ (rows offset_at offset n _) (λ u p. list _ n _ p)) (λ u q. end z q)) (λ u t.
      then (sequenced (names_of s _) n) _ (groups (names_of s _) n) (λ u v. gives _ _)))

  from_planes_lem : (m : BspData) → Known (from_planes s m)
  unfolding from_planes
  from_planes_lem m = then (section plane_at Planes s _) _ (whole plane_at plane _ _) (λ u p. then (Textures.textures s _) _ (texture_section _) (λ n p. from_vertices_lem _))

  all : Known (from_header s)
  unfolding from_header
  all = then (header_at s) _ header (λ m p. then (limits m) _ (within m) (λ u p. then (entities s _) _ (text _) (λ u p. from_planes_lem m)))

of_step : (x : Step BspData) → Known x → RefusedOnly OfLoading (outcome x)
of_step (ok m p) f = answers OfLoading m
of_step (refused n) f = refuses OfLoading n (f.number n refl)

pub loading_refuses : LoadingRefuses
loading_refuses s = of_step (load_at s) (subst Known (stages s) (all s))
