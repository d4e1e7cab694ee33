-- For a file that loads, with the map record that loading gave: every record whose index is below its section's count is readable (never
-- 23), the entity text is the entity section, the visibility data and the lightmaps lie in the file, and every leaf that a render node
-- names is in the table of leaves.
-- Assumes nothing.
use Prim.Native.Nat.{ℕ, zero, suc, ◌+◌, ◌-◌, ◌*◌, ◌<◌, ◌≤◌, min}
use mathlib.Core.Path.{◌≡◌, refl, sym, ap, ◌∙◌, subst}
use mathlib.Core.Bool.{Bool, true, false, cond}
use mathlib.Core.List.{List}
use native.Mathlib.Omega.{arith}
use borrow.Author.Tests.{eqb-true, eqb-false, leb-true, lt-leb}
use lib.Dec.{eqb, leb, ltb}
use lib.ListN.{length}
use Rattle.format.specs.Answer.{Answer, answer, on_refusal}
use Rattle.format.specs.Field.{u16_at}
use Rattle.format.specs.Section.{element_size, within_limit, record_count, section_of}
use Rattle.format.specs.Step.{Step, ok, refused}
use Rattle.format.specs.declared.section.BspData.{BspData}
use Rattle.format.specs.declared.section.BspFileSection.{BspFileSection}
use Rattle.format.specs.declared.section.BspFileSectionId.{BspFileSectionId}
use Rattle.format.specs.declared.section.BspFileSectionId.TheVariants.{Planes, Vertices, RenderNodes, TextureInfo, Faces, CollisionNodes, Leaves, FaceList, Edges, EdgeList, Models}
use Rattle.records.specs.Access.{record_of}
use Rattle.records.specs.Edge.{edge_at, edge_index_at, edge_of, edgelist_of, facelist_of}
use Rattle.faces.specs.Extents.{surface_of, with_surface, face_of}
use Rattle.faces.specs.Face.{face_at, file_face_of}
use Rattle.faces.specs.declared.extents.Surface.{Surface}
use Rattle.records.specs.Leaf.{leaf_at, leaf_of}
use Rattle.models.specs.Model.{file_model_at, file_model_of, leaf_id_of, model_of, with_rest}
use Rattle.records.specs.Node.{render_node_at, collision_node_at, render_node_of, collision_node_of}
use Rattle.records.specs.Plane.{plane_at, plane_of, vertex_of}
use Rattle.records.specs.Texinfo.{texinfo_at, texinfo_of}
use Rattle.models.specs.Text.{text_end, entities_of}
use Rattle.models.specs.declared.text.Part.{Part}
use Rattle.records.specs.Triple.{vector_at}
use Rattle.faces.specs.declared.face.BspFace.{BspFace}
use Rattle.records.specs.declared.node.BspRenderNode.{BspRenderNode}
use Rattle.records.specs.declared.texinfo.BspTexInfo.{BspTexInfo}
use Rattle.records.proofs.Readable.{answered}
use Rattle.sections.specs.Records.{section, blob}
use Rattle.sections.proofs.Bounded.{Bounded, Stands, stands, then, of_ok, of_refused, of_when, not_ok, at_position, again, bounded_u16}
use Rattle.load.specs.Entities.{text_of, entities}
use Rattle.load.specs.Extents.{is_bad, extents_at, face_extents}
use Rattle.load.specs.Load.{load_of}
use Rattle.load.specs.Tested.{textured, texinfos, faces, outside, references_at, leaf_references}
use Rattle.load.proofs.Limits.{left, each_limit}
use Rattle.load.proofs.Passed.{Ok, passed, first}
use Rattle.load.proofs.Texts.{long, empty}
use Rattle.load.proofs.Textures.{section_sound, texture_at_most}
use Rattle.textures.specs.Access.{sound_at, renumbered, info_at, texture_info}
use Rattle.textures.specs.Group.{numbered_by}
use Rattle.texture_list.specs.List.{names_of}
use Rattle.utf8.specs.Unicode.{is_utf8}
use Rattle.load.proofs.Sizes.{bounded_vector, bounded_plane, bounded_edge, bounded_edge_index, bounded_texinfo, bounded_face, bounded_render_node, bounded_collision_node, bounded_leaf, bounded_file_model}

-- every index below n is answered
abbrev pub Answers : {A : Type 0} → (ℕ → Answer A) → ℕ → Type 0
Answers {A} f n = (i : ℕ) → i < n → (v : A) × (f i ≡ answer v)

module _ {A : Type 0} (id : BspFileSectionId) (one : List ℕ → ℕ → Step A) (s : List ℕ) (m : BspData) where
  -- a record that stands at its place is answered
  readable : within_limit id (record_count id (section_of id m)) ≡ true → (i : ℕ) → i < record_count id (section_of id m)
      → (r : Stands one s ((section_of id m).offset + i * element_size id) (element_size id)) → record_of id one s m i ≡ answer r.value
  readable l i h r =
      answered id one s m i r.value
      (record {
        at = (section_of id m).offset + i * element_size id;
        next = (section_of id m).offset + i * element_size id + element_size id;
        found = record { counted = h; limited = l; is = refl; fits = r.lies };
        reads = r.reads;
      })

  -- a section that was read has every record readable
  answers : Bounded one (element_size id) → within_limit id (record_count id (section_of id m)) ≡ true → Ok (section one id s (section_of id m))
      → Answers (record_of id one s m) (record_count id (section_of id m))
  answers b l e i h = let r = stands id b s (section_of id m) e.0 e.1 i h in (r.value, readable l i h r)

-- a texture info that passed: it was read, and its texture number is not the texture count
bounded_textured : (n : ℕ) → Bounded (textured n) 40
unfolding textured
bounded_textured n = then (bounded_texinfo n) _ 0 (λ info. of_when (λ s at. eqb info.tex_id n) 0 (of_refused 11 0) (of_ok (λ s at. info)))

was_texinfo : (n : ℕ) (s : List ℕ) (at : ℕ) (v : BspTexInfo) (p : ℕ) → textured n s at ≡ ok v p → (texinfo_at n s at ≡ ok v p) × (eqb v.tex_id n ≡ false)
unfolding textured
was_texinfo n s at v p e = let a = first (texinfo_at n s at) _ v p e in by a.0 a.1.0 a.1.1.0 (eqb a.0.tex_id n) refl a.1.1.1
  where
    by : (w : BspTexInfo) (q : ℕ) → texinfo_at n s at ≡ ok w q → (t : Bool) → eqb w.tex_id n ≡ t → cond t (refused 11) (ok w q) ≡ ok v p
        → (texinfo_at n s at ≡ ok v p) × (eqb v.tex_id n ≡ false)
    by w q g true h e = not_ok e
    by w q g false h e = (g ∙ e, let z : w ≡ v = cc in rw (sym z) h)

abbrev here : ℕ → Step (Unit {0})
here p = ok tt p

abbrev pub part : ℕ → ℕ → Answer Part
part at n = answer (record { offset = at; size = n })

-- bytes that were read whole lie in the file
blob_lies : (s : List ℕ) (z : BspFileSection) → Ok (blob s z) → z.size ≤ length s - z.offset
unfolding blob
blob_lies s z e = by (eqb (z.offset + min z.size (length s - z.offset)) (z.offset + z.size)) refl e.1
  where
    by : (t : Bool) → eqb (z.offset + min z.size (length s - z.offset)) (z.offset + z.size) ≡ t
        → cond t (here (z.offset + min z.size (length s - z.offset))) (refused 7) ≡ here e.0 → z.size ≤ length s - z.offset
    by true h g = omega (arith, eqb-true (z.offset + min z.size (length s - z.offset)) (z.offset + z.size) h)
    by false h g = not_ok g

-- an entity text that passed its tests is as long as its section
as_long : (s : List ℕ) (z : BspFileSection) → Ok (entities s z) → length (text_of s z.offset) ≡ z.size
unfolding entities
as_long s z e =
    let n = length (text_of s z.offset) in
    by (is_utf8 (text_of s z.offset)) (eqb (z.offset + n) (z.offset + z.size)) refl (left (ltb 65536 n) 8 _ e.0 e.1).1
  where
    by : (t u : Bool) → eqb (z.offset + length (text_of s z.offset)) (z.offset + z.size) ≡ u
        → cond t (cond u (here (z.offset + length (text_of s z.offset))) (refused 7)) (refused 9) ≡ here e.0
        → length (text_of s z.offset) ≡ z.size
    by true true h g =
        let q = eqb-true (z.offset + length (text_of s z.offset)) (z.offset + z.size) h in
        omega arith
    by true false h g = not_ok g
    by false u h g = not_ok g

-- the leaves that one render node names
pub record Named (n : ℕ) (v : BspRenderNode) : Type 0 where
  pub front : outside n v.front ≡ false
  pub back : outside n v.back ≡ false

names : (n : ℕ) (s : List ℕ) (at : ℕ) (u : Unit {0}) (p : ℕ) → references_at n s at ≡ ok u p → (v : BspRenderNode) × ((render_node_at s at ≡ ok v p) × Named n v)
unfolding references_at
names n s at u p e =
    let a = first (render_node_at s at) _ u p e in
    let b = left (outside n a.0.front) 11 _ p a.1.1.1 in
    let c = left (outside n a.0.back) 11 _ p b.1 in
    (a.0, (a.1.1.0 ∙ ap (ok a.0) (at_position c.1), record { front = b.0; back = c.0 }))

-- a face whose extents passed: it was read, its surface was worked out, and neither extent is bad
pub record Surfaced (s : List ℕ) (m : BspData) (f : BspFace) : Type 0 where
  pub of : Surface
  pub is : surface_of s m f ≡ answer of
  pub along_s : is_bad of.special of.extents.s ≡ false
  pub along_t : is_bad of.special of.extents.t ≡ false

surfaced : (n k : ℕ) (s : List ℕ) (m : BspData) (at : ℕ) (u : Unit {0}) (p : ℕ) → extents_at n k m s at ≡ ok u p
    → (f : BspFace) × ((face_at n k s at ≡ ok f p) × Surfaced s m f)
unfolding extents_at
surfaced n k s m at u p e = let a = first (face_at n k s at) _ u p e in by a.0 a.1.0 a.1.1.0 (surface_of s m a.0) refl a.1.1.1
  where
    by : (f : BspFace) (q : ℕ) → face_at n k s at ≡ ok f q → (x : Answer Surface) → surface_of s m f ≡ x
        → on_refusal (refused 11) x (λ x. cond (is_bad x.special x.extents.s) (refused 12) (cond (is_bad x.special x.extents.t) (refused 12) (here q))) ≡ here p
        → (f : BspFace) × ((face_at n k s at ≡ ok f p) × Surfaced s m f)
    by f q g (Answer.answer x) h e =
        let b = left (is_bad x.special x.extents.s) 12 _ p e in
        let c = left (is_bad x.special x.extents.t) 12 _ p b.1 in
        (f, (g ∙ ap (ok f) (at_position c.1), record { of = x; is = h; along_s = b.0; along_t = c.0 }))
    by f q g (Answer.refused j) h e = not_ok e

module _ (s : List ℕ) (m : BspData) (loads : load_of s ≡ answer m) where
  pub planes : Answers (plane_of s m) (record_count Planes m.planes)
  planes = let p = passed s m loads in answers Planes plane_at s m bounded_plane (each_limit m p.limited.0 p.limited.1).planes p.planes

  pub vertices : Answers (vertex_of s m) (record_count Vertices m.vertices)
  vertices = let p = passed s m loads in answers Vertices vector_at s m bounded_vector (each_limit m p.limited.0 p.limited.1).vertices p.vertices

  pub render_nodes : Answers (render_node_of s m) (record_count RenderNodes m.render_nodes)
  render_nodes = let p = passed s m loads in answers RenderNodes render_node_at s m bounded_render_node (each_limit m p.limited.0 p.limited.1).render_nodes p.render_nodes

  pub file_faces : Answers (file_face_of s m) (record_count Faces m.faces)
  unfolding faces
  file_faces = let p = passed s m loads in answers Faces (face_at (record_count Planes m.planes) (record_count TextureInfo m.texinfo)) s m (bounded_face _ _) refl p.faces_read

  pub collision_nodes_lem : Answers (collision_node_of s m) (record_count CollisionNodes m.collision_nodes)
  collision_nodes_lem =
      let p = passed s m loads in
      answers CollisionNodes collision_node_at s m bounded_collision_node (each_limit m p.limited.0 p.limited.1).collision_nodes_lem p.collision_nodes_lem

  pub leaves : Answers (leaf_of s m) (record_count Leaves m.leaves)
  leaves = let p = passed s m loads in answers Leaves leaf_at s m bounded_leaf (each_limit m p.limited.0 p.limited.1).leaves p.leaves

  pub facelist : Answers (facelist_of s m) (record_count FaceList m.facelist)
  facelist = let p = passed s m loads in answers FaceList u16_at s m bounded_u16 refl p.facelist

  pub edges : Answers (edge_of s m) (record_count Edges m.edges)
  edges = let p = passed s m loads in answers Edges edge_at s m bounded_edge (each_limit m p.limited.0 p.limited.1).edges p.edges

  pub edgelist : Answers (edgelist_of s m) (record_count EdgeList m.edgelist)
  edgelist = let p = passed s m loads in answers EdgeList edge_index_at s m bounded_edge_index (each_limit m p.limited.0 p.limited.1).edgelist p.edgelist

  pub file_models : Answers (file_model_of s m) (record_count Models m.models)
  file_models = let p = passed s m loads in answers Models file_model_at s m bounded_file_model (each_limit m p.limited.0 p.limited.1).models p.models

  -- the face of an index: its own record, and what was worked out for it
  face_of_lem : (i : ℕ) → i < record_count Faces m.faces → (f : BspFace) × ((file_face_of s m i ≡ answer f) × Surfaced s m f)
  unfolding faces face_extents
  face_of_lem i h =
      let p = passed s m loads in
      let n = record_count Planes m.planes in
      let k = record_count TextureInfo m.texinfo in
      let z = m.faces in
      let st : (j : ℕ) → j < record_count Faces z → Stands (face_at n k) s (z.offset + j * 20) 20 = λ j l. stands Faces (bounded_face n k) s z p.faces_read.0 p.faces_read.1 j l in
      let r = again (face_at n k) (extents_at n k m) s 20 (λ at u q g. let x = surfaced n k s m at u q g in (x.0, x.1.0))
      (record_count Faces z) z.offset p.extents.0 p.extents.1 (λ j l. ((st j l).value, (st j l).reads)) i h in
      let x = surfaced n k s m (z.offset + i * 20) r.0 (z.offset + i * 20 + 20) r.1 in
      (x.0, (readable Faces (face_at n k) s m refl i h (record { value = x.0; reads = x.1.0; lies = (st i h).lies }), x.1.1))

  pub faces_with_extents : Answers (face_of s m) (record_count Faces m.faces)
  unfolding face_of
  faces_with_extents i h = let x = face_of_lem i h in (with_surface x.0 x.1.1.of, rw (x.1.0, x.1.1.is) refl)

  pub texture_infos : Answers (texinfo_of s m) (record_count TextureInfo m.texinfo)
  unfolding texinfos
  texture_infos i h =
      let p = passed s m loads in
      let n = m.texture_count in
      let r = stands TextureInfo (bounded_textured n) s m.texinfo p.texinfo.0 p.texinfo.1 i h in
      (r.value, readable TextureInfo (texinfo_at n) s m refl i h (record { value = r.value; reads = (was_texinfo n s _ r.value _ r.reads).0; lies = r.lies }))

  -- the texture section reads: no accessor of textures says 23 of it
  pub texture_section : sound_at s m.textures.offset m.texture_count ≡ true
  texture_section = let p = passed s m loads in section_sound s m.textures m.texture_count p.textures.0 p.textures.1

  -- texture infos with the textures' new numbers
  pub numbered_texture_infos : Answers (texture_info s m) (record_count TextureInfo m.texinfo)
  unfolding texinfos texture_info info_at
  numbered_texture_infos i h =
      let p = passed s m loads in
      let n = m.texture_count in
      let r = stands TextureInfo (bounded_textured n) s m.texinfo p.texinfo.0 p.texinfo.1 i h in
      let w = was_texinfo n s _ r.value _ r.reads in
      let e : texinfo_of s m i ≡ answer r.value = readable TextureInfo (texinfo_at n) s m refl i h (record { value = r.value; reads = w.0; lies = r.lies }) in
      let z = eqb-false r.value.tex_id n w.1 in
      let k : r.value.tex_id ≤ n = texture_at_most n s _ r.value _ w.0 in
      let l : r.value.tex_id < n = omega (arith, k, z) in
      (renumbered r.value (numbered_by (names_of s m.textures.offset) n r.value.tex_id), rw (e, lt-leb n r.value.tex_id l, section_sound s m.textures n p.textures.0 p.textures.1) refl)

  -- the leaves before a model, and the model
  pub leaf_ids : (i : ℕ) → i ≤ record_count Models m.models → (n : ℕ) × (leaf_id_of s m i ≡ answer n)
  unfolding leaf_id_of
  leaf_ids zero h = (0, refl)
  leaf_ids (suc i) h =
      let a = leaf_ids i (omega arith) in
      let f = file_models i (omega arith) in
      (a.0 + f.0.leaf_count, rw (a.1, f.1) refl)

  pub models : Answers (model_of s m) (record_count Models m.models)
  unfolding model_of
  models i h =
      let f = file_models i h in
      let a = leaf_ids i (omega arith) in
      (with_rest (record_count CollisionNodes m.collision_nodes) a.0 f.0, rw (f.1, a.1) refl)

  -- there is a model
  pub some_model : 0 < record_count Models m.models
  some_model = let p = passed s m loads in (each_limit m p.limited.0 p.limited.1).some_model

  -- the entity text is the entity section
  pub entity_text_lem : entities_of s m ≡ part m.entities.offset m.entities.size
  unfolding entities_of
  entity_text_lem = by (leb (length s) at) refl
    where
      at : ℕ
      at = m.entities.offset

      whole : text_end s at - at ≡ m.entities.size
      whole = sym (long s at) ∙ as_long s m.entities (passed s m loads).text

      by : (b : Bool) → leb (length s) at ≡ b
          → cond b (cond (eqb m.entities.size 0) (part at 0) (Answer.refused 23)) (part at (text_end s at - at)) ≡ part at m.entities.size
      by true q = let z : m.entities.size ≡ 0 = sym whole ∙ empty s at (leb-true (length s) at q) in rw z refl
      by false q = ap (part at) whole

  -- the visibility data and the lightmaps lie in the file
  pub visibility_lies : m.visibility.size ≤ length s - m.visibility.offset
  visibility_lies = blob_lies s m.visibility (passed s m loads).visibility

  pub lightmaps_lie : m.lightmaps.size ≤ length s - m.lightmaps.offset
  lightmaps_lie = blob_lies s m.lightmaps (passed s m loads).lightmaps

  -- every leaf that a render node names is in the table of leaves
  pub leaves_named : (i : ℕ) (v : BspRenderNode) → i < record_count RenderNodes m.render_nodes → render_node_of s m i ≡ answer v
      → Named (record_count Leaves m.leaves) v
  unfolding leaf_references
  leaves_named i v h e =
      let p = passed s m loads in
      let n = record_count Leaves m.leaves in
      let z = m.render_nodes in
      let l = (each_limit m p.limited.0 p.limited.1).render_nodes in
      let st : (j : ℕ) → j < record_count RenderNodes z → Stands render_node_at s (z.offset + j * 24) 24 = λ j k. stands RenderNodes bounded_render_node s z p.render_nodes.0 p.render_nodes.1 j k in
      let r = again render_node_at (references_at n) s 24 (λ at u q g. let x = names n s at u q g in (x.0, x.1.0))
      (record_count RenderNodes z) z.offset p.references.0 p.references.1 (λ j k. ((st j k).value, (st j k).reads)) i h in
      let x = names n s (z.offset + i * 24) r.0 (z.offset + i * 24 + 24) r.1 in
      let a = readable RenderNodes render_node_at s m l i h (st i h) in
      let b = (st i h).reads in
      let c = x.1.0 in
      let same : x.0 ≡ v = cc in
      subst (λ (w : BspRenderNode). Named n w) same x.1.1
