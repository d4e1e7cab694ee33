-- A file that loads passed every check, in the order of loading.
-- Assumes nothing.
use Prim.Native.Nat.{ℕ}
use mathlib.Core.Path.{◌≡◌, refl, sym, ap, ◌∙◌, subst}
use mathlib.Core.List.{List}
use Rattle.format.specs.Answer.{Answer, answer}
use Rattle.format.specs.Field.{u16_at}
use Rattle.format.specs.Step.{Step, ok, refused, and_then}
use Rattle.format.specs.declared.section.BspData.{BspData}
use Rattle.format.specs.declared.section.BspFileSectionId.TheVariants.{Planes, Vertices, RenderNodes, CollisionNodes, Leaves, FaceList, Edges, EdgeList, Models}
use Rattle.records.specs.Edge.{edge_at, edge_index_at}
use Rattle.records.specs.Leaf.{leaf_at}
use Rattle.models.specs.Model.{file_model_at}
use Rattle.records.specs.Node.{render_node_at, collision_node_at}
use Rattle.records.specs.Plane.{plane_at}
use Rattle.records.specs.Triple.{vector_at}
use Rattle.sections.specs.Records.{section, blob}
use Rattle.sections.specs.Table.{header_at, limits, limits_from_leaves, exceeds}
use Rattle.sections.proofs.Bounded.{not_ok}
use Rattle.textures.specs.Section as Section
use Rattle.load.specs.Entities.{entities}
use Rattle.load.specs.Extents.{face_extents}
use Rattle.load.specs.Tested.{texinfos, faces, leaf_references}
use Rattle.load.specs.Load.{counted, load_at, load_of, outcome}
use Rattle.load.specs.Private.{from_extents, from_edges, from_collision_nodes, from_texinfo, from_vertices, from_planes, from_header}
use Rattle.load.proofs.Stages.{stages}

-- a check that passed
abbrev pub Ok : Step (Unit {0}) → Type 0
Ok x = (p : ℕ) × (x ≡ ok tt p)

abbrev value : Step BspData → BspData → BspData
value (ok v p) d = v
value (refused n) d = d

abbrev given : Answer BspData → BspData → BspData
given (Answer.answer v) d = v
given (Answer.refused n) d = d

abbrev Is-answer : Answer BspData → Type 0
Is-answer (Answer.answer v) = Unit {0}
Is-answer (Answer.refused n) = ⊥

-- a chain that gave a value: its first step gave one, and the rest did from there
pub first : {A B : Type 0} (x : Step A) (k : A → ℕ → Step B) (w : B) (q : ℕ) → and_then x k ≡ ok w q → (v : A) × ((p : ℕ) × ((x ≡ ok v p) × (k v p ≡ ok w q)))
first (ok v p) k w q e = (v, (p, (refl, e)))
first (refused n) k w q e = not_ok e

-- What passed of a map record that loading answers. The texture count is what the texture section says.
pub record Passed (s : List ℕ) (m : BspData) : Type 0 where
  pub limited : Ok (limits m)
  pub text : Ok (entities s m.entities)
  pub planes : Ok (section plane_at Planes s m.planes)
  pub textures : (p : ℕ) × (Section.textures s m.textures ≡ ok m.texture_count p)
  pub vertices : Ok (section vector_at Vertices s m.vertices)
  pub visibility : Ok (blob s m.visibility)
  pub render_nodes : Ok (section render_node_at RenderNodes s m.render_nodes)
  pub texinfo : Ok (texinfos s m)
  pub faces_read : Ok (faces s m)
  pub lightmaps : Ok (blob s m.lightmaps)
  pub collision_nodes_lem : Ok (section collision_node_at CollisionNodes s m.collision_nodes)
  pub leaves : Ok (section leaf_at Leaves s m.leaves)
  pub facelist : Ok (section u16_at FaceList s m.facelist)
  pub edges : Ok (section edge_at Edges s m.edges)
  pub edgelist : Ok (section edge_index_at EdgeList s m.edgelist)
  pub extents : Ok (face_extents s m)
  pub references : Ok (leaf_references s m)
  pub models : Ok (section file_model_at Models s m.models)

-- the stages from the vertices on
rest : (s : List ℕ) (m w : BspData) (q : ℕ) → from_vertices s m ≡ ok w q → Ok (limits m) → Ok (entities s m.entities) → Ok (section plane_at Planes s m.planes)
    → (p : ℕ) × (Section.textures s m.textures ≡ ok m.texture_count p) → Passed s m × (m ≡ w)
unfolding from_vertices from_texinfo from_collision_nodes from_edges from_extents
rest s m w q e l t p n =
    let a = first (section vector_at Vertices s m.vertices) _ w q e in
    let b = first (blob s m.visibility) _ w q a.1.1.1 in
    let c = first (section render_node_at RenderNodes s m.render_nodes) _ w q b.1.1.1 in
    let d = first (texinfos s m) _ w q c.1.1.1 in
    let f = first (faces s m) _ w q d.1.1.1 in
    let g = first (blob s m.lightmaps) _ w q f.1.1.1 in
    let h = first (section collision_node_at CollisionNodes s m.collision_nodes) _ w q g.1.1.1 in
    let i = first (section leaf_at Leaves s m.leaves) _ w q h.1.1.1 in
    let j = first (section u16_at FaceList s m.facelist) _ w q i.1.1.1 in
    let k = first (section edge_at Edges s m.edges) _ w q j.1.1.1 in
    let o = first (section edge_index_at EdgeList s m.edgelist) _ w q k.1.1.1 in
    let x = first (face_extents s m) _ w q o.1.1.1 in
    let r = first (leaf_references s m) _ w q x.1.1.1 in
    let u = first (section file_model_at Models s m.models) _ w q r.1.1.1 in (
      record {
        limited = l;
        text = t;
        planes = p;
        textures = n;
        vertices = (a.1.0, a.1.1.0);
        visibility = (b.1.0, b.1.1.0);
        render_nodes = (c.1.0, c.1.1.0);
        texinfo = (d.1.0, d.1.1.0);
        faces_read = (f.1.0, f.1.1.0);
        lightmaps = (g.1.0, g.1.1.0);
        collision_nodes_lem = (h.1.0, h.1.1.0);
        leaves = (i.1.0, i.1.1.0);
        facelist = (j.1.0, j.1.1.0);
        edges = (k.1.0, k.1.1.0);
        edgelist = (o.1.0, o.1.1.0);
        extents = (x.1.0, x.1.1.0);
        references = (r.1.0, r.1.1.0);
        models = (u.1.0, u.1.1.0);
      },
      ap (λ x. value x m) u.1.1.1,
    )

-- all the stages
from_start : (s : List ℕ) (w : BspData) (q : ℕ) → from_header s ≡ ok w q → Passed s w
unfolding from_header from_planes limits limits_from_leaves exceeds
from_start s w q e =
    let a = first (header_at s) _ w q e in
    let b = first (limits a.0) _ w q a.1.1.1 in
    let c = first (entities s a.0.entities) _ w q b.1.1.1 in
    let d = first (section plane_at Planes s a.0.planes) _ w q c.1.1.1 in
    let n = first (Section.textures s a.0.textures) _ w q d.1.1.1 in
    let r = rest s (counted a.0 n.0) w q n.1.1.1 (b.1.0, b.1.1.0) (c.1.0, c.1.1.0) (d.1.0, d.1.1.0) (n.1.0, n.1.1.0) in
    subst (λ (m : BspData). Passed s m) r.1 r.0

-- a file that loads passed every check
pub passed : (s : List ℕ) (m : BspData) → load_of s ≡ answer m → Passed s m
passed s m e = by (load_at s) refl e
  where
    by : (x : Step BspData) → load_at s ≡ x → outcome x ≡ answer m → Passed s m
    by (ok w q) h e = from_start s m q (stages s ∙ h ∙ ap (λ v. ok v q) (ap (λ x. given x m) e))
    by (refused n) h e = absurd (subst Is-answer (sym e) tt)
