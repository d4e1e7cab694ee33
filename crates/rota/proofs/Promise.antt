-- The promise of acceptance (specs/Promise.antt says it). Assumes nothing.
use Prim.Native.Nat.{ℕ, zero, suc, ◌+◌, ◌-◌, ◌*◌, ◌<◌, ◌≤◌}
use mathlib.Core.Path.{◌≡◌, refl, sym, ap, subst, ◌∙◌}
use mathlib.Core.Bool.{Bool, true, false, cond}
use mathlib.Core.List.{List}
use native.Mathlib.Omega.{arith}
use borrow.Author.Tests.{ltb-true, lt-leb, lt-ltb}
use lib.Dec.{ltb, leb, eqb}
use lib.ListN.{length, replicate, length-replicate}
use Rattle.format.specs.Answer.{Answer, answer, refused, mapped, then_answer}
use Rattle.format.specs.Step.{Step}
use Rattle.format.specs.Section.{section_of, record_count, element_size, within_limit, place}
use Rattle.format.specs.declared.contents.BspLeafContents.{BspLeafContents}
use Rattle.format.specs.declared.contents.BspLeafContents.TheVariants.{Empty}
use Rattle.format.specs.declared.section.BspData.{BspData}
use Rattle.format.specs.declared.section.BspFileSection.{BspFileSection}
use Rattle.format.specs.declared.section.BspFileSectionId.{BspFileSectionId}
use Rattle.format.specs.declared.section.BspFileSectionId.TheVariants.{Planes, Leaves, CollisionNodes, Models}
use Rattle.math.specs.declared.vector.Vector3.{Vector3}
use Rattle.math.proofs.Fits.{Fits3}
use Rattle.walk.specs.Table.{Nodes, Table}
use Rattle.walk.specs.Walk.{with_visits, point_walk}
use Rattle.walk.specs.Tree.{IsTree, Valid, at_root}
use Rattle.walk.specs.TreeCheck.{tree_check}
use Rattle.walk.proofs.Check.{passes_only, passes_if}
use Rattle.walk.proofs.Unread.{Served, answered, unreadable, ReadsOrNot, walk_served, trace_served}
use Rattle.records.specs.Access.{reading, read_at, record_of}
use Rattle.records.specs.Plane.{plane_at, plane_of}
use Rattle.records.specs.Leaf.{leaf_at, leaf_of}
use Rattle.records.proofs.Readable.{counted}
use Rattle.faces.specs.Extents.{surface_of, with_surface, face_of}
use Rattle.faces.proofs.FaceLaws.{surface_refuses}
use Rattle.faces.specs.Face.{file_face_of}
use Rattle.models.specs.Model.{file_model_at, file_model_of, leaf_id_of, model_of, with_rest}
use Rattle.models.specs.Text.{text_end, entities_of}
use Rattle.models.specs.declared.model.BspFileModel.{BspFileModel}
use Rattle.models.specs.declared.model.BspModel.{BspModel}
use Rattle.nodes.specs.Tables.{End, contents, leaf, nothing, leaf_in, leaf_contents, contents_of_end, contents_in_box, nodes_of, table_of, leaf_table}
use Rattle.nodes.specs.declared.table.HullTable.{HullTable}
use Rattle.nodes.specs.declared.table.HullTable.TheVariants.{Render, Clip, Box}
use Rattle.hull.specs.Hull.{hull, own_hull, hull_table}
use Rattle.hull.specs.declared.collision.BspCollisionHull.{BspCollisionHull}
use Rattle.tree.specs.Readable.{Floats}
use Rattle.tree.proofs.Readable.{box_planes_read}
use Rattle.loaded.proofs.Demand3.{demand3}
use Rattle.tree.proofs.Laws.{nodes_of_lem}
use Rattle.tree.proofs.Reading.{planes_fit, few_nodes}
use Rattle.loaded.proofs.LeafWalk.{numbered, total, leaf_walk}
use Rattle.vis.specs.Pvs.{pvs_of}
use Rattle.load.specs.Load.{load_of}
use Rattle.load.proofs.Loads as Loads
use Rattle.accept.specs.Accept.{passes, accept}
use Rattle.accept.specs.Accepted.{Accepted}
use Rattle.accept.proofs.Exactly.{passed_only}
use Rattle.rota.specs.Promise.{NotByShape, IsAnswered, Walks, Checks, Records, Queries, EveryMap, EveryFile}
use Rattle.rota.proofs.Fewer.{Whole, pvs_fewer, pvs_zero}

none : {A : Type 0} {P : Type 0} (n : ℕ) (a : A) → refused n ≡ answer a → P
none n a e = let z : ◌≡◌ {A = ℕ} 0 1 = cc in absurd (omega arith)

same_answer : {A : Type 0} (a b : A) → answer a ≡ answer b → a ≡ b
same_answer a b e = cc

-- ---- records: an index in range is answered or 23, in every file

served_reading : {A : Type 0} (x : Step A) → Served (reading x)
served_reading (Step.ok v p) = answered v refl
served_reading (Step.refused n) = unreadable refl

served_read_at : {A : Type 0} (x : Answer ℕ) (one : ℕ → Step A) → Served x → Served (read_at x one)
served_read_at x one (answered p e) = subst (λ (y : Answer ℕ). Served (read_at y one)) (sym e) (served_reading (one p))
served_read_at x one (unreadable e) = unreadable (ap (λ (y : Answer ℕ). read_at y one) e)

served_when : {A : Type 0} (b : Bool) (x y : Answer A) → Served x → Served y → Served (cond b x y)
served_when true x y a b = a
served_when false x y a b = b

place_served : (id : BspFileSectionId) (z : BspFileSection) (n i : ℕ) → i < record_count id z → Served (place id z n i)
unfolding place
place_served id z n i h =
    rw (lt-leb (record_count id z) i h)
    (served_when (within_limit id (record_count id z)) _ _
    (served_when (leb (z.offset + i * element_size id + element_size id) n) _ _ (answered (z.offset + i * element_size id) refl) (unreadable refl))
    (unreadable refl))

module _ {A : Type 0} (id : BspFileSectionId) (one : List ℕ → ℕ → Step A) (s : List ℕ) (m : BspData) where
  record_served : (i : ℕ) → i < record_count id (section_of id m) → Served (record_of id one s m i)
  unfolding record_of
  record_served i h = served_read_at (place id (section_of id m) (length s) i) (λ p. one s p) (place_served id (section_of id m) (length s) i h)

served_mapped : {A B : Type 0} (f : A → B) (x : Answer A) → Served x → Served (mapped f x)
served_mapped f x (answered v e) = answered (f v) (ap (mapped f) e)
served_mapped f x (unreadable e) = unreadable (ap (mapped f) e)

served_then : {A B : Type 0} (x : Answer A) (k : A → Answer B) → Served x → ((v : A) → x ≡ answer v → Served (k v)) → Served (then_answer x k)
served_then x k (answered v e) f = subst (λ (y : Answer _). Served (then_answer y k)) (sym e) (f v e)
served_then x k (unreadable e) f = unreadable (ap (λ (y : Answer _). then_answer y k) e)

served_by_23 : {A : Type 0} (x : Answer A) → ((n : ℕ) → x ≡ refused n → n ≡ 23) → Served x
served_by_23 (answer v) f = answered v refl
served_by_23 (refused n) f = unreadable (ap refused (f n refl))

module _ (s : List ℕ) (m : BspData) where
  face_served : (i : ℕ) → Served (file_face_of s m i) → Served (face_of s m i)
  unfolding face_of
  face_served i e = served_then (file_face_of s m i) _ e (λ f q. served_then (surface_of s m f) _ (served_by_23 (surface_of s m f) (surface_refuses s m f)) (λ x r. answered (with_surface f x) refl))

  leaf_id_served : (i : ℕ) → i ≤ record_count Models m.models → Served (leaf_id_of s m i)
  unfolding leaf_id_of
  leaf_id_served zero h = answered 0 refl
  leaf_id_served (suc i) h =
      served_then (leaf_id_of s m i) _ (leaf_id_served i (omega arith)) (λ t q. served_then (file_model_of s m i) _ (record_served Models file_model_at s m i h) (λ f q. answered _ refl))

  model_served : (i : ℕ) → i < record_count Models m.models → Served (model_of s m i)
  unfolding model_of
  model_served i h =
      served_then (file_model_of s m i) _ (record_served Models file_model_at s m i h) (λ f q. served_then (leaf_id_of s m i) _ (leaf_id_served i (omega arith)) (λ t q. answered _ refl))

  text_served : Served (entities_of s m)
  unfolding entities_of
  text_served =
      let at = m.entities.offset in
      served_when (leb (length s) at) _ _
      (served_when (eqb m.entities.size 0) _ _ (answered (record { offset = at; size = 0 }) refl) (unreadable refl))
      (answered (record { offset = at; size = text_end s at - at }) refl)

  records_served : Records (λ A a. Served a) s m
  records_served = record {
    plane = record_served _ _ s m;
    vertex = record_served _ _ s m;
    render_node = record_served _ _ s m;
    texture_info = record_served _ _ s m;
    face = λ i h. face_served i (record_served _ _ s m i h);
    clip_node = record_served _ _ s m;
    leaf = record_served _ _ s m;
    face_list = record_served _ _ s m;
    edge = record_served _ _ s m;
    edge_list = record_served _ _ s m;
    model = model_served;
    entities = text_served;
  }

-- ---- walks and traces from a checked root

abbrev three : {p : Vector3} → Floats p → Fits3 p
three f = record { x_fits = f.x_float; y_fits = f.y_float; z_fits = f.z_float }

module _ (s : List ℕ) (m : BspData) where
  plane_read_lem : (i : ℕ) → i < record_count Planes m.planes → Served (plane_of s m i)
  plane_read_lem = record_served Planes plane_at s m

  end_read : (e : End) → (nodes_of s m Render).leaf_in e ≡ true → Served (contents_of_end s m e)
  end_read (contents c) h = answered c refl
  end_read (leaf n) h = served_mapped leaf_contents (leaf_of s m n) (record_served Leaves leaf_at s m n (ltb-true _ _ h))
  end_read nothing h = unreadable refl

  box_end_read : (e : End) → leaf_in 0 e ≡ true → Served (contents_in_box e)
  box_end_read (contents c) h = answered c refl
  box_end_read (leaf n) h = let l : n < 0 = ltb-true n 0 h in absurd (omega arith)
  box_end_read nothing h = unreadable refl

  reads : (table : HullTable) (mins maxs : Vector3) → ReadsOrNot (table_of s m table mins maxs)
  unfolding table_of
  reads Render mins maxs = record { planes_read = plane_read_lem; leaves_read = end_read }
  reads Clip mins maxs = record { planes_read = plane_read_lem; leaves_read = end_read }
  reads Box mins maxs =
      record {
        planes_read = λ p l. let a = box_planes_read mins maxs p l in answered a.0 a.1;
        leaves_read = box_end_read;
      }

  numbers_read : ReadsOrNot (total s m)
  numbers_read = record { planes_read = plane_read_lem; leaves_read = λ e h. number e }
    where
      number : (e : End) → Served (numbered e)
      number (contents c) = answered 0 refl
      number (leaf n) = answered n refl
      number nothing = answered 0 refl

  leaf_served : (table : HullTable) (marks : List ℕ) (root h : ℕ) → (tree_check (nodes_of s m table) marks root).answer ≡ answer h → table ≡ Render → (p : Vector3)
      → Served (with_visits (point_walk (leaf_table s m) root p))
  leaf_served Render marks root h e q p =
      subst (λ (o : Answer (ℕ × ℕ)). Served o) (ap with_visits (sym (leaf_walk s m p root))) (walk_served (total s m) numbers_read 0 marks root h e p)
  leaf_served Clip marks root h e q p = let z : ◌≡◌ {A = ℕ} 0 1 = cc in absurd (omega arith)
  leaf_served Box marks root h e q p = let z : ◌≡◌ {A = ℕ} 0 1 = cc in absurd (omega arith)

  module _ (h : BspCollisionHull) (marks : List ℕ) (height : ℕ) (e : (tree_check (nodes_of s m h.table) marks h.node_id).answer ≡ answer height) where
    abbrev T : Table End BspLeafContents
    T = hull_table s m h

    same_nodes : T.nodes ≡ nodes_of s m h.table
    same_nodes = nodes_of_lem s m h.table h.mins h.maxs

    checked : (tree_check T.nodes marks h.node_id).answer ≡ answer height
    checked = ap (λ (N : Nodes End). (tree_check N marks h.node_id).answer) same_nodes ∙ e

    few : (nodes_of s m h.table).count ≤ 32767
    few =
        let v : Valid (nodes_of s m h.table) h.node_id = (passes_only (nodes_of s m h.table) marks h.node_id height e).0.valid h.node_id (at_root refl) in
        few_nodes s m h.table h.node_id v.record_of v.read_as

    walks_served : Walks (λ A a. Served a) s m h
    walks_served = record {
      contents = walk_served T (reads h.table h.mins h.maxs) Empty marks h.node_id height checked;
      leaf = leaf_served h.table marks h.node_id height e;
      trace = λ F G start end S D.
          let k : T.nodes.count ≡ (nodes_of s m h.table).count = ap (λ (N : Nodes End). N.count) same_nodes in
          trace_served T (reads h.table h.mins h.maxs) Empty (planes_fit s m h.table h.mins h.maxs F G) marks h.node_id height checked (omega (arith, few)) start end (three S) (three D);
    }

-- ---- the roots that acceptance checks

module _ (s : List ℕ) (m : BspData) (A : Accepted s m) where
  -- the model's record that a hull is made of
  pub record Made (i j : ℕ) (h : BspCollisionHull) : Type 0 where
    pub own : BspFileModel
    pub own_read : file_model_of s m i ≡ answer own
    pub is : own_hull (record_count CollisionNodes m.collision_nodes) j own ≡ answer h

  made : (i j : ℕ) (h : BspCollisionHull) → hull s m i j ≡ answer h → Made i j h
  unfolding hull
  made i j h e = by (ltb j 3) e
    where
      by_own : (x : Answer BspFileModel) → file_model_of s m i ≡ x → then_answer x (own_hull (record_count CollisionNodes m.collision_nodes) j) ≡ answer h → Made i j h
      by_own (answer f) q e = record { own = f; own_read = q; is = e }
      by_own (refused n) q e = none n h e

      by : (b : Bool) → cond b (then_answer (file_model_of s m i) (own_hull (record_count CollisionNodes m.collision_nodes) j)) (refused 20) ≡ answer h → Made i j h
      by true e = by_own (file_model_of s m i) refl e
      by false e = none 20 h e

  abbrev Treed : BspCollisionHull → Type 0
  Treed h = IsTree (nodes_of s m h.table) h.node_id

  hull_tree : (i j : ℕ) (h : BspCollisionHull) → hull s m i j ≡ answer h → Treed h
  hull_tree i j h e =
      let M = made i j h e in
      let K = A.models i (counted Models file_model_at s m i M.own M.own_read) in
      let q : K.own ≡ M.own = same_answer K.own M.own (sym K.own_read ∙ M.own_read) in
      by j M.own (subst (λ (f : BspFileModel). IsTree (nodes_of s m Render) f.collision_node_ids.hull_0) q K.tree_0)
      (subst (λ (f : BspFileModel). IsTree (nodes_of s m Clip) f.collision_node_ids.hull_1) q K.tree_1)
      (subst (λ (f : BspFileModel). IsTree (nodes_of s m Clip) f.collision_node_ids.hull_2) q K.tree_2) M.is
    where
      by : (j : ℕ) (f : BspFileModel) → IsTree (nodes_of s m Render) f.collision_node_ids.hull_0 → IsTree (nodes_of s m Clip) f.collision_node_ids.hull_1
          → IsTree (nodes_of s m Clip) f.collision_node_ids.hull_2 → own_hull (record_count CollisionNodes m.collision_nodes) j f ≡ answer h → Treed h
      by zero f t0 t1 t2 e = subst Treed (same_answer _ h e) t0
      by (suc zero) f t0 t1 t2 e = subst Treed (same_answer _ h e) t1
      by (suc (suc zero)) f t0 t1 t2 e = subst Treed (same_answer _ h e) t2
      by (suc (suc (suc j))) f t0 t1 t2 e = none 20 h e

  hull_checked_lem : (i j : ℕ) (h : BspCollisionHull) → hull s m i j ≡ answer h → Checks (λ A a. Served a) s m h
  hull_checked_lem i j h e marks l = passes_if (nodes_of s m h.table) marks h.node_id l (hull_tree i j h e)

  -- marks enough for a table
  abbrev clear : (table : HullTable) → List ℕ
  clear table = replicate (nodes_of s m table).count 0

  clear_fits : (table : HullTable) → (nodes_of s m table).count ≤ length (clear table)
  clear_fits table = let l : length {A = ℕ} (replicate (nodes_of s m table).count 0) ≡ (nodes_of s m table).count = length-replicate (nodes_of s m table).count 0 in omega arith

  -- ---- visibility

  rows_whole : (leaf count : ℕ) → leaf < record_count Leaves m.leaves → count ≤ record_count Leaves m.leaves → Whole (pvs_of s m leaf count)
  rows_whole zero count h l = pvs_zero s m count
  rows_whole (suc i) count h l = pvs_fewer count (record_count Leaves m.leaves) l s m (suc i) (A.rows (suc i) (omega arith) h)

  hull_served : (i j : ℕ) → i < record_count Models m.models → j < 3 → Served (hull s m i j)
  unfolding hull
  hull_served i j h k = rw (lt-ltb j 3 k) (served_then (file_model_of s m i) _ (record_served Models file_model_at s m i h) (λ f q. own_served f j k))
    where
      own_served : (f : BspFileModel) (j : ℕ) → j < 3 → Served (own_hull (record_count CollisionNodes m.collision_nodes) j f)
      own_served f zero k = answered _ refl
      own_served f (suc zero) k = answered _ refl
      own_served f (suc (suc zero)) k = answered _ refl
      own_served f (suc (suc (suc j))) k = absurd (omega arith)

  -- ---- all: answered or 23

  queries_served : Queries (λ A a. Served a) s m
  queries_served = record {
    records = records_served s m;
    hull_of = hull_served;
    hull_checks = hull_checked_lem;
    hull_walks = λ i j h e. let c = hull_checked_lem i j h e (clear h.table) (clear_fits h.table) in walks_served s m h (clear h.table) c.0 c.1;
    find_leaf = λ p. let c = passes_if (nodes_of s m Render) (clear Render) 0 (clear_fits Render) A.node_0 in leaf_served s m Render (clear Render) 0 c.0 c.1 refl p;
    checked_walks = walks_served s m;
    visibility = λ leaf count h l. let w = rows_whole leaf count h l in answered w.0 w.1;
  }

-- ---- the promise for every map

same_number : {A : Type 0} (k n : ℕ) → ◌≡◌ {A = Answer A} (refused k) (refused n) → k ≡ n
same_number k n e = cc

spared : (A : Type 0) (a : Answer A) → Served a → NotByShape A a
spared A a (answered v e) n l h q = none n v (sym q ∙ e)
spared A a (unreadable e) n l h q = let k : 23 ≡ n = same_number {A = A} 23 n (sym e ∙ q) in omega arith

walks_to : {U W : (A : Type 0) → Answer A → Type 0} → ((A : Type 0) (a : Answer A) → U A a → W A a) → (s : List ℕ) (m : BspData) (h : BspCollisionHull) → Walks U s m h → Walks W s m h
walks_to f s m h w = record {
  contents = λ p. f _ _ (w.contents p);
  leaf = λ r p. f _ _ (w.leaf r p);
  trace = λ F G start end S D. f _ _ (w.trace F G start end S D);
}

pub queries_to : {U W : (A : Type 0) → Answer A → Type 0} → ((A : Type 0) (a : Answer A) → U A a → W A a) → (s : List ℕ) (m : BspData) → Queries U s m → Queries W s m
queries_to f s m q = record {
  records = record {
    plane = λ i h. f _ _ (q.records.plane i h);
    vertex = λ i h. f _ _ (q.records.vertex i h);
    render_node = λ i h. f _ _ (q.records.render_node i h);
    texture_info = λ i h. f _ _ (q.records.texture_info i h);
    face = λ i h. f _ _ (q.records.face i h);
    clip_node = λ i h. f _ _ (q.records.clip_node i h);
    leaf = λ i h. f _ _ (q.records.leaf i h);
    face_list = λ i h. f _ _ (q.records.face_list i h);
    edge = λ i h. f _ _ (q.records.edge i h);
    edge_list = λ i h. f _ _ (q.records.edge_list i h);
    model = λ i h. f _ _ (q.records.model i h);
    entities = f _ _ q.records.entities;
  };
  hull_of = λ i j h k. f _ _ (q.hull_of i j h k);
  hull_checks = q.hull_checks;
  hull_walks = λ i j h e. walks_to f s m h (q.hull_walks i j h e);
  find_leaf = λ p. f _ _ (q.find_leaf p);
  checked_walks = λ h marks height e. walks_to f s m h (q.checked_walks h marks height e);
  visibility = λ leaf count h l. f _ _ (q.visibility leaf count h l);
}

pub every_map : EveryMap
every_map s m marks e = queries_to spared s m (queries_served s m (passed_only s m marks e).1)

-- the tree check passes from render node 0
pub node_0_checks : (s : List ℕ) (m : BspData) (marks : List ℕ) → (accept s m marks).answered ≡ passes
    → (ms : List ℕ) → (nodes_of s m Render).count ≤ length ms → (height : ℕ) × ((tree_check (nodes_of s m Render) ms 0).answer ≡ answer height)
node_0_checks s m marks e ms l = passes_if (nodes_of s m Render) ms 0 l (passed_only s m marks e).1.node_0

-- ---- and for a file that loads

module _ (s : List ℕ) (m : BspData) (loads : load_of s ≡ answer m) where
  walks_answered : (h : BspCollisionHull) (marks : List ℕ) (height : ℕ) → (tree_check (nodes_of s m h.table) marks h.node_id).answer ≡ answer height → Walks IsAnswered s m h
  walks_answered h marks height e =
      let d = demand3 s m (record { planes = Loads.planes s m loads; leaves = Loads.leaves s m loads }) h.table h.node_id height (record { marks = marks; passed = e }) in
      record {
        contents = λ p. (_, (d.contents h.mins h.maxs p).all.visits);
        leaf = λ r p. (_, (d.leaf r p).all.visits);
        trace = λ F G start end S D. (_, (d.trace h.mins h.maxs start end F G S D).visits);
      }

  records_answered : Records IsAnswered s m
  records_answered = record {
    plane = Loads.planes s m loads;
    vertex = Loads.vertices s m loads;
    render_node = Loads.render_nodes s m loads;
    texture_info = Loads.texture_infos s m loads;
    face = Loads.faces_with_extents s m loads;
    clip_node = Loads.collision_nodes_lem s m loads;
    leaf = Loads.leaves s m loads;
    face_list = Loads.facelist s m loads;
    edge = Loads.edges s m loads;
    edge_list = Loads.edgelist s m loads;
    model = Loads.models s m loads;
    entities = (_, Loads.entity_text_lem s m loads);
  }

  hull_answered : (i j : ℕ) → i < record_count Models m.models → j < 3 → IsAnswered BspCollisionHull (hull s m i j)
  unfolding hull model_of
  hull_answered i j h k = by_model (Loads.models s m loads i h)
    where
      own_answered : (f : BspFileModel) (j : ℕ) → j < 3 → IsAnswered BspCollisionHull (own_hull (record_count CollisionNodes m.collision_nodes) j f)
      own_answered f zero k = (_, refl)
      own_answered f (suc zero) k = (_, refl)
      own_answered f (suc (suc zero)) k = (_, refl)
      own_answered f (suc (suc (suc j))) k = absurd (omega arith)

      by_own : (x : Answer BspFileModel) (b : BspModel)
          → then_answer x (λ f. then_answer (leaf_id_of s m i) (λ first. answer (with_rest (record_count CollisionNodes m.collision_nodes) first f))) ≡ answer b
          → IsAnswered BspCollisionHull (then_answer x (own_hull (record_count CollisionNodes m.collision_nodes) j))
      by_own (answer f) b e = own_answered f j k
      by_own (refused n) b e = none n b e

      by_model : (b : BspModel) × (model_of s m i ≡ answer b) → IsAnswered BspCollisionHull (cond (ltb j 3) (then_answer (file_model_of s m i) (own_hull (record_count CollisionNodes m.collision_nodes) j)) (refused 20))
      by_model w = rw (lt-ltb j 3 k) (by_own (file_model_of s m i) w.0 w.1)

  queries_answered : Accepted s m → Queries IsAnswered s m
  queries_answered A = record {
    records = records_answered;
    hull_of = hull_answered;
    hull_checks = hull_checked_lem s m A;
    hull_walks = λ i j h e. let c = hull_checked_lem s m A i j h e (clear s m A h.table) (clear_fits s m A h.table) in walks_answered h (clear s m A h.table) c.0 c.1;
    find_leaf = λ p.
        let c = passes_if (nodes_of s m Render) (clear s m A Render) 0 (clear_fits s m A Render) A.node_0 in
        (_, ((demand3 s m (record { planes = Loads.planes s m loads; leaves = Loads.leaves s m loads }) Render 0 c.0 (record { marks = clear s m A Render; passed = c.1 })).leaf refl p).all.visits);
    checked_walks = walks_answered;
    visibility = rows_whole s m A;
  }

pub every_file : EveryFile
every_file s m marks loads e = queries_answered s m loads (passed_only s m marks e).1
