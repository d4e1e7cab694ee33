-- Each reader of a record whose bytes lie in the file reads exactly the fields of its layout: bits, sign and floats are those of the
-- Quake Specifications' tables, and nothing else of the file is looked at. Where the Rust reads an unsigned field as signed, the bits
-- are read as `to_z` does; `negative_from` of `format` says which those are that it takes for negative.
-- Assumes nothing.
use Rattle.std.specs.Prelude.{Option, Some, None}
use Prim.Native.Nat.{ℕ, zero, suc, ◌+◌, ◌-◌, ◌^◌, ◌≤◌, ◌<◌, min, zero-le}
use mathlib.Core.Path.{◌≡◌, refl, sym, ap, ◌∙◌}
use mathlib.Core.Bool.{Bool, true, false, cond}
use mathlib.Core.List.{List}
use native.Mathlib.Nat.{add-zero}
use native.Mathlib.Omega.{arith}
use borrow.Author.Tests.{le-leb, le-ltb}
use lib.Dec.{lit≤, ltb}
use lib.IntN.{pos, negsuc, nat_abs, ◌-ℤ◌}
use lib.ListN.{length}
use mir.Syntax.{w16, w32}
use mir.Val.{to_z}
use Rattle.math.specs.Vector.{vector}
use Rattle.format.specs.Step.{Step, ok, refused, and_then}
use Rattle.format.specs.Field.{u16_at, index_at, not_negative}
use Rattle.format.specs.Layout as Layout
use Rattle.format.specs.Layout.{bits, int, float}
use Rattle.format.specs.declared.contents.BspLeafContents.{BspLeafContents}
use Rattle.format.proofs.Layouts.{u16_at_lem, i16_at_lem, i32_at_lem, f32_at_lem, either, both, negative_from, byte, next_byte}
use Rattle.records.specs.Number.{index16_at, number_at, at_most, offset, offset_at}
use Rattle.records.specs.Triple.{vector_at, point_at}
use Rattle.records.specs.Plane.{file_plane, plane_at}
use Rattle.records.specs.Node.{render_child, render_child_at, render_node_at, render_node_end_at, with_contents, collision_child, collision_child_at, collision_node_at}
use Rattle.records.specs.declared.node.BspRenderNodeChild.TheVariants as RenderChild
use Rattle.records.specs.Texinfo.{flag, flag_at, texinfo_at, texinfo_end_at}
use Rattle.records.specs.Leaf.{contents, contents_at, leaf_at, leaf_end_at}
use Rattle.records.specs.Edge.{edge_at, edge_index, edge_index_at}

complement : (k : ℕ) → nat_abs (negsuc 0 -ℤ negsuc k) ≡ k
complement zero = refl
complement (suc k) = simp (le-ltb (suc (suc k)) 1 (omega arith)) (omega arith)

-- what a with_contents gives goes on to what follows
coded_then : {A B : Type 0} (c : Option BspLeafContents) (f : BspLeafContents → Step A) (k : A → ℕ → Step B) → and_then (with_contents c f) k ≡ with_contents c (λ v. and_then (f v) k)
coded_then (Some c) f k = refl
coded_then None f k = refl

module _ (s : List ℕ) (at : ℕ) where
  start : at ≡ at + 0
  start = sym (add-zero at)

  pub vertex_layout : at + (Layout.vertex).size ≤ length s
      → vector_at s at ≡ ok (vector (float Layout.vertex 0 s at) (float Layout.vertex 1 s at) (float Layout.vertex 2 s at)) (at + (Layout.vertex).size)
  unfolding vector_at
  vertex_layout h = rw (f32_at_lem s at 12 h 0 at start (lit≤ tt), f32_at_lem s at 12 h 4 (at + 4) refl (lit≤ tt), f32_at_lem s at 12 h 8 (at + 8) refl (lit≤ tt))

  pub plane_layout : at + (Layout.plane).size ≤ length s
      → plane_at s at ≡ ok (file_plane (int Layout.plane 4 s at) (vector (float Layout.plane 0 s at) (float Layout.plane 1 s at) (float Layout.plane 2 s at)) (float Layout.plane 3 s at)) (at + (Layout.plane).size)
  unfolding plane_at vector_at
  plane_layout h =
      rw
      (f32_at_lem s at 20 h 0 at start (lit≤ tt), f32_at_lem s at 20 h 4 (at + 4) refl (lit≤ tt), f32_at_lem s at 20 h 8 (at + 8) refl (lit≤ tt), f32_at_lem s at 20 h 12 (at + 12) refl (lit≤ tt), i32_at_lem s at 20 h 16 (at + 16) refl (lit≤ tt))

  pub edge_layout : at + (Layout.edge).size ≤ length s
      → edge_at s at ≡ ok (record { vertex_id_0 = bits Layout.edge 0 s at; vertex_id_1 = bits Layout.edge 1 s at }) (at + (Layout.edge).size)
  unfolding edge_at
  edge_layout h = rw (u16_at_lem s at 4 h 0 at start (lit≤ tt), u16_at_lem s at 4 h 2 (at + 2) refl (lit≤ tt))

  pub edge_list_layout : at + (Layout.edge_list).size ≤ length s → edge_index_at s at ≡ ok (edge_index (int Layout.edge_list 0 s at)) (at + (Layout.edge_list).size)
  unfolding edge_index_at
  edge_list_layout h = rw (i32_at_lem s at 4 h 0 at start (lit≤ tt))

  pub face_list_layout : at + (Layout.face_list).size ≤ length s → u16_at s at ≡ ok (bits Layout.face_list 0 s at) (at + (Layout.face_list).size)
  face_list_layout h = u16_at_lem s at 2 h 0 at start (lit≤ tt)

  -- planenum, which the Rust reads as signed, and the children
  pub clip_node_layout : at + (Layout.clip_node).size ≤ length s
      → collision_node_at s at
      ≡ and_then (not_negative 10 (to_z w32 (bits Layout.clip_node 0 s at)) (at + 4)) (λ plane p.
      and_then (collision_child (int Layout.clip_node 1 s at) (at + 6)) (λ front q.
      and_then (collision_child (int Layout.clip_node 2 s at) (at + 8)) (λ back t.
      ok (record { plane_id = plane; front = front; back = back }) (at + (Layout.clip_node).size))))
  unfolding collision_node_at collision_child_at index_at
  clip_node_layout h =
      simp
      (either, coded_then, i32_at_lem s at 8 h 0 at start (lit≤ tt), i16_at_lem s at 8 h 4 (at + 4) refl (lit≤ tt), i16_at_lem s at 8 h 6 (at + 6) refl (lit≤ tt))

  -- the children and the face's number, which the Rust reads as signed
  pub node_layout : at + (Layout.node).size ≤ length s
      → render_node_at s at
      ≡ and_then (not_negative 10 (int Layout.node 0 s at) (at + 4)) (λ plane p.
      and_then (not_negative 10 (to_z w16 (bits Layout.node 9 s at)) (at + 22)) (λ face q.
      ok (record {
        plane_id = plane;
        front = render_child (to_z w16 (bits Layout.node 1 s at));
        back = render_child (to_z w16 (bits Layout.node 2 s at));
        min = record { x = int Layout.node 3 s at; y = int Layout.node 4 s at; z = int Layout.node 5 s at };
        max = record { x = int Layout.node 6 s at; y = int Layout.node 7 s at; z = int Layout.node 8 s at };
        face_id = face;
        face_count = bits Layout.node 10 s at;
      }) (at + (Layout.node).size)))
  unfolding render_node_at render_node_end_at render_child_at point_at index16_at index_at
  node_layout h =
      simp
      (either, i32_at_lem s at 24 h 0 at start (lit≤ tt), i16_at_lem s at 24 h 4 (at + 4) refl (lit≤ tt), i16_at_lem s at 24 h 6 (at + 6) refl (lit≤ tt), i16_at_lem s at 24 h 8 (at + 8) refl (lit≤ tt), i16_at_lem s at 24 h 10 (at + 10) refl (lit≤ tt), i16_at_lem s at 24 h 12 (at + 12) refl (lit≤ tt), i16_at_lem s at 24 h 14 (at + 14) refl (lit≤ tt), i16_at_lem s at 24 h 16 (at + 16) refl (lit≤ tt), i16_at_lem s at 24 h 18 (at + 18) refl (lit≤ tt), i16_at_lem s at 24 h 20 (at + 20) refl (lit≤ tt), u16_at_lem s at 24 h 22 (at + 22) refl (lit≤ tt))

  -- texture_id and animated, which the Rust reads as signed
  pub texture_info_layout : (textures : ℕ) → at + (Layout.texture_info).size ≤ length s
      → texinfo_at textures s at
      ≡ and_then (not_negative 10 (to_z w32 (bits Layout.texture_info 8 s at)) (at + 36)) (λ n p.
      and_then (at_most textures n (at + 36)) (λ texture q.
      and_then (not_negative 10 (to_z w32 (bits Layout.texture_info 9 s at)) (at + 40)) (λ f t.
      and_then (flag f (at + 40)) (λ special u.
      ok (record {
        s_vector = vector (float Layout.texture_info 0 s at) (float Layout.texture_info 1 s at) (float Layout.texture_info 2 s at);
        s_offset = float Layout.texture_info 3 s at;
        t_vector = vector (float Layout.texture_info 4 s at) (float Layout.texture_info 5 s at) (float Layout.texture_info 6 s at);
        t_offset = float Layout.texture_info 7 s at;
        tex_id = texture;
        special = special;
      }) (at + (Layout.texture_info).size)))))
  unfolding texinfo_at texinfo_end_at vector_at number_at flag_at index_at
  texture_info_layout textures h =
      simp
      (either, f32_at_lem s at 40 h 0 at start (lit≤ tt), f32_at_lem s at 40 h 4 (at + 4) refl (lit≤ tt), f32_at_lem s at 40 h 8 (at + 8) refl (lit≤ tt), f32_at_lem s at 40 h 12 (at + 12) refl (lit≤ tt), f32_at_lem s at 40 h 16 (at + 16) refl (lit≤ tt), f32_at_lem s at 40 h 20 (at + 20) refl (lit≤ tt), f32_at_lem s at 40 h 24 (at + 24) refl (lit≤ tt), f32_at_lem s at 40 h 28 (at + 28) refl (lit≤ tt), i32_at_lem s at 40 h 32 (at + 32) refl (lit≤ tt), i32_at_lem s at 40 h 36 (at + 36) refl (lit≤ tt))

  pub leaf_layout : at + (Layout.leaf).size ≤ length s
      → leaf_at s at
      ≡ and_then (contents (int Layout.leaf 0 s at) (at + 4)) (λ c p.
      and_then (offset (int Layout.leaf 1 s at) (at + 8)) (λ vis q.
      ok (record {
        contents = c;
        vis_offset = vis;
        min = record { x = int Layout.leaf 2 s at; y = int Layout.leaf 3 s at; z = int Layout.leaf 4 s at };
        max = record { x = int Layout.leaf 5 s at; y = int Layout.leaf 6 s at; z = int Layout.leaf 7 s at };
        facelist_id = bits Layout.leaf 8 s at;
        facelist_count = bits Layout.leaf 9 s at;
        sounds = record { water = bits Layout.leaf 10 s at; sky = bits Layout.leaf 11 s at; slime = bits Layout.leaf 12 s at; lava = bits Layout.leaf 13 s at };
      }) (at + (Layout.leaf).size)))
  unfolding leaf_at leaf_end_at contents_at offset_at point_at
  leaf_layout h =
      let end : at + 24 + min 4 (length s - (at + 24)) ≡ at + 28 = omega arith in
      simp
      (either, coded_then, i32_at_lem s at 28 h 0 at start (lit≤ tt), i32_at_lem s at 28 h 4 (at + 4) refl (lit≤ tt), i16_at_lem s at 28 h 8 (at + 8) refl (lit≤ tt), i16_at_lem s at 28 h 10 (at + 10) refl (lit≤ tt), i16_at_lem s at 28 h 12 (at + 12) refl (lit≤ tt), i16_at_lem s at 28 h 14 (at + 14) refl (lit≤ tt), i16_at_lem s at 28 h 16 (at + 16) refl (lit≤ tt), i16_at_lem s at 28 h 18 (at + 18) refl (lit≤ tt), u16_at_lem s at 28 h 20 (at + 20) refl (lit≤ tt), u16_at_lem s at 28 h 22 (at + 22) refl (lit≤ tt), end, byte s at 24, next_byte s at 24 1, next_byte s at 24 2, next_byte s at 24 3)

  -- What follows where the Rust reads an unsigned field as signed: from half of the range on it refuses (10).
  pub clip_plane_sign : at + (Layout.clip_node).size ≤ length s → 2 ^ 31 ≤ bits Layout.clip_node 0 s at → collision_node_at s at ≡ refused 10
  clip_plane_sign h g = clip_node_layout h ∙ simp (negative_from w32 (bits Layout.clip_node 0 s at), le-leb (2 ^ 31) (bits Layout.clip_node 0 s at) g)

  pub node_face_sign : at + (Layout.node).size ≤ length s → 2 ^ 15 ≤ bits Layout.node 9 s at → render_node_at s at ≡ refused 10
  node_face_sign h g = node_layout h ∙ simp (either, negative_from w16 (bits Layout.node 9 s at), le-leb (2 ^ 15) (bits Layout.node 9 s at) g, both)

  pub texture_sign : (textures : ℕ) → at + (Layout.texture_info).size ≤ length s → 2 ^ 31 ≤ bits Layout.texture_info 8 s at → texinfo_at textures s at ≡ refused 10
  texture_sign textures h g =
      texture_info_layout textures h ∙ simp (negative_from w32 (bits Layout.texture_info 8 s at), le-leb (2 ^ 31) (bits Layout.texture_info 8 s at) g)

leaf_of_lem : (k : ℕ) → render_child (negsuc k) ≡ RenderChild.Leaf k
unfolding render_child
leaf_of_lem k = ap RenderChild.Leaf (complement k)

low_of : (n : ℕ) → render_child (pos n) ≡ RenderChild.Node n
unfolding render_child
low_of n = simp (le-ltb n 0 zero-le)

-- The children of a node, in the specifications' words: bit 15 clear, a node's index; set, the bitwise complement is a leaf's index.
pub node_child_bits : (n : ℕ) → n < 2 ^ 16 → render_child (to_z w16 n) ≡ cond (ltb n 32768) (RenderChild.Node n) (RenderChild.Leaf (65535 - n))
node_child_bits n h = by (ltb n 32768) refl
  where
    by : (b : Bool) → ltb n 32768 ≡ b → render_child (to_z w16 n) ≡ cond b (RenderChild.Node n) (RenderChild.Leaf (65535 - n))
    by true e = let z : to_z w16 n ≡ pos n = simp e in ap render_child z ∙ low_of n
    by false e = let z : to_z w16 n ≡ negsuc (65535 - n) = simp e (ap negsuc (omega arith)) in ap render_child z ∙ leaf_of_lem (65535 - n)
