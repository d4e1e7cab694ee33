-- Where the parts of a made-up map's file lie, and what its header says.
-- Assumes nothing.
use Prim.Native.Nat.{ℕ, zero, suc, ◌+◌, ◌*◌, ◌≤◌}
use mathlib.Core.Path.{◌≡◌, refl, subst}
use mathlib.Core.Bool.{cond}
use mathlib.Core.List.{List, [], ◌∷◌}
use native.Mathlib.Omega.{arith}
use lib.IntN.{pos, negsuc}
use lib.ListN.{length}
use Rattle.format.specs.Step.{ok, refused}
use Rattle.format.specs.declared.section.BspFileSectionId.TheVariants.{Entities, Planes, Textures, Vertices, Visibility, RenderNodes, TextureInfo, Faces, Lightmaps, CollisionNodes, Leaves, FaceList, Edges, EdgeList, Models}
use Rattle.sections.specs.Table.{table_end_at, table_at, is_version, header_at}
use Rattle.written.specs.Bytes.{u32, row}
use Rattle.made.specs.File.{made_map, table_bytes, header, leaf, leaves, model, plane_part, render_part, clip_part, parts_of, file_of}
use Rattle.made.proofs.Sizes.{plane_size, render_size, clip_size, header_size, leaves_size}
use Rattle.written.proofs.Fields.{Lies, whole, laid, Reads, then, last, reads_i32, row_length}
use Rattle.written.proofs.Sections.{reads_three}

-- the leaves and the model as rows
abbrev pub leaf_part : ℕ → List ℕ
leaf_part zero = leaf (negsuc 1)
leaf_part (suc i) = leaf (negsuc 0)

abbrev pub model_part : ℕ → List ℕ
model_part i = model

pub leaf_size : (i : ℕ) → length (leaf_part i) ≡ 28
unfolding leaf
leaf_size zero = refl
leaf_size (suc i) = refl

pub record Parts (seed n : ℕ) (s : List ℕ) : Type 0 where
  pub its_header : Lies (header (made_map n)) s 0
  pub text : Lies (0 ∷ []) s 124
  pub its_planes : Lies (row (plane_part seed) n) s 125
  pub its_textures : Lies (u32 0) s (125 + n * 20)
  pub its_render_nodes : Lies (row (render_part seed n) n) s (129 + n * 20)
  pub its_clip_nodes : Lies (row (clip_part seed n) n) s (129 + n * 44)
  pub its_leaves : Lies (row leaf_part 2) s (129 + n * 52)
  pub its_model : Lies (row model_part 1) s (185 + n * 52)

leaves_row : leaves ≡ row leaf_part 2
unfolding leaves row leaf
leaves_row = refl

model_row : model ≡ row model_part 1
unfolding row model
model_row = refl

pub parts : (seed n : ℕ) → Parts seed n (file_of seed n)
unfolding file_of
parts seed n =
    let s = file_of seed n in
    let l = laid (parts_of seed n) s 0 (whole s) in
    let a = header_size n in
    let b = row_length (plane_part seed) 20 n (λ i h. plane_size seed i) in
    let c = row_length (render_part seed n) 24 n (λ i h. render_size seed n i) in
    let d = row_length (clip_part seed n) 8 n (λ i h. clip_size seed n i) in
    let e = leaves_size in
    record {
      its_header = l.0;
      text = subst (Lies (0 ∷ []) s) (omega arith) l.1.0;
      its_planes = subst (Lies (row (plane_part seed) n) s) (omega arith) l.1.1.0;
      its_textures = subst (Lies (u32 0) s) (omega arith) l.1.1.1.0;
      its_render_nodes = subst (Lies (row (render_part seed n) n) s) (omega arith) l.1.1.1.1.0;
      its_clip_nodes = subst (Lies (row (clip_part seed n) n) s) (omega arith) l.1.1.1.1.1.0;
      its_leaves = subst (λ (xs : List ℕ). Lies xs s (129 + n * 52)) leaves_row (subst (Lies leaves s) (omega arith) l.1.1.1.1.1.1.0);
      its_model = subst (λ (xs : List ℕ). Lies xs s (185 + n * 52)) model_row (subst (Lies model s) (omega arith) l.1.1.1.1.1.1.1.0);
    }

-- the header

table : (n : ℕ) → n ≤ 500 → Reads table_at (table_bytes (made_map n)) (made_map n)
unfolding made_map table_at table_end_at
table n h =
    then _ (reads_three Entities Planes Textures 124 1 125 n (125 + n * 20) 4 (omega arith) (omega arith) (omega arith))
    (then _ (reads_three Vertices Visibility RenderNodes 0 0 0 0 (129 + n * 20) n (omega arith) (omega arith) (omega arith))
    (then _ (reads_three TextureInfo Faces Lightmaps 0 0 0 0 0 0 (omega arith) (omega arith) (omega arith))
    (then _ (reads_three CollisionNodes Leaves FaceList (129 + n * 44) n (129 + n * 52) 2 0 0 (omega arith) (omega arith) (omega arith))
    (last _ (reads_three Edges EdgeList Models 0 0 0 0 (185 + n * 52) 1 (omega arith) (omega arith) (omega arith)) (λ p. refl)))))

pub header_reads : (seed n : ℕ) → n ≤ 500 → header_at (file_of seed n) ≡ ok (made_map n) 124
unfolding header_at header is_version
header_reads seed n h =
    (then (λ version s p. cond (is_version version) (table_at s p) (refused 2)) (reads_i32 (pos 29) (record { sfits = omega arith })) (table n h)
    ).reads (file_of seed n) 0 (parts seed n).its_header
