-- The records of a made-up map, read by their index: what the numbers say.
-- Assumes nothing.
use Prim.Native.Nat.{ℕ, ◌+◌, ◌*◌, ◌<◌, ◌≤◌}
use mathlib.Core.Path.{◌≡◌, refl, ap, ◌∙◌}
use mathlib.Core.Bool.{true}
use mathlib.Core.List.{List}
use native.Mathlib.Omega.{arith}
use borrow.Author.Tests.{le-leb}
use lib.ListN.{length}
use Rattle.format.specs.Answer.{answer}
use Rattle.written.specs.Bytes.{row}
use Rattle.format.specs.Section.{element_size, within_limit, record_count, section_of}
use Rattle.format.specs.Step.{Step}
use Rattle.format.specs.declared.section.BspData.{BspData}
use Rattle.format.specs.declared.section.BspFileSectionId.{BspFileSectionId}
use Rattle.format.specs.declared.section.BspFileSectionId.TheVariants.{Planes, RenderNodes, CollisionNodes, Leaves, Models}
use Rattle.written.proofs.Fields.{Lies, Reads, row_lies}
use Rattle.written.proofs.Sections.{sized, count_of, record_reads}
use Rattle.records.specs.Access.{record_of}
use Rattle.records.specs.Leaf.{leaf_of}
use Rattle.records.specs.Node.{render_node_of, collision_node_of}
use Rattle.records.specs.Plane.{plane_of}
use Rattle.records.proofs.Readable.{answered}
use Rattle.models.specs.Model.{file_model_of, leaf_id_of, model_of, with_rest}
use Rattle.made.specs.Map.{node_number}
use Rattle.made.specs.File.{made_map, plane_part, render_part, clip_part, file_of}
use Rattle.made_loads.specs.Said.{plane_said, render_node_said, clip_node_said, model_said}
use Rattle.made_loads.proofs.Records.{reads_plane, reads_render_node, reads_clip_node, reads_model}
use Rattle.made.proofs.Sizes.{plane_size, render_size, clip_size, model_size}
use Rattle.made_loads.proofs.Parts.{leaf_part, model_part, leaf_size, parts}
use Rattle.made_loads.proofs.Loads.{leaf_at_number, reads_leaf_part}

-- a record that was written in its section is answered
module _ {A : Type 0} {one : List ℕ → ℕ → Step A} (id : BspFileSectionId) (part : ℕ → List ℕ) (v : ℕ → A) (n offset : ℕ) (s : List ℕ) (m : BspData)
    (is : section_of id m ≡ sized id offset n) (limited : within_limit id n ≡ true)
    (sizes : (i : ℕ) → i < n → length (part i) ≡ element_size id) (reads : (i : ℕ) → i < n → Reads one (part i) (v i)) (l : Lies (row part n) s offset) where
  count_is : record_count id (section_of id m) ≡ n
  count_is = ap (record_count id) is ∙ count_of id offset n

  pub reads_back : (i : ℕ) → i < n → record_of id one s m i ≡ answer (v i)
  reads_back i h =
      answered id one s m i (v i)
      (record {
        at = offset + i * element_size id;
        next = offset + i * element_size id + element_size id;
        found = record {
          counted = omega (arith, count_is);
          limited = rw count_is limited;
          is = rw is refl;
          fits = omega (arith, (row_lies part (element_size id) n sizes l i h).inside, sizes i h);
        };
        reads = record_reads id part v n offset s sizes reads l i h;
      })

module _ (seed n : ℕ) (h : n ≤ 500) where
  abbrev s : List ℕ
  s = file_of seed n

  pub planes : (i : ℕ) → i < n → plane_of s (made_map n) i ≡ answer (plane_said (node_number seed i))
  unfolding made_map
  planes =
      reads_back Planes (plane_part seed) (λ i. plane_said (node_number seed i)) n 125 s (made_map n) refl (le-leb n 8192 (omega arith)) (λ i l. plane_size seed i)
      (λ i l. reads_plane (node_number seed i)) (parts seed n).its_planes

  pub render_nodes : (i : ℕ) → i < n → render_node_of s (made_map n) i ≡ answer (render_node_said n i (node_number seed i))
  unfolding made_map
  render_nodes =
      reads_back RenderNodes (render_part seed n) (λ i. render_node_said n i (node_number seed i)) n (129 + n * 20) s (made_map n) refl (le-leb n 32767 (omega arith))
      (λ i l. render_size seed n i) (λ i l. reads_render_node n i (node_number seed i) l (omega arith)) (parts seed n).its_render_nodes

  pub clip_nodes : (i : ℕ) → i < n → collision_node_of s (made_map n) i ≡ answer (clip_node_said n i (node_number seed i))
  unfolding made_map
  clip_nodes =
      reads_back CollisionNodes (clip_part seed n) (λ i. clip_node_said n i (node_number seed i)) n (129 + n * 44) s (made_map n) refl (le-leb n 32767 (omega arith))
      (λ i l. clip_size seed n i) (λ i l. reads_clip_node n i (node_number seed i) l (omega arith)) (parts seed n).its_clip_nodes

  pub leaves : (i : ℕ) → i < 2 → leaf_of s (made_map n) i ≡ answer (leaf_at_number i)
  unfolding made_map
  leaves = reads_back Leaves leaf_part leaf_at_number 2 (129 + n * 52) s (made_map n) refl refl (λ i l. leaf_size i) (λ i l. reads_leaf_part i) (parts seed n).its_leaves

  pub file_model : file_model_of s (made_map n) 0 ≡ answer model_said
  unfolding made_map
  file_model = reads_back Models model_part (λ i. model_said) 1 (185 + n * 52) s (made_map n) refl refl (λ i l. model_size) (λ i l. reads_model) (parts seed n).its_model 0 (omega arith)

  pub model : model_of s (made_map n) 0 ≡ answer (with_rest n 0 model_said)
  unfolding model_of leaf_id_of made_map
  model = rw (file_model, count_of CollisionNodes (129 + n * 44) n) refl

-- how many records there are
module _ (n : ℕ) where
  pub plane_count : record_count Planes (made_map n).planes ≡ n
  unfolding made_map
  plane_count = count_of Planes 125 n

  pub render_count : record_count RenderNodes (made_map n).render_nodes ≡ n
  unfolding made_map
  render_count = count_of RenderNodes (129 + n * 20) n

  pub clip_count : record_count CollisionNodes (made_map n).collision_nodes ≡ n
  unfolding made_map
  clip_count = count_of CollisionNodes (129 + n * 44) n
