-- Trials of the report's text. Assumes nothing.
use mathlib.Core.Path.{◌≡◌, refl}
use mathlib.Core.List.{List, [], ◌∷◌, ◌++◌}
use Prim.Native.Nat.{ℕ}
use native.Mathlib.Omega.{arith}
use lib.Ieee.{of_bits}
use lib.ListN.{length, replicate}
use Rattle.format.specs.Answer.{answer, refused}
use Rattle.format.specs.Field.{u32_at, i32_at, f32_at, index_at}
use Rattle.format.specs.Section.{record_count}
use Rattle.format.specs.declared.section.BspFileSection.{BspFileSection}
use Rattle.records.specs.Number.{number_at}
use Rattle.records.specs.Triple.{vector_at}
use Rattle.models.specs.Model.{bounds_at, roots_at, file_model_end_at, file_model_at, padded_bounds}
use Rattle.models.specs.Text.{text_end}
use Rattle.sections.specs.Records.{records, section, blob}
use Rattle.sections.specs.Table.{is_multiple, section_at, three_sections_at, table_end_at, table_at, is_version, header_at, exceeds, limits, limits_from_leaves}
use Rattle.utf8.specs.Unicode.{lead, next_of, run, whole, is_utf8}
use Rattle.textures.specs.Count.{any}
use Rattle.textures.specs.Group.{sequenced}
use Rattle.textures.specs.Section as Textures
use Rattle.texture_list.specs.List.{listed, textures_at}
use Rattle.load.specs.Entities.{entities}
use Rattle.load.specs.Extents.{face_extents}
use Rattle.load.specs.Load.{load_at, load_of}
use Rattle.load.specs.Tested.{texinfos, faces, leaf_references}
use Rattle.report.specs.Text.{ascii, digits, decimal, line}
use Rattle.report.specs.Report.{count_line, count_lines, told, report_text}
use Rattle.report.proofs.Decimals.{tens}

abbrev word : ℕ → List ℕ
word n = n ∷ 0 ∷ 0 ∷ 0 ∷ []

-- document 01's map of 193 bytes: one entity byte at 124, a texture count at 125, one model at 129
abbrev smallest : ℕ → List ℕ
smallest version =
    word version ++ (word 124 ++ (word 1 ++ (replicate 8 0 ++ (word 125 ++ (word 4 ++ (replicate 88 0 ++ (word 129 ++ (word 64 ++ replicate 69 0))))))))

pub small : report_text (smallest 29) ≡ ascii "planes 0\nnodes 0\nclipnodes 0\nleaves 0\nfaces 0\nmodels 1\nentities 1\n"
unfolding report_text told count_lines count_line line decimal digits load_at header_at i32_at u32_at f32_at is_version table_at three_sections_at section_at is_multiple index_at table_end_at limits limits_from_leaves exceeds record_count entities text_end is_utf8 run next_of lead whole Textures.textures textures_at listed sequenced any section records number_at blob texinfos faces face_extents leaf_references file_model_at file_model_end_at bounds_at roots_at vector_at padded_bounds of_bits
small = refl

pub other_version : report_text (smallest 28) ≡ ascii "refused 2\n"
unfolding report_text told line decimal digits load_at header_at i32_at u32_at is_version
other_version = refl

-- a section of so many bytes
abbrev of : ℕ → BspFileSection
of size = record { offset = 0; size = size }

-- each name has its own section's count, in records, of the entities in bytes
pub each_its_own : told (answer (record {
  entities = of 1234;
  planes = of 20;
  textures = of 999;
  vertices = of 999;
  visibility = of 999;
  render_nodes = of 48;
  texinfo = of 999;
  faces = of 100;
  lightmaps = of 999;
  collision_nodes = of 24;
  leaves = of 112;
  facelist = of 999;
  edges = of 999;
  edgelist = of 999;
  models = of 384;
  texture_count = 999;
})) ≡ ascii "planes 1\nnodes 2\nclipnodes 3\nleaves 4\nfaces 5\nmodels 6\nentities 1234\n"
unfolding told count_lines count_line line decimal digits record_count
each_its_own = refl

-- the largest number of 32 bits, and a refusal of two digits
pub largest : decimal 4294967295 ≡ ascii "4294967295"
unfolding decimal digits
largest = tens 9 4294967296 4294967295 (omega arith) (omega arith)

pub bad_extents : told (refused 12) ≡ ascii "refused 12\n"
unfolding told line decimal digits
bad_extents = refl

-- the limit: 65,536 bytes are loaded, one more is too long
pub at_the_limit : (input : List ℕ) → length input ≡ 65536 → report_text input ≡ told (load_of input)
unfolding report_text
at_the_limit input e = simp e

pub past_the_limit : (input : List ℕ) → length input ≡ 65537 → report_text input ≡ ascii "too long\n"
unfolding report_text
past_the_limit input e = simp e
