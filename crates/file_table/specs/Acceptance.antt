-- Acceptance of a small map in bytes: it passes, with one fault planted at each check it is refused, and of two faults the first in the order
-- counts. Beside what the definition says, what note 4 of document 02 says. proofs/Acceptance.antt computes them all.
use Rattle.std.specs.Prelude.{ℕ, List, [], ◌∷◌, ◌++◌, replicate}
use Rattle.format.specs.Answer.{refused}
use Rattle.format.specs.declared.section.BspData.{BspData}
use Rattle.trial_table.specs.Trials.{word, section_with}
use Rattle.accept.specs.Accept.{passes, Judged, judged, accept}

-- the bytes of a number in 16 bits, below 256 (in 32: `word`)
abbrev pub w16 : ℕ → List ℕ
w16 n = n ∷ 0 ∷ []

-- One face (plane 0, texture info 0, the first three entries of the list of edges); two leaves, of which leaf 1 has the row at 0 and one face; one model with
-- the roots 0, one leaf and one face; one render node whose children are leaves 1 and 0; one clip node, Empty and Solid; three entries of the list of edges,
-- all edge 0; one edge, whose vertices are 0; one entry of the list of faces; the row 1.
abbrev pub file : List ℕ
file =
    w16 0 ++ w16 0 ++ word 0 ++ w16 3 ++ w16 0 ++ word 0 ++ replicate 4 255
    ++ (254 ∷ 255 ∷ 255 ∷ 255 ∷ []) ++ replicate 4 255 ++ replicate 20 0
    ++ replicate 4 255 ++ word 0 ++ replicate 12 0 ++ w16 0 ++ w16 1 ++ replicate 4 0
    ++ replicate 36 0 ++ replicate 16 0 ++ word 1 ++ word 0 ++ word 1
    ++ word 0 ++ (254 ∷ 255 ∷ 255 ∷ 255 ∷ []) ++ replicate 12 0 ++ w16 0 ++ w16 0
    ++ word 0 ++ (255 ∷ 255 ∷ 254 ∷ 255 ∷ [])
    ++ word 0 ++ word 0 ++ word 0
    ++ w16 0 ++ w16 0
    ++ w16 0
    ++ (1 ∷ [])

-- where the sections lie, and how large they are
pub record Sizes : Type 0 where
  pub faces_at : ℕ
  pub planes : ℕ
  pub infos : ℕ
  pub edge_list : ℕ
  pub edges : ℕ
  pub vertices : ℕ
  pub faces : ℕ
  pub face_list : ℕ
  pub leaves : ℕ
  pub row : ℕ
  pub render : ℕ
  pub clip : ℕ

abbrev pub map : Sizes → BspData
map z = record {
  entities = section_with 0 0;
  planes = section_with 0 z.planes;
  textures = section_with 0 0;
  vertices = section_with 0 z.vertices;
  visibility = section_with 190 z.row;
  render_nodes = section_with 140 z.render;
  texinfo = section_with 0 z.infos;
  faces = section_with z.faces_at z.faces;
  lightmaps = section_with 0 0;
  collision_nodes = section_with 164 z.clip;
  leaves = section_with 20 z.leaves;
  facelist = section_with 188 z.face_list;
  edges = section_with 184 z.edges;
  edgelist = section_with 172 z.edge_list;
  models = section_with 76 64;
  texture_count = 0;
}

-- faces at; planes, texture infos, edge list, edges, vertices; faces, face list, leaves, row; render nodes, clip nodes
abbrev pub sizes : ℕ → ℕ → ℕ → ℕ → ℕ → ℕ → ℕ → ℕ → ℕ → ℕ → ℕ → ℕ → Sizes
sizes a b c d e f g h i j k l = record { faces_at = a; planes = b; infos = c; edge_list = d; edges = e; vertices = f; faces = g; face_list = h; leaves = i; row = j; render = k; clip = l }

abbrev pub good : Sizes
good = sizes 0 20 40 12 4 12 20 2 56 1 24 8

abbrev pub judge : Sizes → Judged
judge z = accept file (map z) (7 ∷ 7 ∷ [])

abbrev pub refusal : ℕ → Judged
refusal n = judged (refused n) (0 ∷ 7 ∷ [])

pub record Trial : Type 0 where
  pub definition : Judged
  pub note : Judged

infix 4 ◌gives◌
abbrev pub ◌gives◌ : Judged → Judged → Trial
d gives j = record { definition = d; note = j }

unfoldable pub trials : List Trial
trials =
    -- it passes, whatever the mark held, and a later mark is kept
    (judge good gives judged passes (0 ∷ 7 ∷ []))
    -- without a mark it is 22, even where a face cannot be read
    ∷ (accept file (map good) [] gives judged (refused 22) [])
    ∷ (accept file (map (sizes 900 20 40 12 4 12 20 2 56 1 24 8)) [] gives judged (refused 22) [])
    -- a face's record; its plane, texture info, edge-list range, edge and vertex
    ∷ (judge (sizes 900 20 40 12 4 12 20 2 56 1 24 8) gives refusal 23)
    ∷ (judge (sizes 0 0 40 12 4 12 20 2 56 1 24 8) gives refusal 35)
    ∷ (judge (sizes 0 20 0 12 4 12 20 2 56 1 24 8) gives refusal 35)
    ∷ (judge (sizes 0 20 40 8 4 12 20 2 56 1 24 8) gives refusal 35)
    ∷ (judge (sizes 0 20 40 12 0 12 20 2 56 1 24 8) gives refusal 35)
    ∷ (judge (sizes 0 20 40 12 4 0 20 2 56 1 24 8) gives refusal 35)
    -- a leaf's face list; a model's faces; its leaves
    ∷ (judge (sizes 0 20 40 12 4 12 20 0 56 1 24 8) gives refusal 35)
    ∷ (judge (sizes 0 20 40 12 4 12 0 2 56 1 24 8) gives refusal 35)
    ∷ (judge (sizes 0 20 40 12 4 12 20 2 28 1 24 8) gives refusal 35)
    -- the row of leaf 1, and a visibility section outside the file
    ∷ (judge (sizes 0 20 40 12 4 12 20 2 56 0 24 8) gives refusal 35)
    ∷ (judge (sizes 0 20 40 12 4 12 20 2 56 900 24 8) gives refusal 23)
    -- hull 0's root, and hull 1's
    ∷ (judge (sizes 0 20 40 12 4 12 20 2 56 1 0 8) gives refusal 30)
    ∷ (judge (sizes 0 20 40 12 4 12 20 2 56 1 24 0) gives refusal 30)
    -- a face's record before its plane, a row before a root
    ∷ (judge (sizes 900 0 40 12 4 12 20 2 56 1 24 8) gives refusal 23)
    ∷ (judge (sizes 0 20 40 12 4 12 20 2 56 0 24 0) gives refusal 35)
    ∷ []
