-- What a team can see on a small map in bytes: pooled lists, and the order of the refusals. Assumes nothing.
use mathlib.Core.Path.{◌≡◌, refl}
use mathlib.Core.List.{List, [], ◌∷◌, ◌++◌}
use Prim.Native.Nat.{ℕ}
use lib.ListN.{replicate}
use Rattle.format.specs.Answer.{answer, refused}
use Rattle.format.specs.Code.{contents_of, negated_contents}
use Rattle.format.specs.Field.{u16_at, u32_at, i16_at, i32_at}
use Rattle.format.specs.Listed.{Listed, listed, into}
use Rattle.format.specs.Section.{record_count, place}
use Rattle.format.specs.declared.section.BspData.{BspData}
use Rattle.format.specs.declared.section.BspFileSection.{BspFileSection}
use Rattle.records.specs.Access.{record_of}
use Rattle.records.specs.Leaf.{contents_at, leaf_end_at, leaf_at}
use Rattle.records.specs.Number.{offset_of, offset_at}
use Rattle.records.specs.Triple.{point_at}
use Rattle.vis.specs.Row.{bits, row_bits, visible, row_at}
use Rattle.vis.specs.Pvs.{visibility_of, section_row, pvs_of}
use Rattle.team.specs.Team.{holds, seen, pooled, lists_of, team_of}

-- a leaf of contents -1, Empty, with its visibility offset
abbrev leaf_bytes : List ℕ → List ℕ
leaf_bytes offset = (255 ∷ 255 ∷ 255 ∷ 255 ∷ []) ++ offset ++ replicate 20 0

-- five leaves: leaf 1 has the row 5, 1 at 0, leaf 3 the row 2, 1 at 2, leaf 4 a row that lies outside, the others none
abbrev file : List ℕ
file =
    leaf_bytes (replicate 4 255) ++ leaf_bytes (replicate 4 0) ++ leaf_bytes (replicate 4 255) ++ leaf_bytes (2 ∷ replicate 3 0) ++ leaf_bytes (9 ∷ replicate 3 0)
    ++ (5 ∷ 1 ∷ 2 ∷ 1 ∷ [])

abbrev empty : BspFileSection
empty = record { offset = 0; size = 0 }

abbrev map : BspData
map = record {
  entities = empty;
  planes = empty;
  textures = empty;
  vertices = empty;
  visibility = record { offset = 140; size = 4 };
  render_nodes = empty;
  texinfo = empty;
  faces = empty;
  lightmaps = empty;
  collision_nodes = empty;
  leaves = record { offset = 0; size = 140 };
  facelist = empty;
  edges = empty;
  edgelist = empty;
  models = empty;
  texture_count = 0;
}

-- the call for ten leaves with a lent list of so many sevens
abbrev call : ℕ → List ℕ → Listed
call lent leaves = into (team_of file map leaves 10) (replicate lent 7)

abbrev refusal : ℕ → ℕ → Listed
refusal n lent = listed (refused n) (replicate lent 7)

-- In the order of the lines: two players; the same two, each twice and the other way round; players with no row beside one; sixteen in one
-- leaf; players with no row, and no players; a leaf that there is not after a row outside the data, and before it; more than sixteen players,
-- before any refusal of theirs; a list that is too short, after it.
order :
    call 5 (1 ∷ 3 ∷ []) ∷ call 5 (3 ∷ 1 ∷ 3 ∷ 1 ∷ []) ∷ call 3 (0 ∷ 1 ∷ 2 ∷ []) ∷ call 4 (replicate 16 1) ∷ call 1 (0 ∷ 2 ∷ []) ∷ call 0 []
    ∷ call 5 (1 ∷ 4 ∷ 5 ∷ []) ∷ call 5 (1 ∷ 5 ∷ 4 ∷ []) ∷ call 5 (replicate 17 5) ∷ call 3 (1 ∷ 3 ∷ []) ∷ call 3 (1 ∷ 3 ∷ 4 ∷ []) ∷ []
    ≡ listed (answer 4) (1 ∷ 2 ∷ 3 ∷ 9 ∷ 7 ∷ []) ∷ listed (answer 4) (1 ∷ 2 ∷ 3 ∷ 9 ∷ 7 ∷ []) ∷ listed (answer 3) (1 ∷ 3 ∷ 9 ∷ []) ∷ listed (answer 3) (1 ∷ 3 ∷ 9 ∷ 7 ∷ [])
    ∷ listed (answer 0) (7 ∷ []) ∷ listed (answer 0) [] ∷ refusal 33 5 ∷ refusal 20 5 ∷ refusal 25 5 ∷ refusal 22 3 ∷ refusal 33 3 ∷ []
unfolding team_of lists_of pooled seen holds pvs_of section_row visibility_of row_at row_bits bits visible record_of place record_count leaf_at contents_at negated_contents contents_of i32_at u32_at offset_at offset_of leaf_end_at point_at i16_at u16_at
order = refl
