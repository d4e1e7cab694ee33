-- What staff rely on, Note 4 of document 02, about the calls for C: where bsp_accept answered 0, "no query of document 01 with numbers in range, a checked root
-- and at most that leaf count is refused with 30 to 34", and for a file that bsp_load loaded each of them is answered. rota/specs/Promise.antt says it of the
-- definitions; records and entity texts are said there alone, since bsp_record and bsp_entities cannot answer 30 to 34.
--
--   a checked root      the root of every hull that bsp_hull gives, and render node 0: bsp_tree_check answers 0 for these, with marks enough; and every other
--                       table and root for which it answers 0
--   that leaf count     every count up to the number of leaves
use Rattle.std.specs.Prelude.{ℕ, ◌<◌, ◌≤◌, List, ◌≡◌, Float, length}
use Rattle.format.specs.Section.{record_count}
use Rattle.format.specs.declared.section.BspFileSectionId.TheVariants.{Leaves}
use Rattle.tree.specs.Readable.{Floats}
use Rattle.words.specs.Words.{map_of}
use Rattle.served.specs.Cited.{bsp_load, bsp_hull, bsp_tree_check, bsp_contents, bsp_find_leaf, bsp_trace, bsp_pvs, bsp_accept, point_at}
use Rattle.served.specs.NamedWords.{hull_table, hull_root, tree_height, render_table}
use Rattle.served.specs.EveryCall.{nodes_in, map_written, Calls}

-- a status that is not 30 to 34
abbrev pub NotByShape : ℕ → Type 0
NotByShape n = 30 ≤ n → n ≤ 34 → ⊥

module _ (s map : List ℕ) where
  -- the tree check passes
  pub record Roots : Type 0 where
    -- from the root of hull `index` of a model, by the words that bsp_hull left
    pub hulls : (model index : ℕ) (lent : List ℕ) → (bsp_hull s map model index lent).status ≡ 0
        → (marks : List ℕ) → (nodes_in s map (hull_table (bsp_hull s map model index lent).list)).count ≤ length marks → (out : List ℕ) → 1 ≤ length out
        → (bsp_tree_check s map (hull_table (bsp_hull s map model index lent).list) (hull_root (bsp_hull s map model index lent).list) marks out).status ≡ 0
    -- and from render node 0
    pub node_0 : (marks : List ℕ) → (nodes_in s map render_table).count ≤ length marks → (out : List ℕ) → 1 ≤ length out → (bsp_tree_check s map render_table 0 marks out).status ≡ 0

  -- a table and a root for which bsp_tree_check answers 0, with these marks and this list
  abbrev pub Passed : ℕ → ℕ → List ℕ → List ℕ → Type 0
  Passed table root marks out = (bsp_tree_check s map table root marks out).status ≡ 0

  -- no call is refused by the map's shape
  pub record NotRefused : Type 0 where
    pub roots : Roots
    pub contents : (table root : ℕ) (marks height : List ℕ) → Passed table root marks height → (hull : List ℕ) → hull_table hull ≡ table → hull_root hull ≡ root
        → (point : List Float) (out : List ℕ) → NotByShape (bsp_contents s map hull point out).status
    pub find_leaf : (root : ℕ) (marks height : List ℕ) → Passed render_table root marks height
        → (point : List Float) (out : List ℕ) → NotByShape (bsp_find_leaf s map root point out).status
    pub trace : (table root : ℕ) (marks height : List ℕ) → Passed table root marks height → (hull : List ℕ) → hull_table hull ≡ table → hull_root hull ≡ root
        → (segment : List Float) → Floats (point_at segment 0) → Floats (point_at segment 3) → (out : List ℕ) → NotByShape (bsp_trace s map hull segment out).status
    pub visibility : (leaf count : ℕ) → leaf < record_count Leaves (map_of map).leaves → count ≤ record_count Leaves (map_of map).leaves
        → (list out : List ℕ) → NotByShape (bsp_pvs s map leaf count list out).status

  -- each call is answered, if it is lent lists that are long enough
  pub record Answered : Type 0 where
    pub roots : Roots
    -- contents, leaf lookups, traces and their lists of nodes, with what demand 3 says of them (specs/EveryCall.antt)
    pub calls : (table root : ℕ) (marks height : List ℕ) → Passed table root marks height
        → Calls s map table root (tree_height (bsp_tree_check s map table root marks height).out)
    pub visibility : (leaf count : ℕ) → leaf < record_count Leaves (map_of map).leaves → count ≤ record_count Leaves (map_of map).leaves
        → (list : List ℕ) → count ≤ length list → (out : List ℕ) → 1 ≤ length out → (bsp_pvs s map leaf count list out).status ≡ 0

-- for every file and map words that passed, whoever made them
abbrev pub EveryMap : Type 0
EveryMap = (s map marks : List ℕ) → (bsp_accept s map marks).status ≡ 0 → NotRefused s map

-- and for the map words that bsp_load wrote
abbrev pub EveryFile : Type 0
EveryFile = (s lent marks : List ℕ) → (bsp_load s lent).status ≡ 0 → (bsp_accept s (map_written s lent) marks).status ≡ 0 → Answered s (map_written s lent)
