-- For the contracts of functions that no other crate can name; a reader of the calls may leave this file out.
-- Where the players' rows start, and whether all their lists are answered.
use Rattle.std.specs.Prelude.{Option, Some, None, ℕ, cond, List, [], ◌∷◌, ◌++◌, eqb}
use Rattle.format.specs.Answer.{Answer, answer, refused}
use Rattle.format.specs.declared.section.BspData.{BspData}
use Rattle.format.specs.declared.section.BspFileSection.{BspFileSection}
use Rattle.records.specs.Leaf.{leaf_of}
use Rattle.records.specs.declared.leaf.BspLeaf.{BspLeaf}
use Rattle.vis.specs.Pvs.{visibility_of}

-- whether there is an answer, or with what it is refused
abbrev pub whether : {A : Type 0} → Answer A → Answer Unit
whether (answer a) = answer tt
whether (refused n) = refused n

-- the entries of an answer, none of a refusal
abbrev pub or_none : Answer (List ℕ) → List ℕ
or_none (answer l) = l
or_none (refused n) = []

-- the visibility data, where it can be read
abbrev pub data_of : List ℕ → BspFileSection → List ℕ
data_of file z = or_none (visibility_of file z)

-- the offset of a leaf's row, where it has one
abbrev pub offset_in : Option ℕ → List ℕ
offset_in None = []
offset_in (Some offset) = offset ∷ []

abbrev pub offset_of_leaf : Answer BspLeaf → List ℕ
offset_of_leaf (answer l) = offset_in l.vis_offset
offset_of_leaf (refused n) = []

-- the same by the leaf's number: leaf 0 has no row
unfoldable pub start_of : List ℕ → BspData → ℕ → List ℕ
start_of file map leaf = cond (eqb leaf 0) [] (offset_of_leaf (leaf_of file map leaf))

-- the offsets of the players' rows, in their order
unfoldable pub starts_of : List ℕ → BspData → List ℕ → List ℕ
starts_of file map [] = []
starts_of file map (leaf ∷ leaves) = start_of file map leaf ++ starts_of file map leaves
