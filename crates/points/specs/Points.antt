-- Many points in one call (change request 7): what the call answers, and what it leaves in the lent list.
use Rattle.std.specs.Prelude.{ℕ, ◌%◌, Bool, cond, not, ◌||◌, List, [], ◌∷◌, ◌++◌, map, ltb, eqb, Float, length, drop}
use Rattle.format.specs.Answer.{Answer, answer, refused, mapped}
use Rattle.format.specs.Contents.{code_of}
use Rattle.format.specs.Listed.{Listed, listed}
use Rattle.format.specs.declared.contents.BspLeafContents.{BspLeafContents}
use Rattle.math.specs.Vector.{vector}
use Rattle.math.specs.declared.vector.Vector3.{Vector3}
use Rattle.walk.specs.Table.{Table}
use Rattle.ways.specs.Ways.{answers, reads}

-- the points of coordinates in threes
abbrev pub points_of : List Float → List Vector3
points_of [] = []
points_of (x ∷ []) = []
points_of (x ∷ y ∷ []) = []
points_of (x ∷ y ∷ z ∷ rest) = vector x y z ∷ points_of rest

-- more than 1,024 points, or coordinates not in threes
abbrev pub not_points : List Float → Bool
not_points cs = ltb 3072 (length cs) || not (eqb (length cs % 3) 0)

-- the codes of the points, in their order, and the reads; or the first refused point's refusal
abbrev pub codes_and_reads : {E : Type 0} → Table E BspLeafContents → ℕ → List Vector3 → Answer (List ℕ × ℕ)
codes_and_reads T root ps = mapped (λ cs. (map code_of cs, reads T root ps)) (answers T root ps)

-- the codes at the front of the lent list, whose other entries are kept; a refusal leaves the list as it is
abbrev pub filled : Answer (List ℕ × ℕ) → List ℕ → Listed
filled (answer x) lent = listed (answer x.1) (x.0 ++ drop (length x.0) lent)
filled (refused r) lent = listed (refused r) lent

-- where the list has an entry for each point
abbrev pub answered : {E : Type 0} → Table E BspLeafContents → ℕ → List Float → List ℕ → Listed
answered T root cs lent = filled (codes_and_reads T root (points_of cs)) lent

-- 24, then 22, then the first refused point's refusal; else a code for each point, and the reads
unfoldable pub contents_of_points : {E : Type 0} → Table E BspLeafContents → ℕ → List Float → List ℕ → Listed
contents_of_points T root cs lent =
    cond (not_points cs) (listed (refused 24) lent)
    (cond (ltb (length lent) (length (points_of cs))) (listed (refused 22) lent)
    (answered T root cs lent))
