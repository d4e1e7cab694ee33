-- For the contracts of functions that no other crate can name; a reader of the calls may leave this file out.
-- The nodes that a walk goes on to, one after the other.
use Rattle.std.specs.Prelude.{ℕ, zero, suc, cond, List, [], ◌∷◌, ltb}
use Rattle.math.specs.Plane as Pl
use Rattle.math.specs.declared.vector.Vector3.{Vector3}
use Rattle.format.specs.Answer as Ans
use Rattle.format.specs.Answer.{Answer, answer}
use Rattle.walk.specs.Table.{Child, node, end, child_on, Table}
use Rattle.walk.specs.Walk.{Entered, enter}

abbrev pub node_or0 : {E : Type 0} → Child E → ℕ
node_or0 (node n) = n
node_or0 (end e) = 0

abbrev pub onward : {E : Type 0} → Vector3 → Answer (Entered E) → ℕ
onward p (answer m) = node_or0 (child_on m.nd (Pl.point_side m.plane p))
onward p (Ans.refused n) = 0

unfoldable pub next : {E A : Type 0} → Table E A → Vector3 → ℕ → ℕ
next T p i = onward p (enter T i)

unfoldable pub trail : {E A : Type 0} → Table E A → Vector3 → ℕ → ℕ → List ℕ
trail T p zero i = []
trail T p (suc n) i = i ∷ trail T p n (next T p i)

-- the trail of a walk of v visits from a root; 30 where the root is outside its table
unfoldable pub trail_from : {E A : Type 0} → Table E A → Vector3 → ℕ → ℕ → Answer (List ℕ)
trail_from T p v root = cond (ltb root T.nodes.count) (answer (trail T p v root)) (Ans.refused 30)
