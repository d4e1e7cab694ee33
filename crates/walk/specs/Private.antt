-- For the contracts of functions that no other crate can name; a reader of the calls may leave this file out.
-- The way that the code goes which writes rows in walking order (Writing.antt): whether each end can be read, and the rows one by one, front part before
-- back part; what is left of a trace's answer where it goes on; how many marks are set.
use Rattle.std.specs.Prelude.{ℕ, suc, ◌+◌, cond, List, [], ◌∷◌, eqb, length}
use Rattle.format.specs.Answer as Ans
use Rattle.format.specs.Answer.{Answer, answer}
use Rattle.walk.specs.Walk.{Outcome, done, refused, held}

-- how many marks are set
abbrev pub marked : List ℕ → ℕ
marked [] = 0
marked (m ∷ ms) = cond (eqb m 0) (marked ms) (suc (marked ms))

-- what a call answers, the answer and the visits, where v nodes were entered before
abbrev pub after : {A : Type 0} → ℕ → Outcome A → Answer (A × ℕ)
after v (done a ns) = answer (a, held (v + length ns))
after v (refused n) = Ans.refused n
