-- The nodes that a walk or a trace enters, as a call lists them.
use Rattle.std.specs.Prelude.{ℕ, List}
use Rattle.format.specs.Answer as Ans
use Rattle.format.specs.Answer.{Answer, answer}
use Rattle.walk.specs.Walk.{Outcome, done, refused}

-- what a call lists: the nodes entered, in order, or a refusal's number
abbrev pub nodes_entered : {A : Type 0} → Outcome A → Answer (List ℕ)
nodes_entered (done a ns) = answer ns
nodes_entered (refused n) = Ans.refused n
