-- What a team can see: every leaf that one of the players' visibility lists holds (document 02, note 9).
use Rattle.std.specs.Prelude.{ℕ, zero, suc, ◌+◌, ◌-◌, Bool, true, false, cond, List, [], ◌∷◌, eqb, ltb, length}
use Rattle.format.specs.Answer.{Answer, answer, refused, mapped, then_answer}
use Rattle.format.specs.declared.section.BspData.{BspData}
use Rattle.vis.specs.Pvs.{pvs_of}

-- a list holds a number
unfoldable pub holds : ℕ → List ℕ → Bool
holds k [] = false
holds k (x ∷ xs) = cond (eqb x k) true (holds k xs)

-- one of the lists holds it
unfoldable pub seen : ℕ → List (List ℕ) → Bool
seen k [] = false
seen k (l ∷ ls) = cond (holds k l) true (seen k ls)

-- of the n leaves from `leaf` on, those that one of the lists holds, in order
unfoldable pub pooled : List (List ℕ) → ℕ → ℕ → List ℕ
pooled lists leaf zero = []
pooled lists leaf (suc n) = cond (seen leaf lists) (leaf ∷ pooled lists (leaf + 1) n) (pooled lists (leaf + 1) n)

-- the players' lists, or the first refusal in their order
unfoldable pub lists_of : List ℕ → BspData → ℕ → List ℕ → Answer (List (List ℕ))
lists_of file map count [] = answer []
lists_of file map count (leaf ∷ leaves) = then_answer (pvs_of file map leaf count) (λ l. mapped (λ (ls : List (List ℕ)). l ∷ ls) (lists_of file map count leaves))

-- The leaves below the count that one of the players sees, in order. More than 16 players are refused first.
unfoldable pub team_of : List ℕ → BspData → List ℕ → ℕ → Answer (List ℕ)
team_of file map leaves count =
    cond (ltb 16 (length leaves)) (refused 25) (mapped (λ (ls : List (List ℕ)). pooled ls 1 (count - 1)) (lists_of file map count leaves))
