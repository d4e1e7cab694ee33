-- What a result of `src/` stands for.
use Rattle.std.specs.Prelude.{ℕ, List, Result}
use Rattle.std.specs.Borrow.{Bor}
use Rattle.format.specs.Answer.{Answer, mapped}
use Rattle.format.specs.Answers.{answer_of}
use Rattle.format.specs.declared.refusal.Refusal.{Refusal}

-- bytes that were lent, or the refusal's number
abbrev pub bytes_of : Result (Bor (List ℕ)) Refusal → Answer (List ℕ)
bytes_of r = mapped (λ b. b.now) (answer_of r)
