-- Where reading records in a row stops.
use Rattle.std.specs.Prelude.{ℕ, zero, suc, ◌+◌}
use Rattle.format.specs.Step.{Step, ok, refused}
use Rattle.place.specs.declared.part.Stop.{Stop}

-- the record of an index, at a position of the file
abbrev pub stop : ℕ → ℕ → Stop
stop i at = record { index = i; byte = at }

-- here where a reader refuses, else further on
abbrev pub here_or : {A : Type 0} → Step A → Stop → (A → ℕ → Stop) → Stop
here_or (ok v p) here further = further v p
here_or (refused n) here further = here

-- where reading n records stops, from record i on: at the first that is refused, or after the last
unfoldable pub stops : {A : Type 0} → (ℕ → ℕ → Step A) → ℕ → ℕ → ℕ → Stop
stops one zero i at = stop i at
stops one (suc n) i at = here_or (one i at) (stop i at) (λ v p. stops one n (i + 1) p)
