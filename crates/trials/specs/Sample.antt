-- For the contracts of functions that no other crate can name; a reader of the calls may leave this file out.
-- Where the parts of a stored case lie among the words of a sample.
use Rattle.std.specs.Prelude.{Option, Some, None, ℕ, ◌+◌, ◌≤◌}
use Rattle.trials.specs.declared.replay.Case.{Case}

-- In n words, a case from `at` on: kind and number of arguments, the arguments up to the refusal's number, the number of answer words, these
-- words up to the next case.
abbrev pub Lies : ℕ → ℕ → Option Case → Type 0
Lies n at (Some case) = (at + 2 ≤ case.refusal) × (case.refusal + 2 ≤ case.next) × (case.next ≤ n)
Lies n at None = Unit {0}
