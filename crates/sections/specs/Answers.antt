-- What the results of the functions stand for. A reader of the calls may leave this file out.
use Rattle.std.specs.Prelude.{ℕ, Result, Ok, Err}
use Rattle.format.specs.Step.{Step, ok, refused}
use Rattle.format.specs.Refusal.{number_of}
use Rattle.format.specs.declared.refusal.Refusal.{Refusal}

-- the position after what was read, or a refusal
abbrev pub position_step : Result ℕ Refusal → Step (Unit {0})
position_step (Ok p) = ok tt p
position_step (Err e) = refused (number_of e)

-- a check that found nothing, or a refusal
abbrev pub checked_step : Result (Unit {0}) Refusal → Step (Unit {0})
checked_step (Ok u) = ok u 0
checked_step (Err e) = refused (number_of e)
