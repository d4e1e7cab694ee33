-- What the results of the functions stand for. A reader of the calls may leave this file out.
use Rattle.std.specs.Prelude.{Result, Ok, Err}
use Rattle.format.specs.declared.refusal.Refusal.{Refusal}
use Rattle.format.specs.Refusal.{number_of}
use Rattle.format.specs.Step.{Step, ok, refused}
use Rattle.format.specs.Answer.{Answer}
use Rattle.format.specs.declared.section.BspData.{BspData}
use Rattle.load.specs.Load.{outcome}

abbrev pub loaded_step : Result BspData Refusal → Step BspData
loaded_step (Ok m) = ok m 0
loaded_step (Err e) = refused (number_of e)

abbrev pub loaded_answer : Result BspData Refusal → Answer BspData
loaded_answer r = outcome (loaded_step r)
