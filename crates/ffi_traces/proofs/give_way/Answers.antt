-- `ffi_traces::give_way` meets its contract. Assumes nothing.
use mathlib.Core.Path.{refl}
use lib.ListN.{length}
use Rattle.words.proofs.Giving.{refuses, gives}
use Rattle.hull.specs.Traces.{at_start, went_trace, way_answer}
use Rattle.ffi_traces.specs.Layout.{trace_words}
use Rattle.ffi_traces.proofs.Long.{long}
use Rattle.ffi_traces.proofs.give_way.Goals as goal

pub returns-in-Err : goal.returns-in-Err
returns-in-Err c = let a = c.args in refuses (way_answer a.file.now a.t (at_start a.start)) trace_words refl c.in-Err.is refl c.number.ensures

pub returns-in-Ok : goal.returns-in-Ok
returns-in-Ok c = let a = c.args in
    let part = c.in-Ok.part in
    gives (way_answer a.file.now a.t (at_start a.start)) trace_words a.out.now refl c.in-Ok.is refl c.went_words.ensures
    (long (went_trace a.file.now a.t (at_start a.start) part, part.visits) (length a.out.now) c.requires) c.give.ensures
