-- `ffi_place::place` meets its contract. Assumes nothing.
use Rattle.ffi_place.proofs.Placing.{it_loads, it_is_refused}
use Rattle.ffi_place.proofs.place.Goals as goal

pub returns-in-Ok : goal.returns-in-Ok
returns-in-Ok c = search (it_loads) depth 8

pub returns-in-Err : goal.returns-in-Err
returns-in-Err c = search (it_is_refused) depth 8
