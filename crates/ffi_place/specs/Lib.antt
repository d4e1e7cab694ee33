-- What the contracts of `ffi_place` cite.
pub mod Calls
