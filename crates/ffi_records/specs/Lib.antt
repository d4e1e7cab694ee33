-- What the contracts of `ffi_records` cite.
pub mod Calls
