-- What the contracts of `ffi_counts` cite.
pub mod Calls
