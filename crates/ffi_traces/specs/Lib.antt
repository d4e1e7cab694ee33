-- What the contracts of `ffi_traces` cite.
pub mod Layout
pub mod Calls
