-- What the contracts of `ffi_walks` cite.
pub mod Calls
pub mod Private
pub mod Quick
