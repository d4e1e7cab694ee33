-- What the contract of `ffi_load` cites.
pub mod Calls
