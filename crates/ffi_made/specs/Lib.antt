-- What the contract of `ffi_made` cites.
pub mod Calls
