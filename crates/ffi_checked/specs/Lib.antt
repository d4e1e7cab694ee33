-- What the contract of `ffi_checked` cites.
pub mod Calls
